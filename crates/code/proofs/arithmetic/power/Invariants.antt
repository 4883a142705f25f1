use Rattle.std.proofs.Common.{◌≡◌}
use Rattle.code.specs.Code.{power}
use Rattle.code.proofs.arithmetic.power.Given as goal

abbrev pub invariant-loop : goal.invariant-loop
invariant-loop g l = l.result ≡ power g.F.Field.arith l.a l.counter
