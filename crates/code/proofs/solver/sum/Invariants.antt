use Rattle.std.proofs.Common.{◌≡◌}
use Rattle.code.specs.Code.{total}
use Rattle.code.specs.Solving.{reads}
use Rattle.code.proofs.solver.sum.Given as goal

abbrev pub invariant-loop-side : goal.invariant-loop-side
invariant-loop-side g l = l.sum ≡ total g.F.Field.arith (reads g.F.Field.arith l.sides) l.side-index
