use Rattle.code.specs.Solving.{Reduced, KeptFrom}
use Rattle.code.proofs.solver.reduce.Given as goal

abbrev pub invariant-loop-e : goal.invariant-loop-e
invariant-loop-e g l = Reduced g.F.Field.arith l.a l.initial.sides l.sides l.e × KeptFrom l.initial.sides l.sides l.e
