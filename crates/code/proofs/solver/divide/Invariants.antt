use Rattle.code.specs.Solving.{Codes, Divided, KeptFrom}
use Rattle.code.proofs.solver.divide.Given as goal

abbrev pub invariant-loop-k : goal.invariant-loop-k
invariant-loop-k g l = Divided g.F.Field.arith l.a l.nodes l.initial.sides l.sides l.k × Codes g.F.Field.arith l.sides l.k × KeptFrom l.initial.sides l.sides l.k
