use Rattle.code.proofs.solver.+solve_first.Given as goal

abbrev pub decreases-solve_first : goal.decreases-solve_first
decreases-solve_first g l = l.n
