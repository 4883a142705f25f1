use Rattle.std.proofs.Common.{◌≡◌, ℕ, suc, ◌-◌, get_or, length, drop, ◌++◌, length-append, length-drop, ap, ◌∙◌, subst, arith}
use Rattle.shape.specs.Listing.{outages}
use Rattle.code.specs.Solving.{Divided}
use Rattle.code.proofs.InPlace.{listed_apart, reduced_front, solved_call, divided_front, total_front}
use Rattle.code.proofs.solver.+solve_first.Goals as goal

pub returns-then-n-gt0-clause-solves : goal.returns-then-n-gt0-clause-solves
returns-then-n-gt0-clause-solves g t c =
    let f = g.F.Field.arith in
    let laws = g.met.F.Field.lawful in
    let o = c.args.out.now in
    let nodes = outages o in
    let k : ℕ = c.args.n - 1 in
    let is : suc k ≡ c.args.n = omega arith in
    let few = o.few in
    let apart = listed_apart f laws o.count nodes few o.rises in
    let listed = c.as_slice-nodes.ensures in
    let long = ap length listed in
    let d = c.divide.ensures in
    let xs = c.as_slice-nodes.result.now in
    let divided = divided_front f laws c.point-a.result xs c.solve_first.new.sides c.divide.new.sides k _ (omega arith) (omega arith) (d.divided, d.codes, d.kept) in
    let v = c.args.sides.now in
    let reduced = reduced_front f laws c.point-a.result v c.reduce.new.sides c.args.n k c.requires.room (omega (arith, length-append c.reduce.new.sides (drop c.args.n v), length-drop c.args.n v)) is (c.reduce.ensures.reduced, c.reduce.ensures.kept) in
    let r = solved_call f laws nodes v (c.reduce.new.sides ++ drop c.args.n v) c.solve_first.new.sides c.divide.new.sides k c.args.n c.code.result
    c.point-a.result c.element-first.result c.sum-rest.result c.difference.result is c.requires.room (omega arith)
    (c.point-a.ensures ∙ ap (λ ns. f.point (get_or ns k 0)) listed) (λ i j li lj. apart i j (omega arith) (omega arith))
    reduced
    (c.solve_first.ensures.solves, c.solve_first.ensures.kept)
    (subst (λ ns. Divided f c.point-a.result ns c.solve_first.new.sides c.divide.new.sides k) listed divided.0, divided.1, divided.2)
    c.element-first.ensures (c.sum-rest.ensures ∙ total_front f laws c.divide.new.sides k _ (omega arith) (omega arith)) c.difference.ensures c.code.ensures in
    r.0
