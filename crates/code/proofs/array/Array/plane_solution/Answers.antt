use Rattle.std.proofs.Common.{◌≡◌, ◌*◌, ◌^◌, true, ap, ◌∙◌, subst, arith, length-take}
use Rattle.shape.specs.Listing.{outages}
use Rattle.shape.specs.Outages.{rising}
use Rattle.shape.proofs.Bounds.{shaped}
use Rattle.code.specs.Reading.{read, symbols}
use Rattle.code.specs.Solving.{points, reads}
use Rattle.code.specs.Theorems.{Solves}
use Rattle.code.proofs.PlaneSolution.{plane_solved}
use Rattle.code.proofs.Words.{read_written}
use Rattle.code.proofs.array.Array.plane_solution.Goals as goal

pub returns : goal.returns
returns g c =
    let f = g.F.Field.arith in
    let laws = g.met.F.Field.lawful in
    let s = c.args.self.now.shape in
    let o = c.args.out.now in
    let h = o.held in
    let l = length-take o.len o.numbers in
    let rises : rising (s.q * s.t) (outages o) ≡ true = subst (λ n. rising n (outages o) ≡ true) c.requires.count o.rises in
    plane_solved f laws (shaped s) (outages o) rises (symbols f (s.q ^ s.t) c.args.self.now.words.now) c.args.place c.plane_sides-sides.result c.solve_first.new.sides
    (λ e le. ap (read f) (c.plane_sides-sides.ensures e (omega arith)) ∙ read_written f laws _)
    (subst (λ m. Solves f (points f (outages o)) (reads f c.solve_first.new.sides) (reads f c.plane_sides-sides.result) m) c.len.ensures c.solve_first.ensures.solves)
