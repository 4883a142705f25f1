use Rattle.std.proofs.Common.{◌≡◌, ◌+◌, sym, ◌∙◌, subst, arith}
use Rattle.shape.specs.Listing.{outages}
use Rattle.shape.specs.Outages.{among}
use Rattle.shape.specs.declared.dimensions.Shape.{Shape}
use Rattle.shape.proofs.Bounds.{shaped}
use Rattle.code.specs.Arrays.{Stays, symbols_in}
use Rattle.code.specs.Filling.{score}
use Rattle.code.specs.Steps.{PlaneSolved, ScoreSolved}
use Rattle.code.specs.declared.array.ArrayMut.{ArrayMut}
use Rattle.code.proofs.Scored.{solved_skip, solved_more}
use Rattle.code.proofs.Stays.{stays_both}
use Rattle.code.proofs.array.ArrayMut.solve_score.Goals as goal
use Rattle.code.proofs.array.ArrayMut.solve_score.Goals.{then-score-level, else-score-level}

pub loop-place-preserved : goal.loop-place-preserved
loop-place-preserved g c =
    let f = g.F.Field.arith in
    let laws = g.met.F.Field.lawful in
    let before = c.args.self.now in
    let now = c.loop-place.self in
    let s = before.shape in
    let S = among (outages c.args.out.now) in
    let p = c.loop-place.place in
    let inv = c.loop-place.invariant in
    let e : now.shape ≡ s = inv.stays.same_shape in
    let A = λ (a : ArrayMut g.row.F.Denot). symbols_in f a in
    let G : ArrayMut g.row.F.Denot → Type 0 = λ a. record { solved : ScoreSolved f s.q s.t S c.args.level (p + 1) (A before) (A a); stays : Stays f before a } in
    let sc : c.score.result ≡ score s.q s.t S p = subst (λ (z : Shape). c.score.result ≡ score z.q z.t S p) e c.score.ensures in
    elim c.if-score-level.branch [
      | then-score-level w ↦ subst G (sym w.self-is) (record {
        solved = solved_more f laws (shaped s) S c.args.level p (A before) (A now) (A w.solve_plane.new.self) (omega arith) (sym sc ∙ w.if-score-level.true) inv.solved
            (subst (λ (z : Shape). PlaneSolved f z.q z.t S p (A now) (A w.solve_plane.new.self)) e w.solve_plane.ensures.solved);
        stays = stays_both f before now w.solve_plane.new.self inv.stays w.solve_plane.ensures.stays;
      })
      | else-score-level w ↦ subst G (sym w.self-is) (record {
        solved = solved_skip f laws (shaped s) S c.args.level p (A before) (A now) (λ h. w.if-score-level.false (sc ∙ h)) inv.solved;
        stays = inv.stays;
      })
    ]
