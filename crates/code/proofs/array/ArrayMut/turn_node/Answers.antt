use Rattle.std.proofs.Common.{◌≡◌, ◌+◌, ◌^◌, sym, ◌∙◌, subst, ap₂, arith}
use Rattle.shape.specs.Listing.{outages}
use Rattle.shape.specs.Outages.{among}
use Rattle.shape.specs.declared.dimensions.Shape.{Shape}
use Rattle.shape.proofs.Bounds.{shaped}
use Rattle.code.specs.Arrays.{Stays, symbols_in}
use Rattle.code.specs.Filling.{score}
use Rattle.code.specs.Steps.{NodeTurned, Wrote, turn_now}
use Rattle.code.specs.declared.array.ArrayMut.{ArrayMut}
use Rattle.code.proofs.Coupling.{node_skip, node_more}
use Rattle.code.proofs.Stays.{stays_both, seen}
use Rattle.code.proofs.array.ArrayMut.turn_node.Goals as goal
use Rattle.code.proofs.array.ArrayMut.turn_node.Goals.{then-score-level, else-score-level}

pub loop-place-preserved : goal.loop-place-preserved
loop-place-preserved g c =
    let f = g.F.Field.arith in
    let laws = g.met.F.Field.lawful in
    let before = c.args.self.now in
    let now = c.loop-place.self in
    let s = before.shape in
    let S = among (outages c.args.out.now) in
    let i = c.args.node in
    let p = c.loop-place.place in
    let inv = c.loop-place.invariant in
    let e : now.shape ≡ s = inv.stays.same_shape in
    let A = λ (a : ArrayMut g.row.F.Denot). symbols_in f a in
    let G : ArrayMut g.row.F.Denot → Type 0 = λ a. record { turned : NodeTurned f s.q s.t S c.args.level i (p + 1) (A before) (A a); stays : Stays f before a } in
    let sc : c.score.result ≡ score s.q s.t S p = subst (λ (z : Shape). c.score.result ≡ score z.q z.t S p) e c.score.ensures in
    elim c.if-score-level.branch [
      | then-score-level w ↦ subst G (sym w.self-is) (record {
        turned = node_more f laws (shaped s) S c.args.level i c.requires p (A before) (A now) (A w.write_symbol.new.self) w.turned-a.result (omega arith)
            (sym sc ∙ w.if-score-level.true) inv.turned
            (w.turned-a.ensures ∙ ap₂ (λ (z : Shape) B. turn_now f z.q z.t S B i p) (w.view.ensures.shape ∙ e) (seen f w.view.result now w.view.ensures.shape w.view.ensures.words))
            (subst (λ (z : Shape). Wrote (z.q ^ z.t) i p w.turned-a.result (A now) (A w.write_symbol.new.self)) e w.write_symbol.ensures.wrote);
        stays = stays_both f before now w.write_symbol.new.self inv.stays w.write_symbol.ensures.stays;
      })
      | else-score-level w ↦ subst G (sym w.self-is) (record {
        turned = node_skip f laws (shaped s) S c.args.level i c.requires p (A before) (A now) (λ h. w.if-score-level.false (sc ∙ h)) inv.turned;
        stays = inv.stays;
      })
    ]
