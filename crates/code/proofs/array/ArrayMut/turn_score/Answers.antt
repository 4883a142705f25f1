use Rattle.std.proofs.Common.{◌+◌, ◌^◌, sym, ◌∙◌, subst, arith}
use Rattle.shape.specs.Listing.{outages}
use Rattle.shape.specs.Outages.{among}
use Rattle.shape.specs.declared.dimensions.Shape.{Shape}
use Rattle.shape.proofs.Bounds.{shaped}
use Rattle.code.specs.Arrays.{Stays, symbols_in}
use Rattle.code.specs.Steps.{NodeTurned, ScoreTurned}
use Rattle.code.specs.declared.array.ArrayMut.{ArrayMut}
use Rattle.code.proofs.Coupling.{turned_skip, turned_more}
use Rattle.code.proofs.Stays.{stays_both}
use Rattle.code.proofs.array.ArrayMut.turn_score.Goals as goal
use Rattle.code.proofs.array.ArrayMut.turn_score.Goals.{then-contains, else-contains}

pub loop-node-preserved : goal.loop-node-preserved
loop-node-preserved g c =
    let f = g.F.Field.arith in
    let laws = g.met.F.Field.lawful in
    let before = c.args.self.now in
    let now = c.loop-node.self in
    let s = before.shape in
    let S = among (outages c.args.out.now) in
    let i = c.loop-node.node in
    let inv = c.loop-node.invariant in
    let A = λ (a : ArrayMut g.row.F.Denot). symbols_in f a in
    let G : ArrayMut g.row.F.Denot → Type 0 = λ a. record { turned : ScoreTurned f s.q s.t S c.args.level (i + 1) (A before) (A a); stays : Stays f before a } in
    elim c.if-contains.branch [
      | then-contains w ↦ subst G (sym w.self-is) (record {
        turned = turned_more f laws (shaped s) S c.args.level i (A before) (A now) (A w.turn_node.new.self) (omega arith) (sym c.contains.ensures ∙ w.if-contains.true) inv.turned
            (subst (λ (z : Shape). NodeTurned f z.q z.t S c.args.level i (z.q ^ z.t) (A now) (A w.turn_node.new.self)) inv.stays.same_shape w.turn_node.ensures.turned);
        stays = stays_both f before now w.turn_node.new.self inv.stays w.turn_node.ensures.stays;
      })
      | else-contains w ↦ subst G (sym w.self-is) (record {
        turned = turned_skip f laws (shaped s) S c.args.level i (A before) (A now) (sym c.contains.ensures ∙ w.if-contains.false) inv.turned;
        stays = inv.stays;
      })
    ]
