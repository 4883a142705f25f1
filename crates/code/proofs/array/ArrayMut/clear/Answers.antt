use Rattle.std.proofs.Common.{◌+◌, ◌^◌, sym, ◌∙◌, subst}
use Rattle.shape.specs.Listing.{outages}
use Rattle.shape.specs.Outages.{among}
use Rattle.shape.specs.declared.dimensions.Shape.{Shape}
use Rattle.code.specs.Arrays.{Stays, words_in}
use Rattle.code.specs.Steps.{NodeCleared, Cleared}
use Rattle.code.specs.declared.array.ArrayMut.{ArrayMut}
use Rattle.code.proofs.Clearing.{clear_skip, clear_more}
use Rattle.code.proofs.Stays.{stays_both}
use Rattle.code.proofs.array.ArrayMut.clear.Goals as goal
use Rattle.code.proofs.array.ArrayMut.clear.Goals.{then-contains, else-contains}

pub loop-node-preserved : goal.loop-node-preserved
loop-node-preserved g c =
    let f = g.F.Field.arith in
    let before = c.args.self.now in
    let now = c.loop-node.self in
    let S = among (outages c.args.out.now) in
    let P = before.shape.q ^ before.shape.t in
    let i = c.loop-node.node in
    let inv = c.loop-node.invariant in
    let W = λ (a : ArrayMut g.row.F.Denot). words_in a in
    let G : ArrayMut g.row.F.Denot → Type 0 = λ a. record { cleared : Cleared P S (i + 1) (W before) (W a); stays : Stays f before a } in
    elim c.if-contains.branch [
      | then-contains w ↦ subst G (sym w.self-is) (record {
        cleared = clear_more P S i (W before) (W now) (W w.clear_node.new.self) (sym c.contains.ensures ∙ w.if-contains.true) inv.cleared
            (subst (λ (z : Shape). NodeCleared (z.q ^ z.t) i (z.q ^ z.t) (W now) (W w.clear_node.new.self)) inv.stays.same_shape w.clear_node.ensures.cleared);
        stays = stays_both f before now w.clear_node.new.self inv.stays w.clear_node.ensures.stays;
      })
      | else-contains w ↦ subst G (sym w.self-is) (record {
        cleared = clear_skip P S i (W before) (W now) (sym c.contains.ensures ∙ w.if-contains.false) inv.cleared;
        stays = inv.stays;
      })
    ]
