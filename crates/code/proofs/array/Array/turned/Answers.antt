use Rattle.std.proofs.Common.{◌≡◌, ◌≤◌, false, ◌⊎◌, sym, ap, ◌∙◌, ap₂, inl, inr, arith}
use Rattle.shape.specs.Layout.{companion_node}
use Rattle.shape.specs.Listing.{outages}
use Rattle.shape.specs.Outages.{among}
use Rattle.shape.proofs.Bounds.{shaped}
use Rattle.code.specs.Arrays.{symbols_of}
use Rattle.code.specs.Code.{minus}
use Rattle.code.specs.Filling.{of_pair}
use Rattle.code.proofs.Coupling.{now_own, now_both, now_one}
use Rattle.code.proofs.array.Array.turned.Goals as goal
use Rattle.code.proofs.array.Array.turned.Goals.{else-c-node-via-then-c-node+else-contains, else-c-node-via-else-c-node}

pub returns-in_default : goal.returns-in_default
returns-in_default g c =
    let f = g.F.Field.arith in
    c.symbol-own.ensures
    ∙ sym (now_own f g.met.F.Field.lawful (shaped c.args.self.now.shape) (among (outages c.args.out.now)) (symbols_of f c.args.self.now) c.args.node c.args.place c.in_default.ensures)

pub returns-then-contains : goal.returns-then-contains
returns-then-contains g c =
    let f = g.F.Field.arith in
    let S = among (outages c.args.out.now) in
    let A = symbols_of f c.args.self.now in
    let h = c.in-Some.ensures in
    c.of_pair.ensures ∙ ap₂ (of_pair f) c.symbol-own.ensures (c.symbol-other.ensures ∙ ap₂ A h.1 h.2)
    ∙ sym (now_both f g.met.F.Field.lawful (shaped c.args.self.now.shape) S A c.args.node c.args.place h.0 (let l = c.if-c-node.true in omega (arith, h.1)) (ap S (sym h.1) ∙ sym c.if-contains.ensures))

pub returns-else-c-node : goal.returns-else-c-node
returns-else-c-node g c =
    let f = g.F.Field.arith in
    let s = c.args.self.now.shape in
    let S = among (outages c.args.out.now) in
    let A = symbols_of f c.args.self.now in
    let h = c.in-Some.ensures in
    let which : (companion_node s.q c.args.node c.args.place ≤ c.args.node) ⊎ (S (companion_node s.q c.args.node c.args.place) ≡ false) =
    elim c.else-c-node.branch [
      | else-c-node-via-then-c-node+else-contains w ↦ inr (ap S (sym h.1) ∙ sym w.contains.ensures ∙ w.if-contains.false)
      | else-c-node-via-else-c-node w ↦ inl (let l = w.if-c-node.false in omega (arith, h.1))
    ] in
    c.difference.ensures
    ∙ ap₂ (minus f) c.symbol-own.ensures (c.product.ensures ∙ ap₂ f.product c.coupling_element.ensures (c.symbol-other.ensures ∙ ap₂ A h.1 h.2))
    ∙ sym (now_one f g.met.F.Field.lawful (shaped s) S A c.args.node c.args.place h.0 which)
