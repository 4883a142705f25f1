use Rattle.std.proofs.Common.{◌≡◌, ◌^◌, sym, ap, ◌∙◌, ap₂, add-one}
use Rattle.std.proofs.lemmas.Bool.{cond-true, cond-false}
use Rattle.shape.specs.Listing.{outages}
use Rattle.shape.specs.Outages.{among}
use Rattle.code.specs.Code.{moment, power}
use Rattle.code.specs.Filling.{known}
use Rattle.code.specs.Reading.{symbols}
use Rattle.code.proofs.Sums.{moment_none, moment_more}
use Rattle.code.proofs.array.Array.known_sum.Goals as goal
use Rattle.code.proofs.array.Array.known_sum.Goals.{then-contains, else-contains}

pub loop-node-init : goal.loop-node-init
loop-node-init g c = c.zero-sum.ensures ∙ sym (moment_none g.F.Field.arith g.met.F.Field.lawful _ _ _)

pub loop-node-preserved : goal.loop-node-preserved
loop-node-preserved g c =
    let f = g.F.Field.arith in
    let s = c.args.self.now.shape in
    let S = among (outages c.args.out.now) in
    let A = symbols f (s.q ^ s.t) c.args.self.now.words.now in
    let i = c.loop-node.node in
    let x = known f s.q S A c.args.place in
    let b-is : c.if-contains.b ≡ x i =
    elim c.if-contains.branch [
      | then-contains w ↦ w.b-is ∙ w.zero-b.ensures ∙ sym (cond-true (S i) _ _ (sym c.contains.ensures ∙ w.if-contains.true))
      | else-contains w ↦ w.b-is ∙ w.uncoupled_symbol-b.ensures ∙ sym (cond-false (S i) _ _ (sym c.contains.ensures ∙ w.if-contains.false))
    ] in
    c.sum-sum.ensures
    ∙ ap₂ f.sum c.loop-node.invariant (c.product.ensures ∙ ap₂ f.product (c.power.ensures ∙ ap (λ v. power f v c.args.e) c.point.ensures) b-is)
    ∙ sym (moment_more f g.met.F.Field.lawful f.point x i c.args.e)
    ∙ ap (λ n. moment f f.point x n c.args.e) (sym (add-one i))
