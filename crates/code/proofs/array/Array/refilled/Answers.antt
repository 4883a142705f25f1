use Rattle.std.proofs.Common.{eqb, sym, ap, ◌∙◌, ap₂}
use Rattle.std.proofs.lemmas.Bool.{cond-true, cond-false, eq-eqb, ne_eqb}
use Rattle.code.specs.Code.{minus}
use Rattle.code.specs.Steps.{given}
use Rattle.code.proofs.array.Array.refilled.Goals as goal

pub returns-then-helper-node : goal.returns-then-helper-node
unfolding given
returns-then-helper-node g c = sym (cond-true (eqb c.args.helper c.args.node) _ _ (eq-eqb c.args.helper c.args.node c.if-helper-node.true))

pub returns : goal.returns
unfolding given
returns g c =
    let f = g.F.Field.arith in
    c.product.ensures
    ∙ ap₂ f.product (c.inverse.ensures ∙ ap f.inverse c.coupling_element.ensures) (c.difference.ensures ∙ ap (minus f c.args.b) c.symbol-a.ensures)
    ∙ sym (cond-false (eqb c.args.helper c.args.node) _ _ (ne_eqb c.args.helper c.args.node c.if-helper-node.false))
