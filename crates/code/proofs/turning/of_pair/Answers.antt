use Rattle.std.proofs.Common.{ap, ◌∙◌, ap₂}
use Rattle.code.specs.Code.{minus}
use Rattle.code.specs.Filling.{of_pair}
use Rattle.code.proofs.turning.of_pair.Goals as goal

pub returns : goal.returns
unfolding of_pair
returns g c =
    let f = g.F.Field.arith in
    let u = c.coupling_element-u.ensures in
    c.product-3.ensures
    ∙ ap₂ f.product (c.inverse-by.ensures ∙ ap f.inverse (c.difference.ensures ∙ ap₂ (minus f) c.one.ensures (c.product.ensures ∙ ap₂ f.product u u)))
    (c.difference-2.ensures ∙ ap (minus f c.args.a) (c.product-2.ensures ∙ ap (λ v. f.product v c.args.b) u))
