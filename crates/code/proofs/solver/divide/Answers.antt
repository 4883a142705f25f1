use Rattle.std.proofs.Common.{ap, ◌∙◌, ap₂, arith}
use Rattle.code.specs.Code.{minus}
use Rattle.code.proofs.InPlace.{divided_more}
use Rattle.code.proofs.solver.divide.Goals as goal

pub loop-k-preserved : goal.loop-k-preserved
loop-k-preserved g c =
    let f = g.F.Field.arith in
    divided_more f g.met.F.Field.lawful c.args.a c.args.nodes.now c.args.sides.now c.loop-k.sides c.loop-k.k c.code.result (omega arith) c.loop-k.invariant
    (c.code.ensures
    ∙ ap f.code (c.product.ensures ∙ ap₂ f.product (c.inverse-by.ensures ∙ ap f.inverse (c.difference.ensures ∙ ap (λ v. minus f v c.args.a) c.point.ensures)) c.element.ensures))
