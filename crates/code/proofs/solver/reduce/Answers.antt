use Rattle.std.proofs.Common.{ap, ◌∙◌, ap₂, arith}
use Rattle.code.specs.Code.{minus}
use Rattle.code.proofs.InPlace.{reduced_more}
use Rattle.code.proofs.solver.reduce.Goals as goal

pub loop-e-preserved : goal.loop-e-preserved
loop-e-preserved g c =
    let f = g.F.Field.arith in
    reduced_more f g.met.F.Field.lawful c.args.a c.args.sides.now c.loop-e.sides c.loop-e.e c.code.result (omega arith) c.loop-e.invariant
    (c.code.ensures ∙ ap f.code (c.difference.ensures ∙ ap₂ (minus f) c.element-next.ensures (c.product-here.ensures ∙ ap (f.product c.args.a) c.element.ensures)))
