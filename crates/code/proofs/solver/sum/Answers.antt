use Rattle.std.proofs.Common.{sym, ap, ◌∙◌, ap₂, add-one}
use Rattle.code.specs.Code.{total}
use Rattle.code.specs.Solving.{reads}
use Rattle.code.proofs.solver.sum.Goals as goal

pub loop-side-init : goal.loop-side-init
unfolding total
loop-side-init g c = c.zero-sum.ensures

pub loop-side-preserved : goal.loop-side-preserved
unfolding total
loop-side-preserved g c =
    let f = g.F.Field.arith in
    c.sum-sum.ensures ∙ ap₂ f.sum c.loop-side.invariant c.element.ensures ∙ ap (total f (reads f c.args.sides.now)) (sym (add-one c.loop-side.side-index))
