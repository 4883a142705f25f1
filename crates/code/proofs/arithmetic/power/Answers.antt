use Rattle.std.proofs.Common.{sym, ap, ◌∙◌, add-one}
use Rattle.code.specs.Code.{power}
use Rattle.code.proofs.arithmetic.power.Goals as goal

pub loop-init : goal.loop-init
unfolding power
loop-init g c = c.one-result.ensures

pub loop-preserved : goal.loop-preserved
unfolding power
loop-preserved g c =
    let f = g.F.Field.arith in
    c.product-result.ensures ∙ ap (f.product c.args.a) c.loop.invariant ∙ ap (power f c.args.a) (sym (add-one c.loop.counter))
