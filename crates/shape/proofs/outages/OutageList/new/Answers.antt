use Rattle.std.proofs.Common.{◌≡◌, ◌*◌, false, [], ◌∷◌, ◌++◌, get_or, take}
use Rattle.std.proofs.lemmas.Result.{err_from_is_err_and}
use Rattle.shape.specs.Outages.{rising}
use Rattle.shape.proofs.Rising.{rising_refused}
use Rattle.shape.proofs.outages.OutageList.new.Goals as goal

pub returns-in_err-push : goal.returns-in_err-push
returns-in_err-push c =
    let p = err_from_is_err_and c.from_residual.result c.from_residual.ensures.1 in
    let r = c.in_err-push.ensures.list in
    let xs = c.args.nodes.now in
    let k = c.loop-node.node-index in
    let e : rising (c.args.shape.q * c.args.shape.t) (take k xs ++ get_or xs k 0 ∷ []) ≡ false = cc in
    rw (p.1, p.2) (r.0, rising_refused (c.args.shape.q * c.args.shape.t) k xs c.loop-node-test.true e)
