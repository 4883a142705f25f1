use Rattle.std.proofs.Common.{◌≡◌, ◌+◌, ◌*◌, ap, ◌∙◌, arith}
use Rattle.shape.specs.Layout.{digit, node_at}
use Rattle.shape.specs.Listing.{outages}
use Rattle.shape.specs.Outages.{among}
use Rattle.shape.proofs.Bounds.{shaped, rows_positive}
use Rattle.shape.proofs.Digits.{digit_bound}
use Rattle.code.proofs.Places.{column_within}
use Rattle.code.proofs.planes.digit_out.Goals as goal

pub overflow_add-column : goal.overflow_add-column
overflow_add-column c =
    let s = c.args.shape in
    let e : c.args.column * c.rows.result ≡ c.args.column * s.q = cc in
    let w = column_within s.q s.t c.args.column c.requires in
    let d = digit_bound s.q (rows_positive (shaped s)) c.args.place c.args.column in
    let f = s.few in
    omega arith

-- the node in the row of the plane's digit
pub returns-then-len-gt0 : goal.returns-then-len-gt0
unfolding node_at
returns-then-len-gt0 c =
    let e : c.args.column * c.rows.result + c.digit.result ≡ node_at c.args.shape.q (digit c.args.shape.q c.args.place c.args.column) c.args.column = cc in
    c.contains.ensures ∙ ap (among (outages c.args.out.now)) e
