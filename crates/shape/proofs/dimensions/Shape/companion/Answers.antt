use Rattle.std.proofs.Common.{arith}
use Rattle.shape.specs.Layout.{companion_node, companion_place}
use Rattle.shape.proofs.Bounds.{shaped, rows_positive}
use Rattle.shape.proofs.Digits.{digit_bound, row_bound, column_bound}
use Rattle.shape.proofs.dimensions.Shape.companion.Goals as goal

pub with_digit-digit-requires : goal.with_digit-digit-requires
with_digit-digit-requires c =
    let s = c.args.self in
    let pos = rows_positive (shaped s) in
    record {
      in_node = omega arith;
      in_columns = omega (arith, column_bound s.q pos c.args.node s.t (omega arith));
      in_base = omega (arith, row_bound s.q pos c.args.node);
    }

pub node_at-requires : goal.node_at-requires
node_at-requires c =
    let s = c.args.self in
    let pos = rows_positive (shaped s) in
    record {
      in_rows = omega (arith, digit_bound s.q pos c.args.place c.column-column.result);
      in_columns = omega (arith, column_bound s.q pos c.args.node s.t (omega arith));
    }

pub returns : goal.returns
unfolding companion_node companion_place
returns c = (omega arith, omega arith, cc, cc)
