use Rattle.std.proofs.Common.{rules}
use Rattle.rack_image.proofs.Lent.{lent_moved}
use Rattle.rack_image.proofs.lent_images.move_between_images.Goals as goal

pub returns : goal.returns
returns c =
    let source = c.over-source.ensures in
    let sink = c.over-sink.ensures in
    let after = c.move_node.ensures in
    lent_moved c.over-source.result c.move_node.new.from c.over-sink.result c.move_node.new.to c.args.first_nodes c.args.second_nodes c.args.places c.args.first.now _ c.args.second.now _ c.args.node c.args.target
    c.in_ok-check_images.ensures source.bytes source.model sink.bytes sink.model
    after.stays.0.3 after.stays.1.3 (search rules) (search rules) after.source after.sink c.move_node.result after.answer
