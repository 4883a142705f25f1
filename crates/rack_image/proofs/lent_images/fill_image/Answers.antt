use Rattle.std.proofs.Common.{rules}
use Rattle.rack_image.proofs.Lent.{lent_filled}
use Rattle.rack_image.proofs.lent_images.fill_image.Goals as goal

pub returns : goal.returns
returns c =
    let made = c.over-rack.ensures in
    let after = c.fill_node.ensures in
    lent_filled c.over-rack.result c.fill_node.new.rack c.args.nodes c.args.places c.args.bytes.now _ c.args.words.now c.args.node c.fill_node.result
    c.in_ok-check_image.ensures.answer made.bytes made.model after.stays.3 (search rules) after.answer after.after
