use Rattle.std.proofs.Common.{rules}
use Rattle.rack_pair.proofs.LentRooms.{lent_rooms}
use Rattle.rack_pair.proofs.lent_rooms.fill_rooms.Goals as goal

pub returns : goal.returns
returns c =
    let front = c.over-front.ensures in
    let back = c.over-back.ensures in
    let after = c.fill_pair.ensures in
    let x = after.stays.0 in
    let y = after.stays.1 in
    lent_rooms c.over-front.result c.fill_pair.new.first c.over-back.result c.fill_pair.new.second c.args.first_nodes c.args.second_nodes c.args.places c.args.first.now _ c.args.second.now _ c.args.words.now c.args.node
    c.in_ok-check_images.ensures front.bytes front.model back.bytes back.model
    (x.1, x.2, x.3) (y.1, y.2, y.3) (search rules) (search rules) after.after c.fill_pair.result after.answer
