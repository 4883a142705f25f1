use Rattle.std.proofs.Common.{◌+◌, refl, arith}
use Rattle.std.proofs.lemmas.List.{length-set}
use Rattle.rack_image.proofs.ImageCalls.{flag_after, flag_formed}
use Rattle.rack_image.proofs.image.ImageRackRack.set_standing.Goals as goal

pub returns-clause-after : goal.returns-clause-after
returns-clause-after c =
    let s = c.args.self.now in
    let start = c.in_ok-start.ensures in
    rw c.from.ensures (flag_after s.places s.bytes.now s.meters c.args.node (c.in_ok-start.start + 3) c.args.standing start.0 (omega (arith, start.1)))

pub returns-clause-stays : goal.returns-clause-stays
returns-clause-stays c =
    let s = c.args.self.now in
    let start = c.in_ok-start.ensures in
    (refl, length-set s.bytes.now _ _, refl, rw c.from.ensures (flag_formed s.places s.bytes.now s.meters c.args.node (c.in_ok-start.start + 3) c.args.standing start.0 (omega (arith, start.1))))
