use Rattle.std.proofs.Common.{◌≡◌, sym, below_more, arith}
use Rattle.rack.proofs.Models.{fitting_parts}
use Rattle.rack_image.specs.Image.{record_length}
use Rattle.rack_image.proofs.checks.examine.Goals as goal

pub loop-at-preserved : goal.loop-at-preserved
loop-at-preserved c =
    let long : c.record_length-long.result ≡ record_length c.args.places = omega (arith, c.record_length-long.ensures, fitting_parts c.args.nodes c.args.places c.requires) in
    below_more _ _ c.loop-at.invariant (sym (rw long at c.in_default.ensures))
