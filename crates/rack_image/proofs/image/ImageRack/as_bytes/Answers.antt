use Rattle.rack_image.proofs.Encoding.{formed_image}
use Rattle.rack_image.proofs.image.ImageRack.as_bytes.Goals as goal

pub returns-clause-encodes : goal.returns-clause-encodes
returns-clause-encodes c = λ n few f. formed_image n _ _ c.args.self.now.meters few f
