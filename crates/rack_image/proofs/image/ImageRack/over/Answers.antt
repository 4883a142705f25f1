use Rattle.std.proofs.Common.{replicate, sym, ◌∙◌}
use Rattle.rack_image.proofs.Encoding.{formed_image, held_in, same_image}
use Rattle.rack_image.proofs.image.ImageRack.over.Goals as goal

pub returns-clause-encodes : goal.returns-clause-encodes
returns-clause-encodes c = λ n few f. formed_image n _ _ (replicate 16 0) few f

pub returns-clause-decodes : goal.returns-clause-decodes
returns-clause-decodes c = λ m few w e. held_in m (replicate 16 0) c.args.places c.args.bytes.now few w e

pub returns-clause-determines : goal.returns-clause-determines
returns-clause-determines c = λ a b few en ew ea eb. same_image a b few en ew (sym ea ∙ eb)
