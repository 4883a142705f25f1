use Rattle.std.proofs.Common.{arith}
use Rattle.shape.proofs.Bounds.{shaped, places_bound}
use Rattle.shape.proofs.dimensions.Shape.places.Goals as goal

pub pow-requires : goal.pow-requires
pow-requires c = let s = c.args.self in omega (arith, places_bound (shaped c.args.self))
