use Rattle.std.proofs.Common.{◌-◌, arith}
use Rattle.shape.proofs.Bounds.{shaped, weight_bound}
use Rattle.shape.proofs.dimensions.Shape.helper_places.Goals as goal

pub pow-requires : goal.pow-requires
pow-requires c = let s = c.args.self in omega (arith, weight_bound (shaped c.args.self) (s.t - 1) (omega arith))
