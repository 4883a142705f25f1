use Rattle.std.proofs.Common.{◌≡◌, ◌-◌, ◌*◌, ◌^◌, arith}
use Rattle.shape.proofs.Bounds.{shaped, message_bound}
use Rattle.shape.proofs.dimensions.Shape.message_words.Goals as goal

pub overflow_mul-result : goal.overflow_mul-result
overflow_mul-result c =
    let s = c.args.self in
    let e : c.data_nodes.result * c.places.result ≡ s.q * (s.t - 1) * s.q ^ s.t = cc in
    omega (arith, message_bound (shaped c.args.self))
