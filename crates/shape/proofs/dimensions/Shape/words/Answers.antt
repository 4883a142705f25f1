use Rattle.std.proofs.Common.{◌≡◌, ◌*◌, ◌^◌, arith}
use Rattle.shape.proofs.Bounds.{shaped, words_bound}
use Rattle.shape.proofs.dimensions.Shape.words.Goals as goal

pub overflow_mul-result : goal.overflow_mul-result
overflow_mul-result c =
    let s = c.args.self in
    let e : c.nodes.result * c.places.result ≡ s.q * s.t * s.q ^ s.t = cc in
    omega (arith, words_bound (shaped c.args.self))
