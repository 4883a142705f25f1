use Rattle.std.proofs.Common.{◌≡◌, ◌*◌, ◌^◌, arith}
use Rattle.shape.proofs.Bounds.{shaped, words_bound}
use Rattle.code.proofs.Places.{spot_within}
use Rattle.code.proofs.symbols.spot.Goals as goal

pub overflow_mul-result : goal.overflow_mul-result
overflow_mul-result c =
    let s = c.args.shape in
    let e : c.args.node * c.places.result ≡ c.args.node * s.q ^ s.t = cc in
    let w = spot_within (s.q * s.t) (s.q ^ s.t) c.args.node c.args.place c.requires.node c.requires.place in
    omega (arith, words_bound (shaped s))

pub overflow_add-result : goal.overflow_add-result
overflow_add-result c =
    let s = c.args.shape in
    let e : c.args.node * c.places.result ≡ c.args.node * s.q ^ s.t = cc in
    let w = spot_within (s.q * s.t) (s.q ^ s.t) c.args.node c.args.place c.requires.node c.requires.place in
    omega (arith, words_bound (shaped s))

pub returns-clause-bound : goal.returns-clause-bound
returns-clause-bound c =
    let s = c.args.shape in
    let e : c.args.node * c.places.result ≡ c.args.node * s.q ^ s.t = cc in
    let w = spot_within (s.q * s.t) (s.q ^ s.t) c.args.node c.args.place c.requires.node c.requires.place in
    omega arith
