use Rattle.std.proofs.Common.{◌≡◌, ◌+◌, ◌*◌, ◌^◌, set, sym, subst, ap₂}
use Rattle.code.specs.Reading.{symbols}
use Rattle.code.specs.Steps.{Wrote}
use Rattle.code.proofs.Writes.{wrote}
use Rattle.code.proofs.array.ArrayMut.write_symbol.Goals as goal

pub returns-clause-wrote : goal.returns-clause-wrote
returns-clause-wrote g c =
    let f = g.F.Field.arith in
    let s = c.args.self.now.shape in
    let P = s.q ^ s.t in
    let ws = c.args.self.now.words.now in
    let i = c.args.node in
    let p = c.args.place in
    let a = c.args.a in
    let e : set ws c.spot-at.result c.code.result ≡ set ws (i * P + p) (f.code a) = ap₂ (λ k v. set ws k v) c.spot-at.ensures.value c.code.ensures in
    subst (λ us. Wrote P i p a (symbols f P ws) (symbols f P us)) (sym e) (wrote f g.met.F.Field.lawful (s.q * s.t) P ws c.args.self.now.room i p c.requires.node c.requires.place a)
