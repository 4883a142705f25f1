use Rattle.std.proofs.Common.{◌≡◌, ℕ, ◌^◌, Bool, true, false, cond, ltb, rules, refl, ap, ◌∙◌, arith}
use borrow.Author.Tests.{tests}
use Rattle.std.proofs.lemmas.Iterator.{cases_from_all, YieldsList-from_range}
use Rattle.shape.specs.Outages.{every}
use Rattle.code.specs.Code.{laid, helps}
use Rattle.code.proofs.Ranges.{range_cases, every_cases}
use Rattle.code.proofs.array.Array.helper_codes.Goals as goal

pub returns : goal.returns
returns g c =
    let s = c.args.self.now.shape in
    let n = c.places.result in
    let test : ℕ → Bool = λ p. cond (helps s.q c.args.node p) (ltb (laid (s.q ^ s.t) c.args.self.now.words.now c.args.helper p) g.F.Field.arith.size) true in
    every_cases test n c.all.result
    (range_cases n c.all.result (λ p. test p ≡ true) (λ p. test p ≡ false)
    (cases_from_all _ _ _ (λ p. test p ≡ true) (λ p. test p ≡ false) c.all.ensures.ran (YieldsList-from_range 0 n n refl (omega arith)) (λ p q k. search (rules, tests)) (λ p q k. search (rules, tests))))
    ∙ ap (every test) c.places.ensures
