use Rattle.std.proofs.Common.{◌≡◌, ℕ, ◌^◌, ◌<◌, rules, refl, arith}
use borrow.Author.Tests.{tests}
use Rattle.std.proofs.lemmas.Iterator.{cases_from_all, YieldsList-from_range}
use Rattle.code.specs.Code.{check}
use Rattle.code.specs.Reading.{symbols}
use Rattle.code.proofs.Ranges.{range_cases, tells_all}
use Rattle.code.proofs.array.Array.planes_hold.Goals as goal

pub returns : goal.returns
returns g c =
    let f = g.F.Field.arith in
    let s = c.args.self.now.shape in
    let n = c.places.result in
    let holds : ℕ → Type 0 = λ p. (e : ℕ) → e < s.q → check f s.q s.t (symbols f (s.q ^ s.t) c.args.self.now.words.now) p e ≡ f.zero in
    tells_all n c.all.result holds _ (λ h p e lp le. h p (omega arith) e le) (λ h p lp e le. h p e (omega arith) le)
    (range_cases n c.all.result holds (λ p. holds p → ⊥)
    (cases_from_all _ _ _ holds (λ p. holds p → ⊥) c.all.ensures.ran (YieldsList-from_range 0 n n refl (omega arith)) (λ p q k. search (rules, tests)) (λ p q k. search (rules, tests))))
