-- What a test of all numbers below a bound says. Assumes nothing.
use Rattle.std.proofs.Common.{◌≡◌, ℕ, zero, suc, ◌+◌, ◌<◌, Bool, true, false, cond, refl, ap, ◌∙◌, ⊎_elim, add-one, arith}
use Rattle.std.proofs.lemmas.Bool.{both_ways, cases_eq, cond-true, false≢true, false_from_ne_true}
use Rattle.shape.specs.Outages.{every}

both : (a b : Bool) → cond a b false ≡ true → (a ≡ true) × (b ≡ true)
both true b e = (refl, e)
both false b e = absurd (false≢true e)

pub every_at : (test : ℕ → Bool) (n : ℕ) → every test n ≡ true → (i : ℕ) → i < n → test i ≡ true
unfolding every
every_at test zero e i l = absurd (omega arith)
every_at test (suc n) e i l =
    let p = both (every test n) (test n) e in
    ⊎_elim (λ k. ap test k ∙ p.1) (λ ne. every_at test n p.0 i (omega arith)) (cases_eq i n)

pub every_from : (test : ℕ → Bool) (n : ℕ) → ((i : ℕ) → i < n → test i ≡ true) → every test n ≡ true
unfolding every
every_from test zero h = refl
every_from test (suc n) h = cond-true (every test n) (test n) false (every_from test n (λ i l. h i (omega arith))) ∙ h n (omega arith)

-- not all pass
pub every_missed : (test : ℕ → Bool) (n i : ℕ) → i < n → test i ≡ false → every test n ≡ false
every_missed test n i l e = false_from_ne_true (every test n) (λ k. both_ways (test i) e (every_at test n k i l))

-- one number more
pub every_more : (test : ℕ → Bool) (n : ℕ) → every test n ≡ true → test n ≡ true → every test (n + 1) ≡ true
unfolding every
every_more test n e h = rw add-one (cond-true (every test n) (test n) false e ∙ h)
