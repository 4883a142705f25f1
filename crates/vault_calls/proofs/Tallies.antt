-- Counts of tests. Assumes nothing.
use Rattle.std.proofs.Common.{◌≡◌, ℕ, zero, suc, ◌+◌, ◌*◌, ◌<◌, ◌≤◌, Bool, true, false, cond, not, ◌||◌, ◌⊎◌, sym, ap, ◌∙◌, inl, inr, mul-le-mul, arith, Fits, w64}
use Rattle.std.proofs.lemmas.Bool.{cases_eq, cases_Bool, cond-true}
use Rattle.shape.specs.Outages.{count}
use Rattle.rack.specs.Model.{Model}
use Rattle.vault_calls.specs.Calls.{out_count}

-- a test that holds counts
pub count_some : (test : ℕ → Bool) (n i : ℕ) → i < n → test i ≡ true → 1 ≤ count test n
count_some test zero i l e = absurd (omega arith)
count_some test (suc n) i l e = go (cases_eq i n) (λ k. count_some test n i k e)
  where
    go : (i ≡ n) ⊎ (i ≡ n → ⊥) → (i < n → 1 ≤ count test n) → 1 ≤ count test (suc n)
    go (inl k) below = unfold count in let b = cond-true {A = ℕ} (test n) 1 0 (ap test (sym k) ∙ e) in omega arith
    go (inr k) below = unfold count in let b = below (omega arith) in omega arith

-- and two of them count twice
pub count_two : (test : ℕ → Bool) (n i j : ℕ) → i < n → j < n → (i ≡ j → ⊥) → test i ≡ true → test j ≡ true → 2 ≤ count test n
count_two test zero i j li lj ne ei ej = absurd (omega arith)
count_two test (suc n) i j li lj ne ei ej = go (cases_eq i n) (cases_eq j n) (λ a b. count_two test n i j a b ne ei ej)
  where
    go : (i ≡ n) ⊎ (i ≡ n → ⊥) → (j ≡ n) ⊎ (j ≡ n → ⊥) → (i < n → j < n → 2 ≤ count test n) → 2 ≤ count test (suc n)
    go (inl a) (inl b) below = absurd (ne (a ∙ sym b))
    go (inl a) (inr b) below = unfold count in let c = cond-true {A = ℕ} (test n) 1 0 (ap test (sym a) ∙ ei) in let d = count_some test n j (omega arith) ej in omega arith
    go (inr a) (inl b) below = unfold count in let c = cond-true {A = ℕ} (test n) 1 0 (ap test (sym b) ∙ ej) in let d = count_some test n i (omega arith) ei in omega arith
    go (inr a) (inr b) below = unfold count in let c = below (omega arith) (omega arith) in omega arith

-- where none counts, none holds
pub count_zero : (test : ℕ → Bool) (n : ℕ) → count test n ≡ 0 → (i : ℕ) → i < n → test i ≡ false
count_zero test n e i l = go (cases_Bool (test i))
  where
    go : (test i ≡ true) ⊎ (test i ≡ false) → test i ≡ false
    go (inl k) = let c = count_some test n i l k in absurd (omega arith)
    go (inr k) = k

bits : (a b : Bool) → cond (a || b) 1 0 ≤ cond a 1 0 + cond b 1 0
bits true true = omega arith
bits true false = omega arith
bits false true = omega arith
bits false false = omega arith

-- either of two tests
pub count_either : (a b : ℕ → Bool) (n : ℕ) → count (λ i. a i || b i) n ≤ count a n + count b n
unfolding count
count_either a b zero = omega arith
count_either a b (suc n) = let k = count_either a b n in let c = bits (a n) (b n) in omega arith

-- past the tests of a repair all other nodes stand
pub others_stand : (q t : ℕ) (m : Model) (i : ℕ) → i < q * t → m.flags i ≡ false → out_count q t m ≤ 1 → (j : ℕ) → j < q * t → (j ≡ i → ⊥) → m.flags j ≡ true
others_stand q t m i li out few j lj ne = go (cases_Bool (m.flags j))
  where
    go : (m.flags j ≡ true) ⊎ (m.flags j ≡ false) → m.flags j ≡ true
    go (inl e) = e
    go (inr e) =
        let c = count_two (λ n. not (m.flags n)) (q * t) j i lj li ne (ap not e) (ap not out) in
        absurd (omega arith)

-- as many words as this have a small count
pub small_product : (a b : ℕ) → a ≤ 16 → b ≤ 256 → Fits w64 (a * b)
small_product a b la lb = let p = mul-le-mul la lb in omega arith
