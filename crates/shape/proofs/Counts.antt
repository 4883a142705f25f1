-- How many numbers pass a test. Assumes nothing.
use Rattle.std.proofs.Common.{◌≡◌, ℕ, zero, suc, ◌+◌, ◌<◌, ◌≤◌, Bool, true, false, cond, ◌≢◌, ◌⊎◌, List, [], ◌∷◌, length, sym, refl, ap, ap₂, inl, inr, add-one, arith}
use Rattle.std.proofs.lemmas.Bool.{cases_eq, cond-true, cond-false}
use Rattle.shape.specs.Outages.{count, among, Distinct}
use Rattle.shape.proofs.Among.{among_first, among_rest}

abbrev pub bit : Bool → ℕ
bit b = cond b 1 0

pub bit_bound : (b : Bool) → bit b ≤ 1
bit_bound true = omega arith
bit_bound false = omega arith

pub count_more : (test : ℕ → Bool) (n : ℕ) → count test (n + 1) ≡ count test n + bit (test n)
unfolding count
count_more test n = rw add-one

pub count_bound : (test : ℕ → Bool) (n : ℕ) → count test n ≤ n
unfolding count
count_bound test zero = omega arith
count_bound test (suc n) = let k = count_bound test n in let b = bit_bound (test n) in omega arith

-- two tests that agree
pub count_same : (g h : ℕ → Bool) (n : ℕ) → ((j : ℕ) → j < n → g j ≡ h j) → count g n ≡ count h n
unfolding count
count_same g h zero e = refl
count_same g h (suc n) e = ap₂ (λ a b. a + bit b) (count_same g h n (λ j l. e j (omega arith))) (e n (omega arith))

-- two tests that agree but at y
pub count_change : (g h : ℕ → Bool) (y n : ℕ) → y < n → ((j : ℕ) → j < n → y ≢ j → g j ≡ h j) → count g n + bit (h y) ≡ count h n + bit (g y)
count_change g h y zero l e = absurd (omega arith)
count_change g h y (suc n) l e = go (cases_eq y n) (λ k. count_change g h y n k (λ j lj. e j (omega arith)))
  where
    go : (y ≡ n) ⊎ (y ≡ n → ⊥) → (y < n → count g n + bit (h y) ≡ count h n + bit (g y)) → count g (suc n) + bit (h y) ≡ count h (suc n) + bit (g y)
    go (inl k) below =
        unfold count in
        let a : count g n ≡ count h n = count_same g h n (λ j lj. e j (omega arith) (omega arith)) in
        let b : bit (h y) ≡ bit (h n) = ap (λ j. bit (h j)) k in
        let c : bit (g y) ≡ bit (g n) = ap (λ j. bit (g j)) k in
        omega arith
    go (inr k) below =
        unfold count in
        let a = below (omega arith) in
        let b : bit (g n) ≡ bit (h n) = ap (λ x. bit x) (e n (omega arith) k) in
        omega arith

-- no test is passed, or each
pub count_none : (test : ℕ → Bool) (n : ℕ) → ((j : ℕ) → j < n → test j ≡ false) → count test n ≡ 0
unfolding count
count_none test zero e = refl
count_none test (suc n) e = let k = count_none test n (λ j l. e j (omega arith)) in let b = cond-false {A = ℕ} (test n) 1 0 (e n (omega arith)) in omega arith

pub count_all : (test : ℕ → Bool) (n : ℕ) → ((j : ℕ) → j < n → test j ≡ true) → count test n ≡ n
unfolding count
count_all test zero e = refl
count_all test (suc n) e = let k = count_all test n (λ j l. e j (omega arith)) in let b = cond-true {A = ℕ} (test n) 1 0 (e n (omega arith)) in omega arith

-- as many numbers are among those of a list as it has
pub count_among : (js : List ℕ) (n : ℕ) → Distinct js n → count (among js) n ≡ length js
count_among [] n d = count_none (among []) n (λ j l. refl)
count_among (j ∷ js) n d =
    let k = count_among js n d.2 in
    let c = count_change (among (j ∷ js)) (among js) j n d.0 (λ i l ne. among_rest j js i (λ e. ne (sym e))) in
    let a = cond-false {A = ℕ} (among js j) 1 0 d.1 in
    let b = cond-true {A = ℕ} (among (j ∷ js) j) 1 0 (among_first j js j refl) in
    omega arith
