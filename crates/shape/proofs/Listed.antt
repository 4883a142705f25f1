-- The list of the numbers that pass a test. Assumes nothing.
use Rattle.std.proofs.Common.{◌≡◌, ℕ, zero, suc, ◌+◌, ◌<◌, ◌≤◌, Bool, true, false, [], ◌∷◌, ◌++◌, length, get_or, sym, refl, ap, ◌∙◌, ⊎_elim, add-one, arith}
use Rattle.std.proofs.lemmas.List.{append-nil, length_push, get_or_push, get_or_append_left}
use Rattle.std.proofs.lemmas.Bool.{cases_Bool, cases_eq, cond-true, cond-false}
use Rattle.shape.specs.Outages.{count, listed, rising, among}
use Rattle.shape.proofs.Among.{among_push_same, among_push_other}
use Rattle.shape.proofs.Rising.{rising_none, rising_wider, rising_high, rising_push_bound}

-- one number more: it passes, or it does not
pub listed_push : (test : ℕ → Bool) (n : ℕ) → test n ≡ true → listed test (n + 1) ≡ listed test n ++ n ∷ []
unfolding listed
listed_push test n e = ap (listed test) (add-one n) ∙ ap (λ ys. listed test n ++ ys) (cond-true (test n) (n ∷ []) [] e)

pub listed_skip : (test : ℕ → Bool) (n : ℕ) → test n ≡ false → listed test (n + 1) ≡ listed test n
unfolding listed
listed_skip test n e = ap (listed test) (add-one n) ∙ ap (λ ys. listed test n ++ ys) (cond-false (test n) (n ∷ []) [] e) ∙ append-nil (listed test n)

pub listed_none : (test : ℕ → Bool) → listed test 0 ≡ []
unfolding listed
listed_none test = refl

pub listed_rising : (test : ℕ → Bool) (n : ℕ) → rising n (listed test n) ≡ true
listed_rising test zero = ap (rising 0) (listed_none test) ∙ rising_none 0
listed_rising test (suc n) =
    let e = listed_rising test n in
    ⊎_elim
    (λ t. ap (rising (suc n)) (ap (listed test) (sym (add-one n)) ∙ listed_push test n t) ∙ rising_push_bound (suc n) (listed test n) n e (omega arith))
    (λ f. ap (rising (suc n)) (ap (listed test) (sym (add-one n)) ∙ listed_skip test n f) ∙ rising_wider n (suc n) (listed test n) (omega arith) e)
    (cases_Bool (test n))

pub listed_length : (test : ℕ → Bool) (n : ℕ) → length (listed test n) ≡ count test n
unfolding count
listed_length test zero = ap length (listed_none test)
listed_length test (suc n) =
    let e = listed_length test n in
    let s : listed test (suc n) ≡ listed test (n + 1) = ap (listed test) (sym (add-one n)) in
    ⊎_elim
    (λ t. let a = ap length (s ∙ listed_push test n t) in let b = length_push (listed test n) n in let c = cond-true {A = ℕ} (test n) 1 0 t in omega arith)
    (λ f. let a = ap length (s ∙ listed_skip test n f) in let c = cond-false {A = ℕ} (test n) 1 0 f in omega arith) (cases_Bool (test n))

-- below n, the list has what passes
pub among_listed : (test : ℕ → Bool) (n i : ℕ) → i < n → among (listed test n) i ≡ test i
among_listed test zero i l = absurd (omega arith)
among_listed test (suc n) i l =
    let s : listed test (suc n) ≡ listed test (n + 1) = ap (listed test) (sym (add-one n)) in
    ⊎_elim
    (λ e. ⊎_elim
    (λ t. ap (among (listed test (suc n))) e ∙ ap (λ xs. among xs n) (s ∙ listed_push test n t) ∙ among_push_same (listed test n) n ∙ sym t ∙ ap test (sym e))
    (λ f. ap (among (listed test (suc n))) e ∙ ap (λ xs. among xs n) (s ∙ listed_skip test n f) ∙ rising_high n (listed test n) (listed_rising test n) n (omega arith) ∙ sym f ∙ ap test (sym e))
    (cases_Bool (test n)))
    (λ ne. let r = among_listed test n i (omega arith) in ⊎_elim
    (λ t. ap (λ xs. among xs i) (s ∙ listed_push test n t) ∙ among_push_other (listed test n) n i ne ∙ r)
    (λ f. ap (λ xs. among xs i) (s ∙ listed_skip test n f) ∙ r) (cases_Bool (test n)))
    (cases_eq i n)

-- the numbers from first on, as many as q, and only those pass
module _ (test : ℕ → Bool) (first q : ℕ) (low : (i : ℕ) → i < first → test i ≡ false) (mid : (i : ℕ) → first ≤ i → i < first + q → test i ≡ true) where
  span_start : (m : ℕ) → m ≤ first → listed test m ≡ []
  span_start zero l = listed_none test
  span_start (suc m) l = ap (listed test) (sym (add-one m)) ∙ listed_skip test m (low m (omega arith)) ∙ span_start m (omega arith)

  span_within : (m : ℕ) → first ≤ m → m ≤ first + q → (first + length (listed test m) ≡ m) × ((k : ℕ) → first + k < m → get_or (listed test m) k 0 ≡ first + k)
  span_within zero f l = (let e = ap length (listed_none test) in omega arith, λ k h. absurd (omega arith))
  span_within (suc m) f l =
      ⊎_elim (λ e. (let s = ap length (span_start (suc m) (omega arith)) in omega arith, λ k h. absurd (omega arith)))
      (λ ne.
      let r = span_within m (omega arith) (omega arith) in
      let xs = listed test m in
      let e : listed test (suc m) ≡ xs ++ m ∷ [] = ap (listed test) (sym (add-one m)) ∙ listed_push test m (mid m (omega arith) (omega arith)) in (
        let a = ap length e in let b = length_push xs m in omega (arith, r.0),
        λ k h. ap (λ ys. get_or ys k 0) e ∙ ⊎_elim (λ i. get_or_push xs m 0 k (omega (arith, r.0)) ∙ sym i)
            (λ nk. get_or_append_left xs (m ∷ []) 0 k (omega (arith, r.0)) ∙ r.1 k (omega arith)) (cases_eq (first + k) m),
      )) (cases_eq first (suc m))

  pub listed_span : (n : ℕ) → first + q ≤ n → ((i : ℕ) → first + q ≤ i → i < n → test i ≡ false) → (length (listed test n) ≡ q) × ((k : ℕ) → k < q → get_or (listed test n) k 0 ≡ first + k)
  listed_span n l high =
      let r = span_within (first + q) (omega arith) (omega arith) in
      let e = span_end n l high in
      (let a = ap length e in omega (arith, r.0), λ k h. ap (λ ys. get_or ys k 0) e ∙ r.1 k (omega arith))
    where
      span_end : (m : ℕ) → first + q ≤ m → ((i : ℕ) → first + q ≤ i → i < m → test i ≡ false) → listed test m ≡ listed test (first + q)
      span_end zero h f = ap (listed test) (omega arith)
      span_end (suc m) h f =
          ⊎_elim (λ i. ap (listed test) (sym i))
          (λ ne. ap (listed test) (sym (add-one m)) ∙ listed_skip test m (f m (omega arith) (omega arith)) ∙ span_end m (omega arith) (λ i a b. f i a (omega arith))) (cases_eq (first + q) (suc m))
