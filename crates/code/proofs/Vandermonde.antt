-- Systems of moments: at most one solution, and one. Assumes nothing.
use Rattle.std.proofs.Common.{◌≡◌, ℕ, zero, suc, ◌+◌, ◌<◌, ◌≤◌, Bool, true, false, cond, eqb, ◌⊎◌, sym, refl, ap, ◌∙◌, ap₂, inl, inr, arith}
use Rattle.std.proofs.lemmas.Bool.{both_ways, cases_Bool, cases_eq, eq-eqb, ne_eqb, cond-true, cond-false}
use Rattle.field.specs.Field.{Arith, Laws}
use Rattle.shape.specs.Outages.{count}
use Rattle.code.specs.Code.{power, total, moment}
use Rattle.code.specs.Filling.{solved_by}
use Rattle.code.specs.Theorems.{Apart}
use Rattle.code.proofs.Ring.{minus, zero_sum, product_zero, factor_zero, minus_apart, minus_self, minus_back, zero_product, inverse_back}
use Rattle.code.proofs.Sums.{total_same, total_zero, moment_more, moment_same, moment_first, moment_next}

-- a case of the last or an earlier number
pub last_or : (P : ℕ → Type 0) (n : ℕ) → P n → ((i : ℕ) → i < n → P i) → (i : ℕ) → i < suc n → P i
last_or P n here below i l = go (cases_eq i n)
  where
    go : (i ≡ n) ⊎ (i ≡ n → ⊥) → P i
    go (inl e) = rw e here
    go (inr ne) = below i (omega arith)

count_more : (S : ℕ → Bool) (n : ℕ) → count S (suc n) ≡ count S n + cond (S n) 1 0
unfolding count
count_more S n = refl

count_in : (S : ℕ → Bool) (n : ℕ) → S n ≡ true → count S (suc n) ≡ suc (count S n)
count_in S n e = let a = count_more S n in let b = cond-true {A = ℕ} (S n) 1 0 e in omega arith

count_out : (S : ℕ → Bool) (n : ℕ) → S n ≡ false → count S (suc n) ≡ count S n
count_out S n e = let a = count_more S n in let b = cond-false {A = ℕ} (S n) 1 0 e in omega arith

module _ {E : Type 0} (f : Arith E) (laws : Laws f) (pt : ℕ → E) (S : ℕ → Bool) where
  open f use {sum as ◌⊕◌, product as ◌⊗◌, negative as ⊖◌, zero as 𝟎, one as 𝟏, inverse}

  infixl 60 ◌⊕◌
  infixl 70 ◌⊗◌
  infixr 80 ⊖◌
  abbrev Outside : (x : ℕ → E) (n : ℕ) → Type 0
  Outside x n = (i : ℕ) → i < n → S i ≡ false → x i ≡ 𝟎

  abbrev Vanishes : (x : ℕ → E) (n m : ℕ) → Type 0
  Vanishes x n m = (e : ℕ) → e < m → moment f pt x n e ≡ 𝟎

  skip : (x : ℕ → E) (n e : ℕ) → x n ≡ 𝟎 → moment f pt x (suc n) e ≡ moment f pt x n e
  skip x n e z =
      moment_more f laws pt x n e ∙ ap (λ v. moment f pt x n e ⊕ power f (pt n) e ⊗ v) z
      ∙ ap (λ v. moment f pt x n e ⊕ v) (product_zero f laws (power f (pt n) e)) ∙ laws.sum_zero (moment f pt x n e)

  -- the next moment, by the differences from the last point
  pub next : (x : ℕ → E) (n e : ℕ) → moment f pt (λ i. minus f (pt i) (pt n) ⊗ x i) n e ⊕ pt n ⊗ moment f pt x (suc n) e ≡ moment f pt x (suc n) (suc e)
  next x n e =
      ap (λ v. v ⊕ pt n ⊗ moment f pt x (suc n) e)
      (sym
      (skip (λ i. minus f (pt i) (pt n) ⊗ x i) n e
      (ap (λ v. v ⊗ x n) (minus_self f laws (pt n) (pt n) refl) ∙ zero_product f laws (x n))))
      ∙ moment_next f laws pt x (pt n) (suc n) e

  -- so where moments vanish, those of the differences do
  reduced : (x : ℕ → E) (n m : ℕ) → Vanishes x (suc n) (suc m) → Vanishes (λ i. minus f (pt i) (pt n) ⊗ x i) n m
  reduced x n m v e l =
      let r : E = moment f pt (λ i. minus f (pt i) (pt n) ⊗ x i) n e in
      sym (laws.sum_zero r) ∙ ap (λ w. r ⊕ w) (sym (product_zero f laws (pt n)) ∙ ap (λ w. pt n ⊗ w) (sym (v e (omega arith))))
      ∙ next x n e ∙ v (suc e) (omega arith)

  -- the last is zero if the others are
  last_zero : (x : ℕ → E) (n m : ℕ) → ((i : ℕ) → i < n → x i ≡ 𝟎) → Vanishes x (suc n) (suc m) → x n ≡ 𝟎
  unfolding total
  last_zero x n m z v =
      sym (zero_sum f laws (x n)) ∙ ap (λ w. w ⊕ x n) (sym (total_zero f laws x n z)) ∙ sym (moment_first f laws pt x (suc n)) ∙ v 0 (omega arith)

  -- x is zero outside S, S has at most m members, and the first m moments of x vanish: x is zero
  abbrev Only : ℕ → Type 0
  Only n = (m : ℕ) (x : ℕ → E) → Apart pt n → count S n ≤ m → Outside x n → Vanishes x n m → (i : ℕ) → i < n → x i ≡ 𝟎

  only_out : (n : ℕ) → S n ≡ false → Only n → Only (suc n)
  only_out n e below m x a c o v =
      let k = count_out S n e in
      let z = o n (omega arith) e in
      last_or (λ i. x i ≡ 𝟎) n z
      (below m x (λ i j li lj. a i j (omega arith) (omega arith)) (omega arith) (λ i l. o i (omega arith))
      (λ e l. sym (skip x n e z) ∙ v e l))

  only_in : (n : ℕ) → S n ≡ true → Only n → Only (suc n)
  only_in n e below zero x a c o v = let k = count_in S n e in absurd (omega arith)
  only_in n e below (suc m) x a c o v =
      let k = count_in S n e in
      let d : ℕ → E = λ i. minus f (pt i) (pt n) ⊗ x i in
      let d_zero : (i : ℕ) → i < n → d i ≡ 𝟎
      = below m d (λ i j li lj. a i j (omega arith) (omega arith)) (omega arith)
      (λ i l out. ap (λ w. minus f (pt i) (pt n) ⊗ w) (o i (omega arith) out) ∙ product_zero f laws (minus f (pt i) (pt n)))
      (reduced x n m v) in
      let z : (i : ℕ) → i < n → x i ≡ 𝟎
      = λ i l. factor_zero f laws (minus f (pt i) (pt n)) (x i) (minus_apart f laws (pt i) (pt n) (a i n (omega arith) (omega arith) (omega arith))) (d_zero i l) in
      last_or (λ i. x i ≡ 𝟎) n (last_zero x n m z v) z

  pub only_zero : (n : ℕ) → Only n
  only_zero zero = λ m x a c o v i l. absurd (omega arith)
  only_zero (suc n) = by (cases_Bool (S n)) (only_zero n)
    where
      by : (S n ≡ true) ⊎ (S n ≡ false) → Only n → Only (suc n)
      by (inl e) = only_in n e
      by (inr e) = only_out n e

  -- the solution that is zero outside S
  divided : (n : ℕ) (y : ℕ → E) → ℕ → E
  divided n y i = inverse (minus f (pt i) (pt n)) ⊗ y i

  abbrev Solved : ℕ → Type 0
  Solved n = (s : ℕ → E) → Apart pt n → Outside (solved_by f pt S n s) n × ((e : ℕ) → e < count S n → moment f pt (solved_by f pt S n s) n e ≡ s e)

  module _ (n : ℕ) (s : ℕ → E) where
    others : ℕ → E
    others = divided n (solved_by f pt S n (λ e. minus f (s (suc e)) (pt n ⊗ s e)))

    solve_in_last : S n ≡ true → solved_by f pt S (suc n) s n ≡ minus f (s 0) (total f others n)
    unfolding solved_by others divided
    solve_in_last e = cond-true (S n) _ _ e ∙ cond-true (eqb n n) _ _ (eq-eqb n n refl)

    solve_in : S n ≡ true → (i : ℕ) → i < n → solved_by f pt S (suc n) s i ≡ others i
    unfolding solved_by others divided
    solve_in e i l = cond-true (S n) _ _ e ∙ cond-false (eqb i n) _ _ (ne_eqb i n (λ k. omega arith))

    solve_out_last : S n ≡ false → solved_by f pt S (suc n) s n ≡ 𝟎
    unfolding solved_by
    solve_out_last e = cond-false (S n) _ _ e ∙ cond-true (eqb n n) _ _ (eq-eqb n n refl)

    solve_out : S n ≡ false → (i : ℕ) → i < n → solved_by f pt S (suc n) s i ≡ solved_by f pt S n s i
    unfolding solved_by
    solve_out e i l = cond-false (S n) _ _ e ∙ cond-false (eqb i n) _ _ (ne_eqb i n (λ k. omega arith))

    -- the last number is not in S
    solved_out : S n ≡ false → Solved n → Apart pt (suc n) → Outside (solved_by f pt S (suc n) s) (suc n) × ((e : ℕ) → e < count S (suc n) → moment f pt (solved_by f pt S (suc n) s) (suc n) e ≡ s e)
    solved_out e below a =
        let k = count_out S n e in
        let b = below s (λ i j li lj. a i j (omega arith) (omega arith)) in (
          last_or (λ i. S i ≡ false → solved_by f pt S (suc n) s i ≡ 𝟎) n (λ o. solve_out_last e) (λ i l o. solve_out e i l ∙ b.0 i l o),
          λ d l. skip (solved_by f pt S (suc n) s) n d (solve_out_last e) ∙ moment_same f laws pt (solved_by f pt S (suc n) s) (solved_by f pt S n s) n d (solve_out e) ∙ b.1 d (omega arith),
        )

    -- the last number is in S
    module _ (e : S n ≡ true) (below : Solved n) (a : Apart pt (suc n)) where
      sides : ℕ → E
      sides = λ d. minus f (s (suc d)) (pt n ⊗ s d)

      inner : Outside (solved_by f pt S n sides) n × ((d : ℕ) → d < count S n → moment f pt (solved_by f pt S n sides) n d ≡ sides d)
      inner = below sides (λ i j li lj. a i j (omega arith) (omega arith))

      others_out : (i : ℕ) → i < n → S i ≡ false → others i ≡ 𝟎
      unfolding others divided sides
      others_out i l o = ap (λ w. inverse (minus f (pt i) (pt n)) ⊗ w) (inner.0 i l o) ∙ product_zero f laws (inverse (minus f (pt i) (pt n)))

      multiplied : (i : ℕ) → i < n → minus f (pt i) (pt n) ⊗ solved_by f pt S (suc n) s i ≡ solved_by f pt S n sides i
      unfolding others divided sides
      multiplied i l =
          ap (λ w. minus f (pt i) (pt n) ⊗ w) (solve_in e i l)
          ∙ inverse_back f laws (minus f (pt i) (pt n)) (solved_by f pt S n sides i) (minus_apart f laws (pt i) (pt n) (a i n (omega arith) (omega arith) (omega arith)))

      solved_first : moment f pt (solved_by f pt S (suc n) s) (suc n) 0 ≡ s 0
      unfolding total
      solved_first =
          moment_first f laws pt (solved_by f pt S (suc n) s) (suc n)
          ∙ ap₂ ◌⊕◌ (total_same f laws (solved_by f pt S (suc n) s) others n (solve_in e)) (solve_in_last e)
          ∙ laws.sum_comm (total f others n) (minus f (s 0) (total f others n)) ∙ minus_back f laws (s 0) (total f others n)

      solved_moment : (d : ℕ) → d < suc (count S n) → moment f pt (solved_by f pt S (suc n) s) (suc n) d ≡ s d
      solved_moment zero l = solved_first
      solved_moment (suc d) l =
          sym (next (solved_by f pt S (suc n) s) n d)
          ∙ ap₂ (λ v w. v ⊕ pt n ⊗ w)
          (moment_same f laws pt (λ i. minus f (pt i) (pt n) ⊗ solved_by f pt S (suc n) s i) (solved_by f pt S n sides) n d multiplied ∙ inner.1 d (omega arith))
          (solved_moment d (omega arith))
          ∙ (unfold sides in minus_back f laws (s (suc d)) (pt n ⊗ s d))

      solved_in : Outside (solved_by f pt S (suc n) s) (suc n) × ((d : ℕ) → d < count S (suc n) → moment f pt (solved_by f pt S (suc n) s) (suc n) d ≡ s d)
      solved_in =
          let k = count_in S n e in (
            last_or (λ i. S i ≡ false → solved_by f pt S (suc n) s i ≡ 𝟎) n (λ o. absurd (both_ways (S n) o e)) (λ i l o. solve_in e i l ∙ others_out i l o),
            λ d l. solved_moment d (omega arith),
          )

  pub solved : (n : ℕ) → Solved n
  solved zero = λ s a. ((λ i l o. absurd (omega arith)), unfold count in λ e l. absurd (omega arith))
  solved (suc n) = by (cases_Bool (S n)) (solved n)
    where
      by : (S n ≡ true) ⊎ (S n ≡ false) → Solved n → Solved (suc n)
      by (inl e) b s a = solved_in n s e b a
      by (inr e) b s a = solved_out n s e b a
