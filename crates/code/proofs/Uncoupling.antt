-- The uncoupled symbols of an array. Assumes nothing.
use Rattle.std.proofs.Common.{◌≡◌, ℕ, ◌<◌, eqb, ◌≢◌, ◌⊎◌, sym, ap, ◌∙◌, ap₂, inl, inr}
use Rattle.std.proofs.lemmas.Bool.{cases_eq, eq-eqb, ne_eqb, cond-true, cond-false}
use Rattle.field.specs.Field.{Arith, Laws}
use Rattle.shape.specs.Layout.{digit, row, column, companion_node, companion_place}
use Rattle.code.specs.Code.{moment, uncoupled}
use Rattle.code.specs.Filling.{of_pair}
use Rattle.shape.proofs.Digits.{row_companion, column_companion, digit_companion, companion_back, companion_place_back}
use Rattle.code.proofs.Ring.{minus, exchange, product_neg, neg_of_sum, neg_unique, factor_zero, minus_apart, minus_back, minus_self, distrib_right, one_product, inverse_back, product_left_comm}
use Rattle.code.proofs.Sums.{moment_same, moment_sum, moment_neg}

module _ {E : Type 0} (f : Arith E) (laws : Laws f) where
  open f use {sum as ◌⊕◌, product as ◌⊗◌, negative as ⊖◌, zero as 𝟎, one as 𝟏, inverse, coupling as u}

  infixl 60 ◌⊕◌
  infixl 70 ◌⊗◌
  infixr 80 ⊖◌
  -- two symbols that are coupled
  one_minus : (a : E) → minus f 𝟏 (u ⊗ u) ⊗ a ≡ minus f a (u ⊗ (u ⊗ a))
  one_minus a =
      distrib_right f laws 𝟏 (⊖ (u ⊗ u)) a
      ∙ ap₂ ◌⊕◌ (one_product f laws a)
      (laws.product_comm (⊖ (u ⊗ u)) a ∙ product_neg f laws a (u ⊗ u) ∙ ap (λ v. ⊖ v) (laws.product_comm a (u ⊗ u) ∙ laws.product_assoc u u a))

  apart : minus f 𝟏 (u ⊗ u) ≢ 𝟎
  apart = minus_apart f laws 𝟏 (u ⊗ u) (λ e. laws.coupling_square (sym e))

  pub pair_zero : (a b : E) → a ⊕ u ⊗ b ≡ 𝟎 → b ⊕ u ⊗ a ≡ 𝟎 → a ≡ 𝟎
  pair_zero a b ea eb =
      let k : u ⊗ b ≡ ⊖ (u ⊗ (u ⊗ a)) = ap (λ v. u ⊗ v) (neg_unique f laws b (u ⊗ a) eb) ∙ product_neg f laws u (u ⊗ a) in
      factor_zero f laws (minus f 𝟏 (u ⊗ u)) a apart (one_minus a ∙ ap (λ v. a ⊕ v) (sym k) ∙ ea)

  pub pair_back : (a b : E) → of_pair f a b ⊕ u ⊗ of_pair f b a ≡ a
  unfolding of_pair
  pair_back a b =
      let v : E = inverse (minus f 𝟏 (u ⊗ u)) in
      ap (λ w. v ⊗ minus f a (u ⊗ b) ⊕ w) (product_left_comm f laws u v (minus f b (u ⊗ a)))
      ∙ sym (laws.product_sum v (minus f a (u ⊗ b)) (u ⊗ minus f b (u ⊗ a)))
      ∙ ap (λ w. v ⊗ w) inside ∙ product_comm_inverse
    where
      inside : minus f a (u ⊗ b) ⊕ u ⊗ minus f b (u ⊗ a) ≡ minus f 𝟏 (u ⊗ u) ⊗ a
      inside =
          ap (λ w. minus f a (u ⊗ b) ⊕ w) (laws.product_sum u b (⊖ (u ⊗ a)) ∙ ap (λ w. u ⊗ b ⊕ w) (product_neg f laws u (u ⊗ a)))
          ∙ sym (laws.sum_assoc (minus f a (u ⊗ b)) (u ⊗ b) (⊖ (u ⊗ (u ⊗ a))))
          ∙ ap (λ w. w ⊕ ⊖ (u ⊗ (u ⊗ a))) (minus_back f laws a (u ⊗ b)) ∙ sym (one_minus a)

      product_comm_inverse : inverse (minus f 𝟏 (u ⊗ u)) ⊗ (minus f 𝟏 (u ⊗ u) ⊗ a) ≡ a
      product_comm_inverse = product_left_comm f laws (inverse (minus f 𝟏 (u ⊗ u))) (minus f 𝟏 (u ⊗ u)) a ∙ inverse_back f laws (minus f 𝟏 (u ⊗ u)) a apart

  module _ (q : ℕ) (A : ℕ → ℕ → E) (i p : ℕ) where
    pub uncoupled_own : row q i ≡ digit q p (column q i) → uncoupled f q A i p ≡ A i p
    unfolding uncoupled
    uncoupled_own e = cond-true (eqb (row q i) (digit q p (column q i))) _ _ (eq-eqb (row q i) (digit q p (column q i)) e)

    pub uncoupled_pair : (row q i ≡ digit q p (column q i) → ⊥) → uncoupled f q A i p ≡ A i p ⊕ u ⊗ A (companion_node q i p) (companion_place q i p)
    unfolding uncoupled
    uncoupled_pair ne = cond-false (eqb (row q i) (digit q p (column q i))) _ _ (ne_eqb (row q i) (digit q p (column q i)) ne)

    -- the companion of a coupled symbol
    pub companion_apart : 0 < q → (row q i ≡ digit q p (column q i) → ⊥)
        → row q (companion_node q i p) ≡ digit q (companion_place q i p) (column q (companion_node q i p)) → ⊥
    companion_apart pos ne e =
        ne (sym (sym (row_companion q pos i p) ∙ e ∙ ap (λ y. digit q (companion_place q i p) y) (column_companion q pos i p) ∙ digit_companion q pos i p))

  pub uncoupled_companion : (q : ℕ) (A : ℕ → ℕ → E) (i p : ℕ) → 0 < q → (row q i ≡ digit q p (column q i) → ⊥)
      → uncoupled f q A (companion_node q i p) (companion_place q i p) ≡ A (companion_node q i p) (companion_place q i p) ⊕ u ⊗ A i p
  uncoupled_companion q A i p pos ne =
      let c : ℕ = companion_node q i p in
      let d : ℕ = companion_place q i p in
      uncoupled_pair q A c d (companion_apart q A i p pos ne)
      ∙ ap₂ (λ j r. A c d ⊕ u ⊗ A j r) (companion_back q pos i p) (companion_place_back q pos i p)

  pub uncoupled_same : (q : ℕ) (A A' : ℕ → ℕ → E) (i p : ℕ) → A i p ≡ A' i p
      → ((row q i ≡ digit q p (column q i) → ⊥) → A (companion_node q i p) (companion_place q i p) ≡ A' (companion_node q i p) (companion_place q i p))
      → uncoupled f q A i p ≡ uncoupled f q A' i p
  uncoupled_same q A A' i p e k = go (cases_eq (row q i) (digit q p (column q i)))
    where
      go : (row q i ≡ digit q p (column q i)) ⊎ (row q i ≡ digit q p (column q i) → ⊥) → uncoupled f q A i p ≡ uncoupled f q A' i p
      go (inl o) = uncoupled_own q A i p o ∙ e ∙ sym (uncoupled_own q A' i p o)
      go (inr o) = uncoupled_pair q A i p o ∙ ap₂ (λ v w. v ⊕ u ⊗ w) e (k o) ∙ sym (uncoupled_pair q A' i p o)

  abbrev pub less : (A A' : ℕ → ℕ → E) → ℕ → ℕ → E
  less A A' i p = minus f (A i p) (A' i p)

  pub uncoupled_less : (q : ℕ) (A A' : ℕ → ℕ → E) (i p : ℕ) → uncoupled f q (less A A') i p ≡ minus f (uncoupled f q A i p) (uncoupled f q A' i p)
  uncoupled_less q A A' i p = go (cases_eq (row q i) (digit q p (column q i)))
    where
      go : (row q i ≡ digit q p (column q i)) ⊎ (row q i ≡ digit q p (column q i) → ⊥) → uncoupled f q (less A A') i p ≡ minus f (uncoupled f q A i p) (uncoupled f q A' i p)
      go (inl o) = uncoupled_own q (less A A') i p o ∙ sym (ap₂ (minus f) (uncoupled_own q A i p o) (uncoupled_own q A' i p o))
      go (inr o) =
          let c : ℕ = companion_node q i p in
          let d : ℕ = companion_place q i p in
          uncoupled_pair q (less A A') i p o
          ∙ ap (λ v. minus f (A i p) (A' i p) ⊕ v) (laws.product_sum u (A c d) (⊖ A' c d) ∙ ap (λ v. u ⊗ A c d ⊕ v) (product_neg f laws u (A' c d)))
          ∙ exchange f laws (A i p) (⊖ A' i p) (u ⊗ A c d) (⊖ (u ⊗ A' c d))
          ∙ ap (λ v. (A i p ⊕ u ⊗ A c d) ⊕ v) (sym (neg_of_sum f laws (A' i p) (u ⊗ A' c d)))
          ∙ sym (ap₂ (minus f) (uncoupled_pair q A i p o) (uncoupled_pair q A' i p o))

  -- two checks that hold, of two arrays: that of their difference
  pub check_less : (q : ℕ) (A A' : ℕ → ℕ → E) (p n e : ℕ)
      → moment f f.point (λ i. uncoupled f q A i p) n e ≡ 𝟎 → moment f f.point (λ i. uncoupled f q A' i p) n e ≡ 𝟎
      → moment f f.point (λ i. uncoupled f q (less A A') i p) n e ≡ 𝟎
  check_less q A A' p n e h h' =
      let B : ℕ → E = λ i. uncoupled f q A i p in
      let B' : ℕ → E = λ i. uncoupled f q A' i p in
      moment_same f laws f.point (λ i. uncoupled f q (less A A') i p) (λ i. B i ⊕ ⊖ B' i) n e (λ i l. uncoupled_less q A A' i p)
      ∙ moment_sum f laws f.point B (λ i. ⊖ B' i) n e ∙ ap (λ v. moment f f.point B n e ⊕ v) (moment_neg f laws f.point B' n e)
      ∙ minus_self f laws (moment f f.point B n e) (moment f f.point B' n e) (h ∙ sym h')
