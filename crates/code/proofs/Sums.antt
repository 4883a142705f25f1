-- Sums over the numbers below n. Assumes nothing.
use Rattle.std.proofs.Common.{◌≡◌, ℕ, zero, suc, ◌<◌, sym, refl, ap, ◌∙◌, ap₂, arith}
use Rattle.field.specs.Field.{Arith, Laws}
use Rattle.code.specs.Code.{power, total, moment}
use Rattle.code.proofs.Ring.{minus, product_zero, exchange, distrib_right, product_left_comm, minus_back, product_neg, neg_of_sum, neg_zero}

module _ {E : Type 0} (f : Arith E) (laws : Laws f) where
  open f use {sum as ◌⊕◌, product as ◌⊗◌, negative as ⊖◌, zero as 𝟎, one as 𝟏, inverse}

  infixl 60 ◌⊕◌
  infixl 70 ◌⊗◌
  infixr 80 ⊖◌
  pub total_same : (g h : ℕ → E) (n : ℕ) → ((i : ℕ) → i < n → g i ≡ h i) → total f g n ≡ total f h n
  unfolding total
  total_same g h zero e = refl
  total_same g h (suc n) e = ap₂ ◌⊕◌ (total_same g h n (λ i l. e i (omega arith))) (e n (omega arith))

  pub total_zero : (g : ℕ → E) (n : ℕ) → ((i : ℕ) → i < n → g i ≡ 𝟎) → total f g n ≡ 𝟎
  unfolding total
  total_zero g zero e = refl
  total_zero g (suc n) e = ap₂ ◌⊕◌ (total_zero g n (λ i l. e i (omega arith))) (e n (omega arith)) ∙ laws.sum_zero 𝟎

  pub total_sum : (g h : ℕ → E) (n : ℕ) → total f (λ i. g i ⊕ h i) n ≡ total f g n ⊕ total f h n
  unfolding total
  total_sum g h zero = sym (laws.sum_zero 𝟎)
  total_sum g h (suc n) = ap (λ x. x ⊕ (g n ⊕ h n)) (total_sum g h n) ∙ exchange f laws (total f g n) (total f h n) (g n) (h n)

  pub total_product : (a : E) (g : ℕ → E) (n : ℕ) → total f (λ i. a ⊗ g i) n ≡ a ⊗ total f g n
  unfolding total
  total_product a g zero = sym (product_zero f laws a)
  total_product a g (suc n) = ap (λ x. x ⊕ a ⊗ g n) (total_product a g n) ∙ sym (laws.product_sum a (total f g n) (g n))

  pub total_neg : (g : ℕ → E) (n : ℕ) → total f (λ i. ⊖ g i) n ≡ ⊖ total f g n
  unfolding total
  total_neg g zero = sym (neg_zero f laws)
  total_neg g (suc n) = ap (λ x. x ⊕ ⊖ g n) (total_neg g n) ∙ sym (neg_of_sum f laws (total f g n) (g n))

  -- moments
  pub moment_more : (pt x : ℕ → E) (n e : ℕ) → moment f pt x (suc n) e ≡ moment f pt x n e ⊕ power f (pt n) e ⊗ x n
  unfolding moment total
  moment_more pt x n e = refl

  pub moment_none : (pt x : ℕ → E) (e : ℕ) → moment f pt x 0 e ≡ 𝟎
  unfolding moment total
  moment_none pt x e = refl

  pub moment_same : (pt x y : ℕ → E) (n e : ℕ) → ((i : ℕ) → i < n → x i ≡ y i) → moment f pt x n e ≡ moment f pt y n e
  unfolding moment
  moment_same pt x y n e h =
      total_same (λ i. power f (pt i) e ⊗ x i) (λ i. power f (pt i) e ⊗ y i) n (λ i l. ap (λ v. power f (pt i) e ⊗ v) (h i l))

  pub moment_zero : (pt x : ℕ → E) (n e : ℕ) → ((i : ℕ) → i < n → x i ≡ 𝟎) → moment f pt x n e ≡ 𝟎
  unfolding moment
  moment_zero pt x n e h =
      total_zero (λ i. power f (pt i) e ⊗ x i) n (λ i l. ap (λ v. power f (pt i) e ⊗ v) (h i l) ∙ product_zero f laws (power f (pt i) e))

  pub moment_sum : (pt x y : ℕ → E) (n e : ℕ) → moment f pt (λ i. x i ⊕ y i) n e ≡ moment f pt x n e ⊕ moment f pt y n e
  unfolding moment
  moment_sum pt x y n e =
      total_same (λ i. power f (pt i) e ⊗ (x i ⊕ y i)) (λ i. power f (pt i) e ⊗ x i ⊕ power f (pt i) e ⊗ y i) n
      (λ i l. laws.product_sum (power f (pt i) e) (x i) (y i))
      ∙ total_sum (λ i. power f (pt i) e ⊗ x i) (λ i. power f (pt i) e ⊗ y i) n

  pub moment_neg : (pt x : ℕ → E) (n e : ℕ) → moment f pt (λ i. ⊖ x i) n e ≡ ⊖ moment f pt x n e
  unfolding moment
  moment_neg pt x n e =
      total_same (λ i. power f (pt i) e ⊗ ⊖ x i) (λ i. ⊖ (power f (pt i) e ⊗ x i)) n (λ i l. product_neg f laws (power f (pt i) e) (x i))
      ∙ total_neg (λ i. power f (pt i) e ⊗ x i) n

  -- moment 0 is the sum
  pub moment_first : (pt x : ℕ → E) (n : ℕ) → moment f pt x n 0 ≡ total f x n
  unfolding moment power
  moment_first pt x n = total_same (λ i. 𝟏 ⊗ x i) x n (λ i l. laws.product_comm 𝟏 (x i) ∙ laws.product_one (x i))

  -- the next moment, by the differences from a point
  pub moment_next : (pt x : ℕ → E) (a : E) (n e : ℕ) → moment f pt (λ i. minus f (pt i) a ⊗ x i) n e ⊕ a ⊗ moment f pt x n e ≡ moment f pt x n (suc e)
  unfolding moment power
  moment_next pt x a n e =
      let P : ℕ → E = λ i. power f (pt i) e in
      ap (λ v. total f (λ i. P i ⊗ (minus f (pt i) a ⊗ x i)) n ⊕ v) (sym (total_product a (λ i. P i ⊗ x i) n))
      ∙ sym (total_sum (λ i. P i ⊗ (minus f (pt i) a ⊗ x i)) (λ i. a ⊗ (P i ⊗ x i)) n)
      ∙ total_same (λ i. P i ⊗ (minus f (pt i) a ⊗ x i) ⊕ a ⊗ (P i ⊗ x i)) (λ i. (pt i ⊗ P i) ⊗ x i) n (λ i l. step (pt i) (P i) (x i))
    where
      step : (b p y : E) → p ⊗ (minus f b a ⊗ y) ⊕ a ⊗ (p ⊗ y) ≡ (b ⊗ p) ⊗ y
      step b p y =
          ap (λ v. v ⊕ a ⊗ (p ⊗ y)) (product_left_comm f laws p (minus f b a) y)
          ∙ sym (distrib_right f laws (minus f b a) a (p ⊗ y))
          ∙ ap (λ v. v ⊗ (p ⊗ y)) (minus_back f laws b a)
          ∙ sym (laws.product_assoc b p y)
