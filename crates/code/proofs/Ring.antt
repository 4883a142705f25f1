-- What the laws of a field give. Assumes nothing.
use Rattle.std.proofs.Common.{◌≡◌, ◌≢◌, sym, ap, ◌∙◌, ap₂}
use Rattle.field.specs.Field.{Arith, Laws}
pub use Rattle.code.specs.Code.{minus}

module _ {E : Type 0} (f : Arith E) (laws : Laws f) where
  open f use {sum as ◌⊕◌, product as ◌⊗◌, negative as ⊖◌, zero as 𝟎, one as 𝟏, inverse}

  infixl 60 ◌⊕◌
  infixl 70 ◌⊗◌
  infixr 80 ⊖◌
  pub zero_sum : (a : E) → 𝟎 ⊕ a ≡ a
  zero_sum a = laws.sum_comm 𝟎 a ∙ laws.sum_zero a

  pub neg_sum : (a : E) → ⊖ a ⊕ a ≡ 𝟎
  neg_sum a = laws.sum_comm (⊖ a) a ∙ laws.sum_negative a

  pub sum_left_comm : (a b c : E) → a ⊕ (b ⊕ c) ≡ b ⊕ (a ⊕ c)
  sum_left_comm a b c = sym (laws.sum_assoc a b c) ∙ ap (λ x. x ⊕ c) (laws.sum_comm a b) ∙ laws.sum_assoc b a c

  pub product_left_comm : (a b c : E) → a ⊗ (b ⊗ c) ≡ b ⊗ (a ⊗ c)
  product_left_comm a b c = sym (laws.product_assoc a b c) ∙ ap (λ x. x ⊗ c) (laws.product_comm a b) ∙ laws.product_assoc b a c

  pub one_product : (a : E) → 𝟏 ⊗ a ≡ a
  one_product a = laws.product_comm 𝟏 a ∙ laws.product_one a

  pub distrib_right : (a b c : E) → (a ⊕ b) ⊗ c ≡ a ⊗ c ⊕ b ⊗ c
  distrib_right a b c = laws.product_comm (a ⊕ b) c ∙ laws.product_sum c a b ∙ ap₂ ◌⊕◌ (laws.product_comm c a) (laws.product_comm c b)

  -- (a ⊕ b) - b
  pub add_back : (a b : E) → (a ⊕ b) ⊕ ⊖ b ≡ a
  add_back a b = laws.sum_assoc a b (⊖ b) ∙ ap (λ x. a ⊕ x) (laws.sum_negative b) ∙ laws.sum_zero a

  -- (a - b) ⊕ b
  pub minus_back : (a b : E) → minus f a b ⊕ b ≡ a
  minus_back a b = laws.sum_assoc a (⊖ b) b ∙ ap (λ x. a ⊕ x) (neg_sum b) ∙ laws.sum_zero a

  pub sum_cancel : (a b c : E) → a ⊕ c ≡ b ⊕ c → a ≡ b
  sum_cancel a b c e = sym (add_back a c) ∙ ap (λ x. x ⊕ ⊖ c) e ∙ add_back b c

  pub product_zero : (a : E) → a ⊗ 𝟎 ≡ 𝟎
  product_zero a =
      sum_cancel (a ⊗ 𝟎) 𝟎 (a ⊗ 𝟎) (sym (laws.product_sum a 𝟎 𝟎) ∙ ap (λ x. a ⊗ x) (laws.sum_zero 𝟎) ∙ sym (zero_sum (a ⊗ 𝟎)))

  pub zero_product : (a : E) → 𝟎 ⊗ a ≡ 𝟎
  zero_product a = laws.product_comm 𝟎 a ∙ product_zero a

  -- what adds with b to zero
  pub neg_unique : (a b : E) → a ⊕ b ≡ 𝟎 → a ≡ ⊖ b
  neg_unique a b e = sum_cancel a (⊖ b) b (e ∙ sym (neg_sum b))

  pub neg_zero : ⊖ 𝟎 ≡ 𝟎
  neg_zero = sym (neg_unique 𝟎 𝟎 (laws.sum_zero 𝟎))

  pub product_neg : (a b : E) → a ⊗ ⊖ b ≡ ⊖ (a ⊗ b)
  product_neg a b = neg_unique (a ⊗ ⊖ b) (a ⊗ b) (sym (laws.product_sum a (⊖ b) b) ∙ ap (λ x. a ⊗ x) (neg_sum b) ∙ product_zero a)

  -- (a ⊕ b) ⊕ (c ⊕ d), the middle two exchanged
  pub exchange : (a b c d : E) → (a ⊕ b) ⊕ (c ⊕ d) ≡ (a ⊕ c) ⊕ (b ⊕ d)
  exchange a b c d = simp (laws.sum_assoc, sum_left_comm b c d)

  pub neg_of_sum : (a b : E) → ⊖ (a ⊕ b) ≡ ⊖ a ⊕ ⊖ b
  neg_of_sum a b =
      sym
      (neg_unique (⊖ a ⊕ ⊖ b) (a ⊕ b)
      (exchange (⊖ a) (⊖ b) a b ∙ ap₂ ◌⊕◌ (neg_sum a) (neg_sum b) ∙ laws.sum_zero 𝟎))

  -- what differs by zero is the same
  pub same : (a b : E) → minus f a b ≡ 𝟎 → a ≡ b
  same a b e = sym (minus_back a b) ∙ ap (λ x. x ⊕ b) e ∙ zero_sum b

  pub minus_self : (a b : E) → a ≡ b → minus f a b ≡ 𝟎
  minus_self a b e = ap (λ x. minus f x b) e ∙ laws.sum_negative b

  pub minus_apart : (a b : E) → a ≢ b → minus f a b ≢ 𝟎
  minus_apart a b ne e = ne (same a b e)

  -- a ⊗ (inverse a ⊗ b)
  pub inverse_back : (a b : E) → a ≢ 𝟎 → a ⊗ (inverse a ⊗ b) ≡ b
  inverse_back a b ne = sym (laws.product_assoc a (inverse a) b) ∙ ap (λ x. x ⊗ b) (laws.product_inverse a ne) ∙ one_product b

  -- a product that is zero has a factor that is
  pub factor_zero : (a b : E) → a ≢ 𝟎 → a ⊗ b ≡ 𝟎 → b ≡ 𝟎
  factor_zero a b ne e =
      sym (inverse_back a b ne) ∙ product_left_comm a (inverse a) b ∙ ap (λ x. inverse a ⊗ x) e ∙ product_zero (inverse a)
