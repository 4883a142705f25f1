-- A finite field whose elements are numbered by codes. Assumes nothing.
use Rattle.std.specs.Prelude.{◌≡◌, ℕ, ◌^◌, ◌<◌, ◌≤◌, cond, ◌≢◌, nat_lt}

-- what a field gives
pub record Arith (E : Type 0) : Type 0 where
  -- how many codes there are: the words below it
  pub size : ℕ
  -- the code of an element, and the element of a code
  pub code : E → ℕ
  pub of : ℕ → E
  pub zero : E
  pub one : E
  pub sum : E → E → E
  pub negative : E → E
  pub product : E → E → E
  pub inverse : E → E
  -- the coupling element, and the point of each number
  pub coupling : E
  pub point : ℕ → E

-- the first sixteen points have the codes 0 to 15, and the others the code 0
abbrev pub point_of : {E : Type 0} → (ℕ → E) → ℕ → E
point_of of i = cond (nat_lt i 16) (of i) (of 0)

-- what a field must show; that zero is not one follows, since their codes differ
pub record Laws {E : Type 0} (f : Arith E) : Type 0 where
  -- a code fits a word; each code makes one element, and no other element has it
  pub fits : f.size ≤ 2 ^ 16
  pub code_below : (a : E) → f.code a < f.size
  pub code_of : (w : ℕ) → w < f.size → f.code (f.of w) ≡ w
  pub of_code : (a : E) → f.of (f.code a) ≡ a
  pub zero_code : f.code f.zero ≡ 0
  pub one_code : f.code f.one ≡ 1
  -- sum
  pub sum_comm : (a b : E) → f.sum a b ≡ f.sum b a
  pub sum_assoc : (a b c : E) → f.sum (f.sum a b) c ≡ f.sum a (f.sum b c)
  pub sum_zero : (a : E) → f.sum a f.zero ≡ a
  pub sum_negative : (a : E) → f.sum a (f.negative a) ≡ f.zero
  -- product
  pub product_comm : (a b : E) → f.product a b ≡ f.product b a
  pub product_assoc : (a b c : E) → f.product (f.product a b) c ≡ f.product a (f.product b c)
  pub product_one : (a : E) → f.product a f.one ≡ a
  pub product_sum : (a b c : E) → f.product a (f.sum b c) ≡ f.sum (f.product a b) (f.product a c)
  -- inverse
  pub inverse_zero : f.inverse f.zero ≡ f.zero
  pub product_inverse : (a : E) → a ≢ f.zero → f.product a (f.inverse a) ≡ f.one
  -- points below 16 are pairwise different, and the others are zero
  pub points_differ : (i j : ℕ) → i < 16 → j < 16 → f.point i ≡ f.point j → i ≡ j
  pub points_end : (i : ℕ) → 16 ≤ i → f.point i ≡ f.zero
  -- the coupling element is not zero, and its square is not one
  pub coupling_zero : f.coupling ≢ f.zero
  pub coupling_square : f.product f.coupling f.coupling ≢ f.one
