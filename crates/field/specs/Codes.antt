-- Elements by their codes, in a field of any number of codes. Assumes nothing.
use mathlib.Core.HLevel.{is_prop→PathP}
use Rattle.std.specs.Prelude.{◌≡◌, ℕ, suc, ◌%◌, ◌<◌, ◌≤◌, ◌≢◌}
use Rattle.std.proofs.Common.{ap, mod-lt, mod-eq_of_lt, arith}
use Rattle.std.proofs.Math.Bridge.{le_prop}
use Rattle.std.proofs.Math.Decide.{dec_lt}
use Rattle.field.specs.declared.element.Code.{Code}

-- the element whose code is n % size
abbrev pub code_of : (size : ℕ) → 0 < size → ℕ → Code size
code_of size nonzero n = record { value = n % size; ok = mod-lt n nonzero }

-- two elements with one code are one
pub same : {size : ℕ} (a b : Code size) → a.value ≡ b.value → a ≡ b
same {size} a b e = λ i. record { value = e i; ok = is_prop→PathP (λ j. suc (e j) ≤ size) (λ j. le_prop) a.ok b.ok i }

module _ {size : ℕ} (nonzero : 0 < size) where
  -- the code of the element of n is n
  pub code_back : (n : ℕ) → n < size → (code_of size nonzero n).value ≡ n
  code_back n h = mod-eq_of_lt h

  -- the element of a code
  pub of_code : (a : Code size) → code_of size nonzero a.value ≡ a
  of_code a = same (code_of size nonzero a.value) a (mod-eq_of_lt a.ok)

  -- equal remainders give one element
  pub congruent : (m n : ℕ) → m % size ≡ n % size → code_of size nonzero m ≡ code_of size nonzero n
  congruent m n e = same (code_of size nonzero m) (code_of size nonzero n) e

  -- elements of two codes differ
  pub differ : (m n : ℕ) → m < n → n < size → code_of size nonzero n ≢ code_of size nonzero m
  differ m n l h e =
      let v : n % size ≡ m % size = ap (λ (x : Code size). x.value) e in
      let low : m < size = omega arith in
      omega (arith, mod-eq_of_lt h, mod-eq_of_lt low)

  -- the code of an element other than that of 0
  pub positive : (a : Code size) → (a ≢ code_of size nonzero 0) → 0 < a.value
  positive a n = go (dec_lt 0 a.value)
    where
      go : Dec (0 < a.value) → 0 < a.value
      go (yes p) = p
      go (no q) = let e : a.value ≡ 0 % size = omega (arith, mod-eq_of_lt nonzero) in absurd (n (same a (code_of size nonzero 0) e))
