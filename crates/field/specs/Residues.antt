-- The prime field keeps the laws. Assumes nothing.
use Rattle.std.specs.Prelude.{◌≡◌, ℕ, ◌+◌, ◌-◌, ◌*◌, ◌%◌, ◌<◌, ◌≢◌, refl}
use Rattle.std.proofs.Common.{sym, ap, ◌∙◌, add_comm, add_assoc, add-zero, mul_comm, mul_assoc, mul-one, mul-add, arith, lit<, lit≤}
use Rattle.std.proofs.Math.Nat.{mod-add-mod, add-mod-mod, add-mod}
use Rattle.std.proofs.lemmas.Nat.{mul-mod_first, mul-mod_second}
use Rattle.field.specs.Field.{Laws}
use Rattle.field.specs.Codes.{code_back, congruent, differ, of_code, positive}
use Rattle.field.specs.PrimeField.{Residue, power, residue, prime_arith}
use Rattle.field.specs.Points.{point_apart, point_high}
use Rattle.field.specs.PrimeTable.{times_inverse}

sum_assoc : (a b c : ℕ) → ((a + b) % 257 + c) % 257 ≡ (a + (b + c) % 257) % 257
sum_assoc a b c = mod-add-mod (a + b) 257 c ∙ ap (λ x. x % 257) (add_assoc a b c) ∙ sym (add-mod-mod a (b + c) 257)

sum_negative : (a : ℕ) → a < 257 → (a + (257 - a) % 257) % 257 ≡ 0
sum_negative a h = let e : a + (257 - a) ≡ 257 = omega arith in add-mod-mod a (257 - a) 257 ∙ ap (λ x. x % 257) e

product_assoc : (a b c : ℕ) → a * b % 257 * c % 257 ≡ a * (b * c % 257) % 257
product_assoc a b c = mul-mod_first (a * b) c 257 ∙ ap (λ x. x % 257) (mul_assoc a b c) ∙ sym (mul-mod_second a (b * c) 257)

product_sum : (a b c : ℕ) → a * ((b + c) % 257) % 257 ≡ (a * b % 257 + a * c % 257) % 257
product_sum a b c = mul-mod_second a (b + c) 257 ∙ ap (λ x. x % 257) (mul-add a b c) ∙ add-mod (a * b) (a * c) 257

product_inverse : (a : Residue) → (a ≢ residue 0) → residue (a.value * (power 255 a.value % 257)) ≡ residue 1
product_inverse a n =
    congruent (lit< tt) (a.value * (power 255 a.value % 257)) 1
    (mul-mod_second a.value (power 255 a.value) 257 ∙ times_inverse a.value (positive (lit< tt) a n) a.ok)

inverse_zero : residue (power 255 0) ≡ residue 0
unfolding power
inverse_zero = refl

pub prime_laws : Laws prime_arith
prime_laws = record {
  fits = lit≤ tt;
  code_below = λ a. a.ok;
  code_of = code_back (lit< tt);
  of_code = of_code (lit< tt);
  zero_code = refl;
  one_code = refl;
  sum_comm = λ a b. ap residue (add_comm a.value b.value);
  sum_assoc = λ a b c. congruent (lit< tt) _ _ (sum_assoc a.value b.value c.value);
  sum_zero = λ a. ap residue (add-zero a.value) ∙ of_code (lit< tt) a;
  sum_negative = λ a. congruent (lit< tt) _ 0 (sum_negative a.value a.ok);
  product_comm = λ a b. ap residue (mul_comm a.value b.value);
  product_assoc = λ a b c. congruent (lit< tt) _ _ (product_assoc a.value b.value c.value);
  product_one = λ a. ap residue (mul-one a.value) ∙ of_code (lit< tt) a;
  product_sum = λ a b c. congruent (lit< tt) _ _ (product_sum a.value b.value c.value);
  product_inverse = product_inverse;
  inverse_zero = inverse_zero;
  coupling_zero = differ (lit< tt) 0 2 (lit< tt) (lit< tt);
  coupling_square = differ (lit< tt) 1 4 (lit< tt) (lit< tt);
  points_differ = point_apart residue (λ a. a.value) (λ n h. code_back (lit< tt) n (omega arith));
  points_end = point_high residue;
}
