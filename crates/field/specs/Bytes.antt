-- The byte field keeps the laws. Assumes nothing.
use Rattle.std.specs.Prelude.{◌≡◌, ℕ, zero, suc, ◌%◌, ◌<◌, ◌≢◌, bit_xor, refl}
use Rattle.std.proofs.Common.{sym, ap, ap₂, ◌∙◌, mod-eq_of_lt, arith, lit<, lit≤}
use Rattle.std.specs.Int.Bits.{xor_assoc, xor_self, xor_zero_r}
use Rattle.std.proofs.lemmas.Nat.{xor_comm, xor_lt}
use Rattle.field.specs.ByteField.{Byte, times_x, times_bits, multiply, power, byte, byte_arith}
use Rattle.field.specs.Codes.{code_back, differ, of_code, positive}
use Rattle.field.specs.Field.{Laws}
use Rattle.field.specs.ByteLaws.{multiply_comm, multiply_assoc, multiply_inverse}
use Rattle.field.specs.Points.{point_apart, point_high}
use Rattle.field.specs.Poly.{multiply_linear, multiply_below, multiply_one}

sum_below : (a b : Byte) → bit_xor a.value b.value < 256
sum_below a b = xor_lt 8 a.value b.value a.ok b.ok

product_below : (a b : Byte) → multiply a.value b.value < 256
product_below a b = multiply_below a.value b.value a.ok

power_below : (n a : ℕ) → a < 256 → power n a < 256
unfolding power
power_below zero a h = lit< tt
power_below (suc n) a h = multiply_below a (power n a) h

sum_assoc : (a b c : Byte) → byte (bit_xor (bit_xor a.value b.value % 256) c.value) ≡ byte (bit_xor a.value (bit_xor b.value c.value % 256))
sum_assoc a b c =
    ap byte
    (ap (λ x. bit_xor x c.value) (mod-eq_of_lt (sum_below a b)) ∙ xor_assoc a.value b.value c.value
    ∙ ap (bit_xor a.value) (sym (mod-eq_of_lt (sum_below b c))))

product_assoc : (a b c : Byte) → byte (multiply (multiply a.value b.value % 256) c.value) ≡ byte (multiply a.value (multiply b.value c.value % 256))
product_assoc a b c =
    ap byte
    (ap (λ x. multiply x c.value) (mod-eq_of_lt (product_below a b))
    ∙ multiply_assoc a.value b.value c.value a.ok b.ok c.ok
    ∙ ap (multiply a.value) (sym (mod-eq_of_lt (product_below b c))))

product_sum : (a b c : Byte) → byte (multiply a.value (bit_xor b.value c.value % 256)) ≡ byte (bit_xor (multiply a.value b.value % 256) (multiply a.value c.value % 256))
product_sum a b c =
    ap byte
    (ap (multiply a.value) (mod-eq_of_lt (sum_below b c)) ∙ multiply_linear a.value b.value c.value
    ∙ sym (ap₂ bit_xor (mod-eq_of_lt (product_below a b)) (mod-eq_of_lt (product_below a c))))

product_inverse : (a : Byte) → (a ≢ byte 0) → byte (multiply a.value (power 254 a.value % 256)) ≡ byte 1
product_inverse a n =
    ap byte
    (ap (multiply a.value) (mod-eq_of_lt (power_below 254 a.value a.ok))
    ∙ multiply_inverse a.value (positive (lit< tt) a n) a.ok)

inverse_zero : byte (power 254 0) ≡ byte 0
unfolding power multiply times_bits times_x
inverse_zero = refl

square : byte (multiply 2 2) ≡ byte 1 → ⊥
unfolding multiply times_bits times_x
square = differ (lit< tt) 1 4 (lit< tt) (lit< tt)

pub byte_laws : Laws byte_arith
byte_laws = record {
  fits = lit≤ tt;
  code_below = λ a. a.ok;
  code_of = code_back (lit< tt);
  of_code = of_code (lit< tt);
  zero_code = refl;
  one_code = refl;
  sum_comm = λ a b. ap byte (xor_comm a.value b.value);
  sum_assoc = sum_assoc;
  sum_zero = λ a. ap byte (xor_zero_r a.value) ∙ of_code (lit< tt) a;
  sum_negative = λ a. ap byte (xor_self a.value);
  product_comm = λ a b. ap byte (multiply_comm a.value b.value a.ok b.ok);
  product_assoc = product_assoc;
  product_one = λ a. ap byte (multiply_one a.value a.ok) ∙ of_code (lit< tt) a;
  product_sum = product_sum;
  product_inverse = product_inverse;
  inverse_zero = inverse_zero;
  coupling_zero = differ (lit< tt) 0 2 (lit< tt) (lit< tt);
  coupling_square = square;
  points_differ = point_apart byte (λ a. a.value) (λ n h. code_back (lit< tt) n (omega arith));
  points_end = point_high byte;
}
