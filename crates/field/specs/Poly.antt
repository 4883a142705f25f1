-- Polynomials over bits: the product is linear, and goes by powers of x. Assumes nothing.
use Rattle.std.specs.Prelude.{◌≡◌, ℕ, zero, suc, ◌+◌, ◌-◌, ◌*◌, ◌/◌, ◌%◌, ◌^◌, ◌<◌, bit_xor, true, nat_eq, nat_lt, refl}
use Rattle.std.proofs.Common.{sym, ap, ap₂, ◌∙◌, subst, zero-add, mul-one, mul-zero, zero-mul, add-zero, suc-add, mod-lt, pow-suc, arith, lit<}
use Rattle.std.proofs.Math.Decide.{dec_lt}
use Rattle.std.specs.Int.Bits.{xor_assoc, xor_self, xor_zero_r, xor_shifted}
use Rattle.std.proofs.lemmas.Bool.{agree_below_at, eqb-true, ltb-true}
use Rattle.std.proofs.lemmas.Nat.{xor_comm, xor_lt, xor_shr, xor_mod, xor_block}
use Rattle.field.specs.ByteField.{times_x, times_bits, multiply, x_times, x_to}

-- (a + b) + (c + d) = (a + c) + (b + d)
pub xor4 : (a b c d : ℕ) → bit_xor (bit_xor a b) (bit_xor c d) ≡ bit_xor (bit_xor a c) (bit_xor b d)
xor4 a b c d =
    xor_assoc a b (bit_xor c d)
    ∙ ap (bit_xor a) (sym (xor_assoc b c d) ∙ ap (λ x. bit_xor x d) (xor_comm b c) ∙ xor_assoc c b d)
    ∙ sym (xor_assoc a c (bit_xor b d))

xor_double : (a b : ℕ) → 2 * bit_xor a b ≡ bit_xor (2 * a) (2 * b)
xor_double a b =
    let l : 2 * bit_xor a b ≡ bit_xor a b * 2 + 0 = omega arith in
    let p : a * 2 + 0 ≡ 2 * a = omega arith in
    let q : b * 2 + 0 ≡ 2 * b = omega arith in
    l ∙ sym (xor_block 1 a b 0 0 (lit< tt) (lit< tt)) ∙ ap₂ bit_xor p q

-- a constant times a bit is linear in the bit
bit_linear : (m c d : ℕ) → c < 2 → d < 2 → m * bit_xor c d ≡ bit_xor (m * c) (m * d)
bit_linear m zero d hc hd = sym (ap (λ x. bit_xor x (m * d)) (mul-zero m))
bit_linear m (suc zero) zero hc hd = sym (ap (bit_xor (m * 1)) (mul-zero m) ∙ xor_zero_r (m * 1))
bit_linear m (suc zero) (suc zero) hc hd = mul-zero m ∙ sym (xor_self (m * 1))
bit_linear m (suc zero) (suc (suc d)) hc hd = absurd (omega arith)
bit_linear m (suc (suc c)) d hc hd = absurd (omega arith)

odd : (a : ℕ) → a % 2 < 2
odd a = mod-lt a (lit< tt)

-- times-x is linear
pub x_linear : (a b : ℕ) → times_x (bit_xor a b) ≡ bit_xor (times_x a) (times_x b)
unfolding times_x
x_linear a b =
    ap₂ bit_xor (xor_double a b)
    (ap (λ x. 285 * (x % 2)) (xor_shr a b 7) ∙ ap (λ x. 285 * x) (xor_mod (a / 128) (b / 128) 1)
    ∙ bit_linear 285 (a / 128 % 2) (b / 128 % 2) (odd (a / 128)) (odd (b / 128)))
    ∙ xor4 (2 * a) (2 * b) (285 * (a / 128 % 2)) (285 * (b / 128 % 2))

-- the product is linear in its second factor
pub bits_linear : (n a b c : ℕ) → times_bits n a (bit_xor b c) ≡ bit_xor (times_bits n a b) (times_bits n a c)
unfolding times_bits
bits_linear zero a b c = refl
bits_linear (suc n) a b c =
    ap₂ bit_xor (ap (λ x. a * x) (xor_mod b c 1) ∙ bit_linear a (b % 2) (c % 2) (odd b) (odd c))
    (ap (λ x. times_x (times_bits n a x)) (xor_shr b c 1) ∙ ap times_x (bits_linear n a (b / 2) (c / 2))
    ∙ x_linear (times_bits n a (b / 2)) (times_bits n a (c / 2)))
    ∙ xor4 (a * (b % 2)) (a * (c % 2)) (times_x (times_bits n a (b / 2))) (times_x (times_bits n a (c / 2)))

pub multiply_linear : (a b c : ℕ) → multiply a (bit_xor b c) ≡ bit_xor (multiply a b) (multiply a c)
unfolding multiply
multiply_linear a b c = bits_linear 8 a b c

-- products stay below 256
x_below : (a : ℕ) → a < 256 → times_x a < 256
unfolding times_x
x_below a h = ltb-true _ _ (agree_below_at (λ k. nat_lt (times_x k) 256) (λ k. true) 256 a refl h)

bit_times_below : (a c : ℕ) → c < 2 → a < 256 → a * c < 256
bit_times_below a zero hc h = rw mul-zero (lit< tt)
bit_times_below a (suc zero) hc h = rw mul-one h
bit_times_below a (suc (suc c)) hc h = absurd (omega arith)

bits_below : (n a b : ℕ) → a < 256 → times_bits n a b < 256
unfolding times_bits
bits_below zero a b h = lit< tt
bits_below (suc n) a b h =
    xor_lt 8 (a * (b % 2)) (times_x (times_bits n a (b / 2))) (bit_times_below a (b % 2) (odd b) h)
    (x_below (times_bits n a (b / 2)) (bits_below n a (b / 2) h))

pub multiply_below : (a b : ℕ) → a < 256 → multiply a b < 256
unfolding multiply
multiply_below a b h = bits_below 8 a b h

-- one bit more, which is 0, changes nothing
bits_more : (n a b : ℕ) → b < 2 ^ n → times_bits (suc n) a b ≡ times_bits n a b
unfolding times_bits times_x
bits_more zero a b h =
    let e : b % 2 ≡ 0 = omega arith in
    ap (λ x. bit_xor (a * x) 0) e ∙ xor_zero_r (a * 0) ∙ mul-zero a
bits_more (suc n) a b h =
    let s : b < 2 ^ n * 2 = rw pow-suc at h in
    ap (λ x. bit_xor (a * (b % 2)) (times_x x)) (bits_more n a (b / 2) (omega arith))

times_x_low : (b : ℕ) → b < 128 → times_x b ≡ 2 * b
unfolding times_x
times_x_low b h = let e : b / 128 % 2 ≡ 0 = omega arith in ap (λ x. bit_xor (2 * b) (285 * x)) e ∙ xor_zero_r (2 * b)

-- a (x b) = x (a b)
multiply_x_low : (a b : ℕ) → b < 128 → multiply a (times_x b) ≡ times_x (multiply a b)
unfolding multiply times_bits
multiply_x_low a b h =
    let e : 2 * b % 2 ≡ 0 = omega arith in
    let d : 2 * b / 2 ≡ b = omega arith in
    ap (times_bits 8 a) (times_x_low b h)
    ∙ ap₂ (λ x y. bit_xor (a * x) (times_x (times_bits 7 a y))) e d
    ∙ ap (λ x. bit_xor x (times_x (times_bits 7 a b))) (mul-zero a)
    ∙ ap times_x (sym (bits_more 7 a b h))

-- x to the 8
multiply_x_top : (a : ℕ) → a < 256 → multiply a 29 ≡ times_x (multiply a 128)
unfolding multiply times_bits times_x
multiply_x_top a h =
    eqb-true _ _ (agree_below_at (λ k. nat_eq (multiply k 29) (times_x (multiply k 128))) (λ k. true) 256 a refl h)

times_x_128 : times_x 128 ≡ 29
unfolding times_x
times_x_128 = refl

multiply_x_high : (a b : ℕ) → a < 256 → b < 128 → multiply a (times_x (bit_xor 128 b)) ≡ times_x (multiply a (bit_xor 128 b))
multiply_x_high a b ha hb =
    ap (multiply a) (x_linear 128 b) ∙ multiply_linear a (times_x 128) (times_x b)
    ∙ ap₂ bit_xor (ap (multiply a) times_x_128 ∙ multiply_x_top a ha) (multiply_x_low a b hb)
    ∙ sym (x_linear (multiply a 128) (multiply a b)) ∙ ap times_x (sym (multiply_linear a 128 b))

pub multiply_x : (a b : ℕ) → a < 256 → b < 256 → multiply a (times_x b) ≡ times_x (multiply a b)
multiply_x a b ha hb = go (dec_lt b 128)
  where
    go : Dec (b < 128) → multiply a (times_x b) ≡ times_x (multiply a b)
    go (yes l) = multiply_x_low a b l
    go (no n) =
        let low : b - 128 < 128 = omega arith in
        let back : 1 * 128 + (b - 128) ≡ b = omega arith in
        let e : bit_xor 128 (b - 128) ≡ b = xor_shifted 1 7 (b - 128) low ∙ back in
        subst (λ (c : ℕ). multiply a (times_x c) ≡ times_x (multiply a c)) e (multiply_x_high a (b - 128) ha low)

-- ---- powers of x

x_times_below : (n a : ℕ) → a < 256 → x_times n a < 256
unfolding x_times
x_times_below zero a h = h
x_times_below (suc n) a h = x_below (x_times n a) (x_times_below n a h)

x_times_add : (m n a : ℕ) → x_times (m + n) a ≡ x_times m (x_times n a)
unfolding x_times
x_times_add zero n a = ap (λ k. x_times k a) (zero-add n)
x_times_add (suc m) n a = ap (λ k. x_times k a) (suc-add m n) ∙ ap times_x (x_times_add m n a)

pub x_to_below : (n : ℕ) → x_to n < 256
x_to_below n = x_times_below n 1 (lit< tt)

pub multiply_one : (a : ℕ) → a < 256 → multiply a 1 ≡ a
unfolding multiply times_bits times_x
multiply_one a h = eqb-true _ _ (agree_below_at (λ k. nat_eq (multiply k 1) k) (λ k. true) 256 a refl h)

multiply_x_to : (a n : ℕ) → a < 256 → multiply a (x_to n) ≡ x_times n a
unfolding x_times
multiply_x_to a zero h = multiply_one a h
multiply_x_to a (suc n) h = multiply_x a (x_to n) h (x_to_below n) ∙ ap times_x (multiply_x_to a n h)

pub multiply_powers : (i j : ℕ) → multiply (x_to i) (x_to j) ≡ x_to (j + i)
multiply_powers i j = multiply_x_to (x_to i) j (x_to_below i) ∙ sym (x_times_add j i 1)

x_to_255 : x_to 255 ≡ 1
unfolding x_times times_x
x_to_255 = refl

x_to_more : (n : ℕ) → x_to (n + 255) ≡ x_to n
x_to_more n = x_times_add n 255 1 ∙ ap (x_times n) x_to_255

-- exponents count modulo 255
pub x_to_period : (n q : ℕ) → x_to (n + q * 255) ≡ x_to n
x_to_period n zero = ap x_to (ap (λ k. n + k) (zero-mul 255) ∙ add-zero n)
x_to_period n (suc q) =
    let e : n + suc q * 255 ≡ n + q * 255 + 255 = omega arith in
    ap x_to e ∙ x_to_more (n + q * 255) ∙ x_to_period n q
