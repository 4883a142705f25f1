-- The laws of the byte field, over codes. Assumes nothing.
use Rattle.std.specs.Prelude.{◌≡◌, ℕ, zero, suc, ◌+◌, ◌-◌, ◌*◌, ◌/◌, ◌%◌, ◌<◌, ◌≤◌, ◌⊎◌, bit_xor, cond, true, ◌==◌, refl}
use Rattle.std.proofs.Common.{sym, ap, ap₂, ◌∙◌, subst, inl, inr, add_comm, add_assoc, zero-mul, mul-zero, suc-mul, arith}
use Rattle.std.proofs.lemmas.Bool.{agree_below_at, eqb-true}
use Rattle.field.specs.ByteField.{times_x, times_bits, multiply, power, x_times, x_to}
use Rattle.field.specs.Poly.{multiply_powers, x_to_period}

-- how often x is multiplied to v until that is a: at most n times
unfoldable times_until : ℕ → ℕ → ℕ → ℕ
times_until zero a v = 0
times_until (suc n) a v = cond (v == a) 0 (suc (times_until n a (times_x v)))

-- the exponent of a code other than 0
abbrev log : ℕ → ℕ
log a = times_until 255 a 1

log_at : (a : ℕ) → 0 < a → a < 256 → x_to (log a) ≡ a
unfolding x_times times_x times_until
log_at zero p h = absurd (omega arith)
log_at (suc a) p h = eqb-true _ _ (agree_below_at (λ i. x_to (log (suc i)) == suc i) (λ i. true) 255 a refl (omega arith))

-- a code is zero or a power of x
pub Shape : ℕ → Type 0
Shape a = (a ≡ 0) ⊎ ((i : ℕ) × (x_to i ≡ a))

pub shape : (a : ℕ) → a < 256 → Shape a
unfolding Shape
shape zero h = inl refl
shape (suc a) h = inr (log (suc a), log_at (suc a) (omega arith) h)

bits_zero_l : (n b : ℕ) → times_bits n 0 b ≡ 0
unfolding times_bits times_x
bits_zero_l zero b = refl
bits_zero_l (suc n) b =
    ap₂ bit_xor (zero-mul (b % 2)) (ap times_x (bits_zero_l n (b / 2)))

pub zero_multiply : (b : ℕ) → multiply 0 b ≡ 0
unfolding multiply
zero_multiply b = bits_zero_l 8 b

bits_zero_r : (n a : ℕ) → times_bits n a 0 ≡ 0
unfolding times_bits times_x
bits_zero_r zero a = refl
bits_zero_r (suc n) a = ap₂ bit_xor (mul-zero a) (ap times_x (bits_zero_r n a))

pub multiply_zero : (a : ℕ) → multiply a 0 ≡ 0
unfolding multiply
multiply_zero a = bits_zero_r 8 a

comm_shaped : (a b : ℕ) → Shape a → Shape b → multiply a b ≡ multiply b a
unfolding Shape
comm_shaped a b (inl p) s = ap (λ x. multiply x b) p ∙ zero_multiply b ∙ sym (multiply_zero b) ∙ ap (multiply b) (sym p)
comm_shaped a b (inr i) (inl q) = ap (multiply a) q ∙ multiply_zero a ∙ sym (zero_multiply a) ∙ ap (λ x. multiply x a) (sym q)
comm_shaped a b (inr i) (inr j) =
    sym (ap₂ multiply i.1 j.1) ∙ multiply_powers i.0 j.0 ∙ ap x_to (add_comm j.0 i.0)
    ∙ sym (multiply_powers j.0 i.0) ∙ ap₂ multiply j.1 i.1

pub multiply_comm : (a b : ℕ) → a < 256 → b < 256 → multiply a b ≡ multiply b a
multiply_comm a b ha hb = comm_shaped a b (shape a ha) (shape b hb)

assoc_powers : (i j k : ℕ) → multiply (multiply (x_to i) (x_to j)) (x_to k) ≡ multiply (x_to i) (multiply (x_to j) (x_to k))
assoc_powers i j k =
    ap (λ x. multiply x (x_to k)) (multiply_powers i j) ∙ multiply_powers (j + i) k ∙ ap x_to (sym (add_assoc k j i))
    ∙ sym (multiply_powers i (k + j)) ∙ ap (multiply (x_to i)) (sym (multiply_powers j k))

assoc_shaped : (a b c : ℕ) → Shape a → Shape b → Shape c → multiply (multiply a b) c ≡ multiply a (multiply b c)
unfolding Shape
assoc_shaped a b c (inl p) s t =
    ap (λ x. multiply (multiply x b) c) p ∙ ap (λ x. multiply x c) (zero_multiply b) ∙ zero_multiply c
    ∙ sym (ap (λ x. multiply x (multiply b c)) p ∙ zero_multiply (multiply b c))
assoc_shaped a b c (inr i) (inl q) t =
    ap (λ x. multiply (multiply a x) c) q ∙ ap (λ x. multiply x c) (multiply_zero a) ∙ zero_multiply c
    ∙ sym (ap (λ x. multiply a (multiply x c)) q ∙ ap (multiply a) (zero_multiply c) ∙ multiply_zero a)
assoc_shaped a b c (inr i) (inr j) (inl r) =
    ap (multiply (multiply a b)) r ∙ multiply_zero (multiply a b)
    ∙ sym (ap (λ x. multiply a (multiply b x)) r ∙ ap (multiply a) (multiply_zero b) ∙ multiply_zero a)
assoc_shaped a b c (inr i) (inr j) (inr k) = rw (← i.1, ← j.1, ← k.1) (assoc_powers i.0 j.0 k.0)

pub multiply_assoc : (a b c : ℕ) → a < 256 → b < 256 → c < 256 → multiply (multiply a b) c ≡ multiply a (multiply b c)
multiply_assoc a b c ha hb hc = assoc_shaped a b c (shape a ha) (shape b hb) (shape c hc)

-- ---- inverses

pub power_of_power : (n i : ℕ) → power n (x_to i) ≡ x_to (n * i)
unfolding power x_times
power_of_power zero i = ap x_to (sym (zero-mul i))
power_of_power (suc n) i =
    ap (multiply (x_to i)) (power_of_power n i) ∙ multiply_powers i (n * i) ∙ ap x_to (sym (suc-mul n i))

inverse_of : (i : ℕ) → multiply (x_to i) (power 254 (x_to i)) ≡ 1
unfolding x_times
inverse_of i =
    let e : 254 * i + i ≡ 0 + i * 255 = omega arith in
    ap (multiply (x_to i)) (power_of_power 254 i) ∙ multiply_powers i (254 * i) ∙ ap x_to e ∙ x_to_period 0 i

pub multiply_inverse : (a : ℕ) → 0 < a → a < 256 → multiply a (power 254 a) ≡ 1
multiply_inverse a p h =
    subst (λ (c : ℕ). multiply c (power 254 c) ≡ 1) (log_at a p h) (inverse_of (log a))

-- the inverse of x to the i
pub inverse_power : (i : ℕ) → i < 255 → power 254 (x_to i) ≡ x_to (255 - i)
inverse_power i h =
    let e : 254 * i + 1 * 255 ≡ 255 - i + i * 255 = omega arith in
    power_of_power 254 i ∙ sym (x_to_period (254 * i) 1) ∙ ap x_to e ∙ x_to_period (255 - i) i

-- ---- the product and the inverse by exponents

pub by_exponents : (a b i j : ℕ) → x_to i ≡ a → x_to j ≡ b → x_to (i + j) ≡ multiply a b
by_exponents a b i j p q = ap x_to (add_comm i j) ∙ sym (multiply_powers i j) ∙ ap₂ multiply p q

pub by_exponents_less : (a b i j : ℕ) → 255 ≤ i + j → x_to i ≡ a → x_to j ≡ b → x_to (i + j - 255) ≡ multiply a b
by_exponents_less a b i j h p q =
    let e : i + j - 255 + 1 * 255 ≡ i + j = omega arith in
    sym (x_to_period (i + j - 255) 1) ∙ ap x_to e ∙ by_exponents a b i j p q

pub power_zero : power 254 0 ≡ 0
unfolding power multiply times_bits times_x
power_zero = refl

pub power_one : power 254 1 ≡ 1
unfolding power multiply times_bits times_x
power_one = refl
