-- The rule of each table of the byte field, computed at every entry. Assumes nothing.
use Rattle.std.specs.Prelude.{◌≡◌, ℕ, zero, suc, ◌<◌, true, ◌==◌, nat_lt, slice_index, refl}
use Rattle.std.proofs.Common.{arith}
use Rattle.std.proofs.lemmas.Bool.{agree_below_at, eqb-true, ltb-true}
use Rattle.field.specs.declared.exponents.TheConstants.{EXPONENTS}
use Rattle.field.specs.declared.powers.TheConstants.{POWERS}
use Rattle.field.specs.ByteField.{times_x, x_times, x_to}

-- entry k is x to the k
pub power_at : (k : ℕ) → k < 255 → slice_index POWERS k ≡ x_to k
unfolding x_times times_x
power_at k h = eqb-true _ _ (agree_below_at (λ i. slice_index POWERS i == x_to i) (λ i. true) 255 k refl h)

-- entry k is below 255
pub exponent_below : (k : ℕ) → k < 256 → slice_index EXPONENTS k < 255
exponent_below k h = ltb-true _ _ (agree_below_at (λ i. nat_lt (slice_index EXPONENTS i) 255) (λ i. true) 256 k refl h)

-- x to entry k is k, unless k is 0
pub exponent_at : (k : ℕ) → 0 < k → k < 256 → x_to (slice_index EXPONENTS k) ≡ k
unfolding x_times times_x
exponent_at zero p h = absurd (omega arith)
exponent_at (suc k) p h =
    eqb-true _ _ (agree_below_at (λ i. x_to (slice_index EXPONENTS (suc i)) == suc i) (λ i. true) 255 k refl (omega arith))
