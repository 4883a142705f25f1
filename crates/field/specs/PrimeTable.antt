-- The rule of the table of inverses modulo 257, computed at every entry. Assumes nothing.
use Rattle.std.specs.Prelude.{◌≡◌, ℕ, zero, suc, ◌*◌, ◌%◌, ◌<◌, true, ◌==◌, slice_index, refl}
use Rattle.std.proofs.Common.{arith}
use Rattle.std.proofs.lemmas.Bool.{agree_below_at, eqb-true}
use Rattle.field.specs.declared.inverses.TheConstants.{INVERSES}
use Rattle.field.specs.PrimeField.{power}

-- entry k is k to the 255
pub inverse_at : (k : ℕ) → k < 257 → slice_index INVERSES k ≡ power 255 k
unfolding power
inverse_at k h = eqb-true _ _ (agree_below_at (λ i. slice_index INVERSES i == power 255 i) (λ i. true) 257 k refl h)

-- k times k to the 255 is 1, unless k is 0
pub times_inverse : (k : ℕ) → 0 < k → k < 257 → k * power 255 k % 257 ≡ 1
unfolding power
times_inverse zero p h = absurd (omega arith)
times_inverse (suc k) p h =
    eqb-true _ _ (agree_below_at (λ i. suc i * power 255 (suc i) % 257 == 1) (λ i. true) 256 k refl (omega arith))
