-- The points of a field whose codes go from 0 to 15 and on. Assumes nothing.
use Rattle.std.specs.Prelude.{◌≡◌, ℕ, ◌<◌, ◌≤◌, refl}
use Rattle.std.proofs.Common.{sym, ap, ◌∙◌}
use Rattle.std.proofs.lemmas.Bool.{cond_above, cond_below}
use Rattle.field.specs.Field.{point_of}

module _ {E : Type 0} (of : ℕ → E) where
  pub point_low : (i : ℕ) → i < 16 → point_of of i ≡ of i
  point_low i h = sym (cond_below i 16 (of i) (of 0) h)

  pub point_high : (i : ℕ) → 16 ≤ i → point_of of i ≡ of 0
  point_high i h = sym (cond_above i 16 (of i) (of 0) (of 0) h refl)

  pub point_apart : (code : E → ℕ) → ((n : ℕ) → n < 16 → code (of n) ≡ n) → (i j : ℕ) → i < 16 → j < 16 → point_of of i ≡ point_of of j → i ≡ j
  point_apart code codes i j hi hj e = sym (codes i hi) ∙ ap code (sym (point_low i hi) ∙ e ∙ point_low j hj) ∙ codes j hj
