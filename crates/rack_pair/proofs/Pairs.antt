-- What stands where, of one function after another. Assumes nothing.
use Rattle.std.proofs.Common.{◌≡◌, ℕ, ◌+◌, ◌-◌, ◌<◌, arith}
use Rattle.std.proofs.lemmas.Grind.{common_steps}
use Rattle.rack_pair.specs.Pair.{followed}

module _ {X : Type 0} (n : ℕ) (f g : ℕ → X) where
  pub front_is : (k : ℕ) → k < n → followed n f g k ≡ f k
  front_is k h = grind (arith, common_steps)

  pub back_at : (k : ℕ) → followed n f g (n + k) ≡ g k
  back_at k = let e : n + k - n ≡ k = omega arith in grind (arith, common_steps)
