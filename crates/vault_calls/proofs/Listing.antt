-- The list of the nodes that are out. Assumes nothing.
use Rattle.std.proofs.Common.{◌≡◌, ℕ, zero, suc, ◌<◌, Bool, false, cond, [], ◌∷◌, ◌++◌, refl, ap₂, arith}
use Rattle.std.proofs.lemmas.Bool.{cond-true, lt-ltb}
use Rattle.shape.specs.Outages.{listed}
use Rattle.rack.specs.Model.{Model, standing}

-- listing by tests that agree gives one list
pub listed_same : (g h : ℕ → Bool) (n : ℕ) → ((i : ℕ) → i < n → g i ≡ h i) → listed g n ≡ listed h n
unfolding listed
listed_same g h zero e = refl
listed_same g h (suc n) e = ap₂ (λ xs b. xs ++ cond b (n ∷ []) []) (listed_same g h n (λ i l. e i (omega arith))) (e n (omega arith))

-- a node that exists stands as its flag says
pub standing_flag : (m : Model) (i : ℕ) → i < m.nodes → standing m i ≡ m.flags i
standing_flag m i l = cond-true _ (m.flags i) false (lt-ltb i m.nodes l)
