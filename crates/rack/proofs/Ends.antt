-- When the words of a list fill a node. Assumes nothing.
use Rattle.std.proofs.Common.{◌≡◌, ℕ, ◌<◌, List, length, get_or, arith}
use Rattle.std.proofs.lemmas.Grind.{common_steps}
use Rattle.rack.specs.Model.{Model}
use Rattle.rack.specs.Filled.{filled, after_fill}

-- filled from a list that has the words f
pub filled_by : (m : Model) (i : ℕ) (ws : List ℕ) (f : ℕ → ℕ) → i < m.nodes → length ws ≡ m.places → ((p : ℕ) → p < m.places → get_or ws p 0 ≡ f p) → after_fill m i ws ≡ filled m i f
filled_by m i ws f hi long each = grind (arith, common_steps)
