-- What a write of one word to a table's list does to the rack that it stands for. Assumes nothing.
use Rattle.std.proofs.Common.{◌≡◌, ℕ, ◌+◌, ◌*◌, ◌<◌, List, length, set, refl, arith}
use Rattle.std.proofs.lemmas.Grind.{common_steps}
use Rattle.std.proofs.lemmas.Nat.{same_from_place, mul-add-lt}
use Rattle.rack.specs.Model.{with_word}
use Rattle.rack.specs.Table.{table}
use Rattle.rack.specs.declared.node.Node.{Node}
use Rattle.rack.proofs.Models.{same_model}

-- one word replaced
pub set_word : (n w : ℕ) (ns : List Node) (ws : List ℕ) (i p v : ℕ) → length ws ≡ n * w → i < n → p < w → table n w ns (set ws (i * w + p) v) ≡ with_word (table n w ns ws) i p v
set_word n w ns ws i p v full hi hp =
    same_model (table n w ns (set ws (i * w + p) v)) (with_word (table n w ns ws) i p v) refl refl (λ k. refl)
    (λ k q. grind (arith, common_steps, same_from_place k q i p w, mul-add-lt i w p n hi hp))
    (λ k. refl)
