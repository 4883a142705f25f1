-- What a read into a vector's own words leaves there. Assumes nothing.
use Rattle.std.proofs.Common.{◌≡◌, ℕ, List, ◌++◌, length, take, Result, sym, subst}
use Rattle.rack.specs.Model.{Model}
use Rattle.refusal.specs.declared.reason.Refusal.{Refusal}
use Rattle.std.proofs.lemmas.List.{take_at}
use Rattle.vault_calls.specs.Calls.{Read}
use Rattle.vault_calls.specs.declared.answer.Answer.{Answer}

-- the words after it are the buffer's, as many as the vector has
pub read_made : (q t : ℕ) (m m' : Model) (r : Result Answer Refusal) (from start count n : ℕ) (before after rest : List ℕ) → Read q t m from before r m' after → from ≡ start → length before ≡ count → length after ≡ n
    → (buffer : List ℕ) × ((length buffer ≡ count) × Read q t m start buffer r m' (take n (after ++ rest)))
read_made q t m m' r from start count n before after rest h e l k = (
  before,
  (l, subst (λ s. Read q t m s before r m' (take n (after ++ rest))) e (subst (λ ws. Read q t m from before r m' ws) (sym (take_at after rest n k)) h)),
)
