-- A call that is made on a vault with a work space. Assumes nothing.
use Rattle.std.specs.Prelude.{◌≡◌, ℕ, List, Result}
use Rattle.std.specs.Borrow.{MutBor}
use Rattle.std.specs.Fn.{Once}
use Rattle.refusal.specs.declared.reason.Refusal.{Refusal}
use Rattle.vault_calls.specs.declared.answer.Answer.{Answer}

-- a call on v, with a work space, may answer r and leave v'
pub record Makes {C V : Type 0} (g : Once C (MutBor V × (MutBor (List ℕ) × Unit {0})) (Result Answer Refusal × (MutBor V × (MutBor (List ℕ) × Unit {0})))) (make : C) (v : V) (space : List ℕ) (r : Result Answer Refusal) (v' : V) : Type 0 where
  pub shown : MutBor V
  pub shows : shown.now ≡ v
  pub lent : MutBor (List ℕ)
  pub lends : lent.now ≡ space
  pub left : MutBor V
  pub back : MutBor (List ℕ)
  pub met : g.post make (shown, (lent, tt)) (r, (left, (back, tt)))
  pub leaves : left.now ≡ v'
