use Rattle.std.proofs.Common.{◌≡◌, ℕ, ◌+◌, ◌/◌, ◌<◌, true}
use Rattle.vault_calls.proofs.fitted.Fitted.all_stand.Given as goal

abbrev pub invariant-loop-j : goal.invariant-loop-j
invariant-loop-j g l = (k : ℕ) → k < l.j → (g.R.Rack.model l.self.rack.now).flags ((l.start + k) / l.places) ≡ true
