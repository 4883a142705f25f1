use Rattle.std.proofs.Common.{◌≡◌, ℕ, ◌+◌, ◌/◌, ◌%◌, ◌<◌, get_or}
use Rattle.vault_calls.specs.Steps.{read_drawn, StaysLent}
use Rattle.vault_calls.proofs.fitted.Fitted.read_words.Given as goal

abbrev pub invariant-loop-j : goal.invariant-loop-j
invariant-loop-j g l =
    (g.R.Rack.model l.self.rack.now ≡ read_drawn (g.R.Rack.model l.initial.self.rack.now) l.start l.places l.j)
    × ((k : ℕ) → k < l.j → get_or l.buffer k 0 ≡ (g.R.Rack.model l.initial.self.rack.now).words ((l.start + k) / l.places) ((l.start + k) % l.places))
    × StaysLent g.R.Rack.kept l.initial.self.shape l.initial.self.rack l.self.shape l.self.rack
