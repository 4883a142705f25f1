use Rattle.std.proofs.Common.{◌≡◌, ℕ, ◌^◌, Bool}
use Rattle.rack.specs.Filled.{with_draws}
use Rattle.shape.specs.Outages.{count}
use Rattle.vault_calls.specs.Steps.{StaysLent, Decides}
use Rattle.vault_calls.proofs.Gathering.{Taken}
use Rattle.vault_calls.proofs.fitted.Fitted.draw_node.Given as goal

abbrev pub invariant-loop-place : goal.invariant-loop-place
invariant-loop-place g l =
    let m0 = g.R.Rack.model l.initial.self.rack.now in
    let Told : (ℕ → Bool) → Type 0 = λ takes. Decides (goal.P-pre g l.selects) (goal.P-post g l.selects) (l.initial.self.shape.q ^ l.initial.self.shape.t) takes in
    record {
      drawn : (takes : ℕ → Bool) → Told takes → g.R.Rack.model l.self.rack.now ≡ with_draws m0 l.node (count takes l.place);
      taken : (takes : ℕ → Bool) → Told takes → Taken takes (m0.words l.node) l.initial.words l.place l.words;
      stays : StaysLent g.R.Rack.kept l.initial.self.shape l.initial.self.rack l.self.shape l.self.rack;
    }
