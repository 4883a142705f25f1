use Rattle.std.proofs.Common.{◌≡◌, ℕ, ◌^◌, Bool, ◌&&◌, ltb}
use Rattle.shape.specs.Outages.{count}
use Rattle.vault_calls.specs.Steps.{drawn_below, Gathered, StaysLent, Decides}
use Rattle.vault_calls.proofs.fitted.Fitted.draw.Given as goal

abbrev pub invariant-loop-i : goal.invariant-loop-i
invariant-loop-i g l =
    let m0 = g.R.Rack.model l.initial.self.rack.now in
    let P : ℕ = l.initial.self.shape.q ^ l.initial.self.shape.t in
    let Told : (ℕ → Bool) → Type 0 = λ takes. Decides (goal.P-pre g l.selects) (goal.P-post g l.selects) P takes in
    record {
      drawn : (takes : ℕ → Bool) → Told takes → g.R.Rack.model l.self.rack.now ≡ drawn_below m0 l.i (count takes P);
      gathered : (takes : ℕ → Bool) → Told takes → Gathered P (λ j p. (ltb j l.i && m0.flags j) && takes p) m0.words l.initial.space l.space;
      stays : StaysLent g.R.Rack.kept l.initial.self.shape l.initial.self.rack l.self.shape l.self.rack;
    }
