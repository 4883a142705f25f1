use Rattle.std.proofs.Common.{◌≡◌, ℕ, ◌<◌, get_or}
use Rattle.rack.specs.Filled.{with_draws}
use Rattle.rack.proofs.whole_nodes.copy_node.Given as goal

abbrev pub invariant-loop-place : goal.invariant-loop-place
invariant-loop-place g l =
    let r = g.R.Rack in
    record {
      stays : r.kept l.initial.rack l.rack;
      drawn : r.model l.rack ≡ with_draws (r.model l.initial.rack) l.node l.place;
      words : (q : ℕ) → q < l.place → get_or l.out q 0 ≡ (r.model l.initial.rack).words l.node q;
    }
