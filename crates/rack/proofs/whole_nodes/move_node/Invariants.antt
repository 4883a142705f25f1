use Rattle.std.proofs.Common.{◌≡◌}
use Rattle.rack.specs.Filled.{with_words, with_draws}
use Rattle.rack.proofs.whole_nodes.move_node.Given as goal

abbrev pub invariant-loop-place : goal.invariant-loop-place
invariant-loop-place g l =
    let a = g.A.Rack in
    let b = g.B.Rack in
    record {
      source_stays : a.kept l.initial.from l.from;
      sink_stays : b.kept l.initial.to l.to;
      drawn : a.model l.from ≡ with_draws (a.model l.initial.from) l.node l.place;
      written : b.model l.to ≡ with_words (b.model l.initial.to) l.target ((a.model l.initial.from).words l.node) l.place;
    }
