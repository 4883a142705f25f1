use Rattle.std.proofs.Common.{◌≡◌}
use Rattle.rack.specs.Filled.{with_words, listed}
use Rattle.rack.proofs.whole_nodes.fill_node.Given as goal

abbrev pub invariant-loop-place : goal.invariant-loop-place
invariant-loop-place g l =
    let r = g.R.Rack in
    record {
      stays : r.kept l.initial.rack l.rack;
      written : r.model l.rack ≡ with_words (r.model l.initial.rack) l.node (listed l.words) l.place;
    }
