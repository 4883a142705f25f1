use Rattle.std.proofs.Common.{◌≡◌, ℕ, Bool, ◌<◌, true}
use Rattle.shape.specs.Listing.{outages}
use Rattle.shape.specs.Outages.{rising, listed}
use Rattle.shape.proofs.outages.OutageList.filtered.Given as goal

abbrev pub invariant-loop-node : goal.invariant-loop-node
invariant-loop-node g l = record {
  count : l.list.count ≡ l.initial.list.count;
  below : rising l.node (outages l.list) ≡ true;
  list : (test : ℕ → Bool) → ((i : ℕ) (b : Bool) → i < l.node → goal.P-post g l.out i b → b ≡ test i) → outages l.list ≡ listed test l.node;
}
