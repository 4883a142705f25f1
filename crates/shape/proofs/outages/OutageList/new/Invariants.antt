use Rattle.std.proofs.Common.{◌≡◌, take}
use Rattle.shape.specs.Listing.{outages}
use Rattle.shape.proofs.outages.OutageList.new.Given as goal

abbrev pub invariant-loop-node : goal.invariant-loop-node
invariant-loop-node l = (l.list.count ≡ l.initial.list.count) × (outages l.list ≡ take l.node-index l.nodes)
