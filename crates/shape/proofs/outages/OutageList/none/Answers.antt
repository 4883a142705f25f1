use Rattle.std.proofs.Common.{arith}
use Rattle.shape.proofs.Rising.{rising_none}
use Rattle.shape.proofs.outages.OutageList.none.Goals as goal

pub invariant_of-result : goal.invariant_of-result
invariant_of-result c = record { few = omega arith; held = omega arith; rises = rising_none c.nodes.result }
