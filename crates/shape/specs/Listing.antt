-- The list that an `OutageList` is. Assumes nothing.
use Rattle.std.specs.Prelude.{ℕ, List, take}
use Rattle.shape.specs.declared.outages.OutageList.{OutageList}

abbrev pub outages : OutageList → List ℕ
outages l = take l.len l.numbers
