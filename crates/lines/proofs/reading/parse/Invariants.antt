use Rattle.std.proofs.Common.{suc, length, drop, vec_items}
use Rattle.lines.specs.Items.{items}
use Rattle.lines.specs.Numbers.{numbers_in}
use Rattle.lines.proofs.Gathered.{Gathered}
use Rattle.lines.proofs.reading.parse.Given as goal

abbrev pub invariant-loop-item : goal.invariant-loop-item
invariant-loop-item l =
    goal.iterator-loop-item.can_next l.item-iterator × goal.iterator-loop-item.is_finite l.item-iterator
    × Gathered (numbers_in (drop 1 (items l.line))) (vec_items l.found) (drop (suc (length l.yielded)) (items l.line))
