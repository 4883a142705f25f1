use Rattle.std.proofs.Common.{◌≡◌, ◌^◌, ◌<◌, drop}
use Rattle.lines.specs.Numbers.{all_digits, value_after}
use Rattle.lines.proofs.numbers.value_of.Given as goal

-- the bytes before a place are digits, and this is what they are worth
abbrev pub invariant-loop-b : goal.invariant-loop-b
invariant-loop-b l =
    (all_digits (drop l.b-index l.item) ≡ all_digits l.item) × (value_after l.value (drop l.b-index l.item) ≡ value_after 0 l.item) × (l.value < 10 ^ l.b-index)
