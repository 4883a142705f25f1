use Rattle.std.proofs.Common.{◌≡◌, ℕ, ◌<◌}
use Rattle.rack_image.specs.Image.{wrong_at}
use Rattle.rack_image.proofs.checks.examine.Given as goal

abbrev pub invariant-loop-at : goal.invariant-loop-at
invariant-loop-at l = (b : ℕ) → b < l.at → wrong_at l.places l.bytes b ≡ 0
