use Rattle.std.proofs.Common.{◌≤◌, length, string_bytes}
use Rattle.console.specs.Session.{state_of}
use Rattle.console.proofs.Continuing.{Continues}
use Rattle.console.proofs.input.answers.Given as goal

abbrev pub invariant-loop-end : goal.invariant-loop-end
invariant-loop-end l = (length l.rest ≤ length l.text) × Continues l.text l.rest (string_bytes l.out) (state_of l.session)

abbrev pub decreases-loop-end : goal.decreases-loop-end
decreases-loop-end l = length l.rest
