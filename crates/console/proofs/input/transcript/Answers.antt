use Rattle.std.proofs.Common.{ℕ, List, IfOk, string_bytes, subst}
use Rattle.console.specs.Session.{State, closed}
use Rattle.console.specs.Transcript.{Transcribed, lines_of}
use Rattle.console.proofs.Continuing.{counted}
use Rattle.console.proofs.input.transcript.Goals as goal

pub returns : goal.returns
returns c =
    let For : List ℕ → Type 0 = λ text. IfOk c.answers.result (λ s. (final : State) × Transcribed closed (lines_of text) (string_bytes s) final) in
    subst For (counted c.args.input.now c.min.result 65536 c.min.ensures) c.answers.ensures
