use Rattle.std.proofs.Common.{string_bytes}
use Rattle.lines.proofs.Spaced.{Printed}
use Rattle.lines.proofs.printing.print_ok.Given as goal

abbrev pub invariant-loop-word : goal.invariant-loop-word
invariant-loop-word l = Printed (string_bytes l.initial.text) (string_bytes l.text) l.words l.word-index
