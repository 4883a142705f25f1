use Rattle.std.proofs.Common.{rules}
use Rattle.lines.proofs.Spaced.{no_printed}
use Rattle.lines.proofs.printing.print_no.Goals as goal

pub returns : goal.returns
returns c = search (rules, no_printed)
