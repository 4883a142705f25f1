use Rattle.std.proofs.Common.{refl}
use Rattle.worked.proofs.Rows.{table_holds}
use Rattle.worked.proofs.examples_hold.Goals as goal

pub returns : goal.returns
returns c = record { number = refl; hold = table_holds }
