use Rattle.std.proofs.Common.{rules}
use Rattle.std.proofs.iter.runs.Made.{chains}
use Rattle.code.proofs.Codes.{codes_told}
use Rattle.code.proofs.checking.all_codes.Goals as goal

pub returns : goal.returns
returns g c = codes_told g.F.Field.arith c.args.words.now c.all.result (search (rules, chains))
