use Rattle.std.proofs.Common.{rules}
use Rattle.code.specs.Code.{uncoupled}
use Rattle.code.proofs.array.Array.uncoupled_symbol.Goals as goal

pub returns : goal.returns
unfolding uncoupled
returns g c = search rules
