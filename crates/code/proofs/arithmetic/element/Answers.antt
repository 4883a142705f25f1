use Rattle.std.proofs.Common.{ap, ◌∙◌}
use Rattle.std.specs.Result.{result_unwrap_or}
use Rattle.code.proofs.Words.{read_or_zero}
use Rattle.code.proofs.arithmetic.element.Goals as goal

pub returns : goal.returns
returns g c = c.unwrap_or.ensures ∙ ap (result_unwrap_or c.element.result) c.zero.ensures ∙ read_or_zero g.F.Field.arith c.args.word c.element.result c.element.ensures
