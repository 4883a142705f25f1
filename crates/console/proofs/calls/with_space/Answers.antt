use Rattle.std.proofs.Common.{refl, rules}
use Rattle.console.proofs.calls.with_space.Goals as goal

pub returns-clause-made : goal.returns-clause-made
returns-clause-made g c = (
  c.as_mut_slice.result.now,
  c.make-answer.result,
  search rules,
  record { shown = _; shows = refl; lent = c.as_mut_slice.result; lends = refl; left = _; back = _; met = c.make-answer.ensures; leaves = refl },
  c.plain.ensures.0,
  c.plain.ensures.1,
)
