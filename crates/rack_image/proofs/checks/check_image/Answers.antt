use Rattle.std.proofs.Common.{arith}
use Rattle.std.proofs.lemmas.Grind.{common_steps}
use Rattle.rack_image.proofs.Encoding.{accepted}
use Rattle.rack_image.proofs.checks.check_image.Goals as goal

pub returns-clause-accepts : goal.returns-clause-accepts
returns-clause-accepts c = λ m en ew fit ws eb.
    let e = accepted m _ _ _ en ew fit ws eb c.examine.result c.examine.ensures in
    grind (arith, common_steps, e, c.map_err.ensures.cases)
