use Rattle.std.proofs.Common.{rules}
use Rattle.console.proofs.Opening.{table_wants}
use Rattle.console.proofs.session.open.Goals as goal

pub returns-in_err-rack : goal.returns-in_err-rack
returns-in_err-rack g c =
    let wants = table_wants c.in_ok-shape.shape c.nodes.ensures c.places.ensures c.in_err-rack.ensures in search rules
