use Rattle.std.proofs.Common.{◌≡◌, ◌^◌}
use Rattle.code.specs.Code.{laid}
use Rattle.shape.specs.Listing.{outages}
use Rattle.shape.specs.Outages.{among}
use Rattle.vault_calls.specs.Steps.{written_below, StaysLent}
use Rattle.vault_calls.proofs.fitted.Fitted.write_listed.Given as goal

abbrev pub invariant-loop-i : goal.invariant-loop-i
invariant-loop-i g l =
    (g.R.Rack.model l.self.rack.now ≡ written_below (g.R.Rack.model l.initial.self.rack.now) (among (outages l.list)) (laid (l.initial.self.shape.q ^ l.initial.self.shape.t) l.space) l.i)
    × StaysLent g.R.Rack.kept l.initial.self.shape l.initial.self.rack l.self.shape l.self.rack
