use Rattle.std.proofs.Common.{◌≡◌, ℕ, ◌^◌, ◌<◌, get_or}
use Rattle.shape.specs.Listing.{outages}
use Rattle.shape.specs.Outages.{among}
use Rattle.code.specs.Reading.{symbols}
use Rattle.code.specs.Steps.{lacks}
use Rattle.code.proofs.array.Array.plane_sides.Given as goal

abbrev pub invariant-loop-e : goal.invariant-loop-e
invariant-loop-e g l =
    (e : ℕ) → e < l.e → get_or l.side-items e 0 ≡ g.F.Field.arith.code (lacks g.F.Field.arith l.self.shape.q l.self.shape.t (among (outages l.out)) (symbols g.F.Field.arith (l.self.shape.q ^ l.self.shape.t) l.self.words.now) l.place e)
