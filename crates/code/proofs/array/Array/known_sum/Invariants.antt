use Rattle.std.proofs.Common.{◌≡◌, ◌^◌}
use Rattle.shape.specs.Listing.{outages}
use Rattle.shape.specs.Outages.{among}
use Rattle.code.specs.Code.{moment}
use Rattle.code.specs.Filling.{known}
use Rattle.code.specs.Reading.{symbols}
use Rattle.code.proofs.array.Array.known_sum.Given as goal

abbrev pub invariant-loop-node : goal.invariant-loop-node
invariant-loop-node g l =
    l.sum
    ≡ moment g.F.Field.arith g.F.Field.arith.point (known g.F.Field.arith l.self.shape.q (among (outages l.out)) (symbols g.F.Field.arith (l.self.shape.q ^ l.self.shape.t) l.self.words.now) l.place) l.node l.e
