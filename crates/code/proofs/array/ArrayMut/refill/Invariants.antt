use Rattle.std.proofs.Common.{◌<◌}
use Rattle.shape.specs.Layout.{companion_place}
use Rattle.shape.specs.Listing.{outages}
use Rattle.shape.specs.Outages.{among}
use Rattle.code.specs.Arrays.{Stays}
use Rattle.code.specs.Steps.{RefilledWhere}
use Rattle.code.proofs.array.ArrayMut.refill.Given as goal

abbrev pub invariant-loop-plane : goal.invariant-loop-plane
invariant-loop-plane g l = record {
  filled : RefilledWhere g.F.Field.arith l.initial.self.shape.q l.initial.self.shape.t (among (outages l.column)) l.node (λ p. companion_place l.initial.self.shape.q l.node p < l.plane) l.initial.self.words.now l.self.words.now;
  stays : Stays g.F.Field.arith l.initial.self l.self;
}
