use Rattle.shape.specs.Listing.{outages}
use Rattle.shape.specs.Outages.{among}
use Rattle.code.specs.Arrays.{Stays, symbols_in}
use Rattle.code.specs.Steps.{ScoreTurned}
use Rattle.code.proofs.array.ArrayMut.turn_score.Given as goal

abbrev pub invariant-loop-node : goal.invariant-loop-node
invariant-loop-node g l = record {
  turned : ScoreTurned g.F.Field.arith l.initial.self.shape.q l.initial.self.shape.t (among (outages l.out)) l.level l.node (symbols_in g.F.Field.arith l.initial.self) (symbols_in g.F.Field.arith l.self);
  stays : Stays g.F.Field.arith l.initial.self l.self;
}
