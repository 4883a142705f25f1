use Rattle.shape.specs.Listing.{outages}
use Rattle.shape.specs.Outages.{among}
use Rattle.code.specs.Arrays.{Stays, symbols_in}
use Rattle.code.specs.Steps.{ScoreSolved}
use Rattle.code.proofs.array.ArrayMut.solve_score.Given as goal

abbrev pub invariant-loop-place : goal.invariant-loop-place
invariant-loop-place g l = record {
  solved : ScoreSolved g.F.Field.arith l.initial.self.shape.q l.initial.self.shape.t (among (outages l.out)) l.level l.place (symbols_in g.F.Field.arith l.initial.self) (symbols_in g.F.Field.arith l.self);
  stays : Stays g.F.Field.arith l.initial.self l.self;
}
