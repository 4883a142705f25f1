use Rattle.std.proofs.Common.{length}
use Rattle.shape.specs.Listing.{outages}
use Rattle.shape.specs.Outages.{among}
use Rattle.code.specs.Arrays.{Stays, symbols_in}
use Rattle.code.proofs.Filled.{FilledTo}
use Rattle.code.proofs.array.ArrayMut.fill.Given as goal

abbrev pub invariant-loop-level : goal.invariant-loop-level
invariant-loop-level g l = record {
  filled : FilledTo g.F.Field.arith l.initial.self.shape.q l.initial.self.shape.t (among (outages l.out)) (length (outages l.out)) l.level (symbols_in g.F.Field.arith l.initial.self) (symbols_in g.F.Field.arith l.self);
  stays : Stays g.F.Field.arith l.initial.self l.self;
}
