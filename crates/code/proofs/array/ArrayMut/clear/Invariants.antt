use Rattle.std.proofs.Common.{◌^◌}
use Rattle.shape.specs.Listing.{outages}
use Rattle.shape.specs.Outages.{among}
use Rattle.code.specs.Arrays.{Stays, words_in}
use Rattle.code.specs.Steps.{Cleared}
use Rattle.code.proofs.array.ArrayMut.clear.Given as goal

abbrev pub invariant-loop-node : goal.invariant-loop-node
invariant-loop-node g l = record {
  cleared : Cleared (l.initial.self.shape.q ^ l.initial.self.shape.t) (among (outages l.out)) l.node (words_in l.initial.self) (words_in l.self);
  stays : Stays g.F.Field.arith l.initial.self l.self;
}
