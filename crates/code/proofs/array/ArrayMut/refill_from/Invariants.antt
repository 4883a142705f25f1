use Rattle.std.proofs.Common.{◌≡◌, ◌≤◌, length, drop}
use Rattle.shape.specs.Listing.{outages}
use Rattle.shape.specs.Outages.{among}
use Rattle.code.specs.Arrays.{Stays}
use Rattle.code.specs.Steps.{PlaneRefilled}
use Rattle.code.proofs.array.ArrayMut.refill_from.Given as goal

abbrev pub invariant-loop-helper : goal.invariant-loop-helper
invariant-loop-helper g l = record {
  refilled : PlaneRefilled g.F.Field.arith l.initial.self.shape.q l.initial.self.shape.t (among (outages l.column)) l.node l.plane (length l.yielded) l.initial.self.words.now l.self.words.now;
  stays : Stays g.F.Field.arith l.initial.self l.self;
  within : length l.yielded ≤ length (outages l.column);
  nodes : l.helper-iterator.a.rest.now ≡ drop (length l.yielded) (outages l.column);
  words : l.helper-iterator.b.rest.now ≡ drop (length l.yielded) l.initial.helper-iterator.b.rest.now;
}
