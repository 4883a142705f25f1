use Rattle.std.proofs.Common.{◌≡◌, ◌≤◌, length, drop}
use Rattle.shape.specs.Listing.{outages}
use Rattle.code.specs.Arrays.{Stays, symbols_in}
use Rattle.code.specs.Solving.{reads}
use Rattle.code.proofs.PlaneSolution.{WrittenTo}
use Rattle.code.proofs.array.ArrayMut.solve_plane.Given as goal

abbrev pub invariant-loop-node : goal.invariant-loop-node
invariant-loop-node g l = record {
  written : WrittenTo l.initial.self.shape.q l.initial.self.shape.t (outages l.out) l.place (reads g.F.Field.arith l.initial.node-iterator.b.rest.now) (length l.yielded) (symbols_in g.F.Field.arith l.initial.self) (symbols_in g.F.Field.arith l.self);
  stays : Stays g.F.Field.arith l.initial.self l.self;
  within : length l.yielded ≤ length (outages l.out);
  nodes : l.node-iterator.a.rest.now ≡ drop (length l.yielded) (outages l.out);
  words : l.node-iterator.b.rest.now ≡ drop (length l.yielded) l.initial.node-iterator.b.rest.now;
}
