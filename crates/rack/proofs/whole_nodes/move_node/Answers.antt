use Rattle.std.proofs.Common.{◌<◌, sym, ◌∙◌, arith}
use Rattle.rack.proofs.Steps.{words_more, draws_more, draws_word}
use Rattle.rack.proofs.whole_nodes.move_node.Goals as goal

pub loop-place-preserved : goal.loop-place-preserved
loop-place-preserved g c =
    let a = g.A.Rack.model c.args.from.now in
    let b = g.B.Rack.model c.args.to.now in
    let i = c.args.node in
    let j = c.args.target in
    let p = c.loop-place.place in
    let inv = c.loop-place.invariant in
    let was = sym c.in_ok-get.was ∙ c.get.ensures.answer in
    let hj : j < b.nodes = omega (arith, c.nodes-else-node-nodes.ensures) in
    let hp : p < b.places = omega (arith, c.places.ensures) in
    record {
      source_stays = g.met.A.Rack.keeping.joined _ _ _ inv.source_stays c.get.ensures.stays;
      sink_stays = g.met.B.Rack.keeping.joined _ _ _ inv.sink_stays c.put.ensures.stays;
      drawn = draws_more a i p _ inv.drawn p _ was _ c.get.ensures.after;
      written = words_more b j p hj hp (a.words i) _ inv.written _ (rw (draws_word a i p _ inv.drawn p _ was) at c.put.ensures.after);
    }

pub returns-clause-stays : goal.returns-clause-stays
returns-clause-stays g c =
    let inv = c.loop-place.invariant in
    (g.met.A.Rack.keeping.joined _ _ _ inv.source_stays c.take_out.ensures.stays, g.met.B.Rack.keeping.joined _ _ _ inv.sink_stays c.raise.ensures.stays)
