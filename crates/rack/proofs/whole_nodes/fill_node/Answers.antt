use Rattle.std.proofs.Common.{arith}
use Rattle.rack.specs.Filled.{listed}
use Rattle.rack.proofs.Steps.{words_more}
use Rattle.rack.proofs.whole_nodes.fill_node.Goals as goal

pub loop-place-preserved : goal.loop-place-preserved
loop-place-preserved g c =
    let inv = c.loop-place.invariant in
    record {
      stays = g.met.R.Rack.keeping.joined _ _ _ inv.stays c.put.ensures.stays;
      written = words_more (g.R.Rack.model c.args.rack.now) _ _ (omega (arith, c.nodes.ensures)) (omega (arith, c.places.ensures)) (listed c.args.words.now) _ inv.written _ c.put.ensures.after;
    }

pub returns-clause-stays : goal.returns-clause-stays
returns-clause-stays g c = g.met.R.Rack.keeping.joined _ _ _ c.loop-place.invariant.stays c.raise.ensures.stays
