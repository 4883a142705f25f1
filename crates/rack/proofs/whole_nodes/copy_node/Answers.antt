use Rattle.std.proofs.Common.{sym, ◌∙◌, arith, rules}
use Rattle.std.proofs.lemmas.List.FromFn.{fill_by_all}
use Rattle.std.proofs.lemmas.List.Edits.{fill_by_more}
use Rattle.rack.proofs.Steps.{draws_more, draws_word}
use Rattle.rack.proofs.whole_nodes.copy_node.Goals as goal

pub loop-place-preserved : goal.loop-place-preserved
loop-place-preserved g c =
    let m = g.R.Rack.model c.args.rack.now in
    let inv = c.loop-place.invariant in
    let was = sym c.in_ok-word.was ∙ c.get.ensures.answer in
    record {
      stays = g.met.R.Rack.keeping.joined _ _ _ inv.stays c.get.ensures.stays;
      drawn = draws_more m c.args.node _ _ inv.drawn _ _ was _ c.get.ensures.after;
      words = rw (draws_word m c.args.node _ _ inv.drawn _ _ was) (fill_by_more (m.words c.args.node) c.loop-place.out c.loop-place.place 0 (omega arith) inv.words);
    }

pub returns-clause-words : goal.returns-clause-words
returns-clause-words g c =
    let m = g.R.Rack.model c.args.rack.now in
    let all = fill_by_all (m.words c.args.node) c.loop-place.out m.places 0 (omega (arith, c.places.ensures)) (λ q h. c.loop-place.invariant.words q (omega (arith, c.places.ensures))) in
    search (rules, all)
