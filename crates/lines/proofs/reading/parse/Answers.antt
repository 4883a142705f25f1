use Rattle.std.proofs.Common.{◌==◌, vec_items, sym, ◌∙◌, rules, tests}
use Rattle.std.proofs.lemmas.Iterator.Splits.{YieldsList-from_slice_split}
use Rattle.lines.proofs.Gathered.{turn_other, turn_next, turn_last}
use Rattle.lines.proofs.reading.parse.Goals as goal

pub returns-in_default : goal.returns-in_default
returns-in_default c =
    turn_other c.next.ensures.steps c.args.line.now
    (YieldsList-from_slice_split _ (λ b. b == 32) c.args.line.now c.split-items.ensures.rest c.split-items.ensures.done c.split-items.ensures.closure (λ x r q k. search (rules, tests)))
    c.unwrap-word.result c.unwrap-word.ensures c.into_iter-item-iterator.ensures.into_iter_gives
    c.loop-item.yielded c.loop-item.yielded_by c.next-in-loop-item.ensures.steps (vec_items c.loop-item.found) c.loop-item.invariant.2
    c.in-Some.item c.in-Some.is (sym c.in_default.is ∙ c.number.ensures)

pub loop-item-preserved : goal.loop-item-preserved
loop-item-preserved c = (
  search rules,
  tt,
  turn_next c.next.ensures.steps c.args.line.now
      (YieldsList-from_slice_split _ (λ b. b == 32) c.args.line.now c.split-items.ensures.rest c.split-items.ensures.done c.split-items.ensures.closure (λ x r q k. search (rules, tests)))
      c.unwrap-word.result c.unwrap-word.ensures c.into_iter-item-iterator.ensures.into_iter_gives
      c.loop-item.yielded c.loop-item.yielded_by c.next-in-loop-item.ensures.steps (vec_items c.loop-item.found) c.loop-item.invariant.2
      c.in-Some.item c.in-Some-number.n (vec_items c.push.new.self) c.in-Some.is c.in-Some-number.ensures c.in_ok-push.ensures.items,
)

pub returns : goal.returns
returns c =
    c.command_of.ensures
    ∙ turn_last c.next.ensures.steps c.args.line.now
    (YieldsList-from_slice_split _ (λ b. b == 32) c.args.line.now c.split-items.ensures.rest c.split-items.ensures.done c.split-items.ensures.closure (λ x r q k. search (rules, tests)))
    c.unwrap-word.result c.unwrap-word.ensures c.into_iter-item-iterator.ensures.into_iter_gives
    c.loop-item.yielded c.loop-item.yielded_by c.next-in-loop-item.ensures.steps (vec_items c.loop-item.found) c.loop-item.invariant.2
    c.in-None.is
