use Rattle.std.proofs.Common.{◌≤◌, length, vec_items, codes, refl, ap, ◌∙◌, arith, rules, tests}
use Rattle.lines.specs.Requests.{asked}
use Rattle.lines.proofs.Asked.{asked_named, of_one, of_two, of_three, other_none, other_one, other_two, other_three, other_more}
use Rattle.lines.proofs.words.command_of.Goals as goal
use Rattle.lines.proofs.words.command_of.Goals.{in_default-2-via-in-empty+else-spells-2, in_default-2-via-in-len1-2+else-spells-4, in_default-2-via-in-len2-3+else-spells-7, in_default-2-via-in-len3+else-spells-8, in_default-2-via-else-this-lt1+else-this-lt2+else-this-lt3+else-this-lt4}

pub returns-in_default : goal.returns-in_default
unfolding asked
returns-in_default c = asked_named c.args.word.now (codes "store") (vec_items c.args.found) (vec_items c.args.found) c.if-spells.ensures refl

pub returns-in-empty : goal.returns-in-empty
unfolding asked
returns-in-empty c = search rules

pub returns-in-len1 : goal.returns-in-len1
unfolding asked
returns-in-len1 c = asked_named c.args.word.now (codes "drop") _ (vec_items c.args.found) c.if-spells-3.ensures (of_one c.as_slice.result.now (omega arith) (omega arith) ∙ c.as_slice.ensures.value)

pub returns-in-len1-2 : goal.returns-in-len1-2
unfolding asked
returns-in-len1-2 c = asked_named c.args.word.now (codes "repair") _ (vec_items c.args.found) c.if-spells-4.ensures (of_one c.as_slice.result.now (omega arith) (omega arith) ∙ c.as_slice.ensures.value)

pub returns-in-len2 : goal.returns-in-len2
unfolding asked
returns-in-len2 c = asked_named c.args.word.now (codes "byte") _ (vec_items c.args.found) c.if-spells-5.ensures (of_two c.as_slice.result.now (omega arith) (omega arith) ∙ c.as_slice.ensures.value)

pub returns-in-len2-2 : goal.returns-in-len2-2
unfolding asked
returns-in-len2-2 c = asked_named c.args.word.now (codes "prime") _ (vec_items c.args.found) c.if-spells-6.ensures (of_two c.as_slice.result.now (omega arith) (omega arith) ∙ c.as_slice.ensures.value)

pub returns-in-len2-3 : goal.returns-in-len2-3
unfolding asked
returns-in-len2-3 c = asked_named c.args.word.now (codes "read") _ (vec_items c.args.found) c.if-spells-7.ensures (of_two c.as_slice.result.now (omega arith) (omega arith) ∙ c.as_slice.ensures.value)

pub returns-in-len3 : goal.returns-in-len3
unfolding asked
returns-in-len3 c = asked_named c.args.word.now (codes "alter") _ (vec_items c.args.found) c.if-spells-8.ensures (of_three c.as_slice.result.now (omega arith) (omega arith) ∙ c.as_slice.ensures.value)

pub returns : goal.returns
returns c =
    let long = ap length c.as_slice.ensures.value in
    elim c.in_default-2.branch [
      | in_default-2-via-in-empty+else-spells-2 w ↦ other_none c.args.word.now c.if-spells.ensures (vec_items c.args.found) (omega arith) w.if-spells-2.ensures
      | in_default-2-via-in-len1-2+else-spells-4 w ↦ other_one c.args.word.now c.if-spells.ensures (vec_items c.args.found) (omega arith) (omega arith) w.if-spells-3.ensures w.if-spells-4.ensures
      | in_default-2-via-in-len2-3+else-spells-7 w ↦ other_two c.args.word.now c.if-spells.ensures (vec_items c.args.found) (omega arith) (omega arith) w.if-spells-5.ensures w.if-spells-6.ensures w.if-spells-7.ensures
      | in_default-2-via-in-len3+else-spells-8 w ↦ other_three c.args.word.now c.if-spells.ensures (vec_items c.args.found) (omega arith) (omega arith) w.if-spells-8.ensures
      | in_default-2-via-else-this-lt1+else-this-lt2+else-this-lt3+else-this-lt4 w ↦ (
          let h : 4 ≤ length c.as_slice.result.now = search (rules, tests) in
          other_more c.args.word.now c.if-spells.ensures (vec_items c.args.found) (omega arith)
          )
    ]
