use Rattle.std.proofs.Common.{◌<◌, length, refl, ap, ◌∙◌, arith, rules}
use Rattle.std.proofs.lemmas.List.{take_more_set}
use Rattle.shape.specs.Outages.{rising}
use Rattle.shape.proofs.OutageLists.{outages_room}
use Rattle.shape.proofs.outages.OutageList.put.Goals as goal

pub bounds-self-self : goal.bounds-self-self
bounds-self-self c = outages_room c.args.self.now c.args.node (search rules) c.requires

pub invariant_of-self : goal.invariant_of-self
invariant_of-self c =
    let o = c.args.self.now in
    let i : o.len < 16 = outages_room o c.args.node (search rules) c.requires in
    let j : o.len < length o.numbers = search rules in
    record {
      few = omega arith;
      held = omega arith;
      rises = ap (rising o.count) (take_more_set o.numbers o.len c.args.node j) ∙ c.requires;
    }

pub returns : goal.returns
returns c =
    let o = c.args.self.now in
    let i : o.len < 16 = outages_room o c.args.node (search rules) c.requires in
    let j : o.len < length o.numbers = search rules in
    record { count = refl; list = take_more_set o.numbers o.len c.args.node j }
