use Rattle.std.proofs.Common.{◌≡◌, ◌+◌, ◌*◌, ◌^◌, ◌<◌, ◌≤◌, [], ◌∷◌, ◌++◌, length, get_or, drop, set, sym, refl, ap, ◌∙◌, subst, ⊎_elim, inl, inr, arith, length-take}
use Rattle.std.proofs.lemmas.List.{length_push}
use Rattle.shape.specs.Layout.{companion_place}
use Rattle.shape.specs.Listing.{outages}
use Rattle.shape.specs.Outages.{among}
use Rattle.shape.specs.declared.dimensions.Shape.{Shape}
use Rattle.shape.proofs.Bounds.{shaped}
use Rattle.code.specs.Arrays.{symbols_in, symbols_of}
use Rattle.code.specs.Filling.{solution}
use Rattle.code.specs.Reading.{read, symbols}
use Rattle.code.specs.Steps.{HoldsSolution, PlaneRefilled, given}
use Rattle.code.proofs.Items.{next_item, both_walked}
use Rattle.code.proofs.Refilling.{helper_within, place_within, row_more}
use Rattle.code.proofs.Stays.{stays_both, seen}
use Rattle.code.proofs.array.ArrayMut.refill_from.Goals as goal

pub companion_place-place-requires-clause-node : goal.companion_place-place-requires-clause-node
companion_place-place-requires-clause-node g c =
    let f = g.F.Field.arith in
    let laws = g.met.F.Field.lawful in
    let s = c.args.self.now.shape in
    let nodes = outages c.args.column.now in
    let k = length c.loop-helper.yielded in
    let i = c.in-Some.helper.now in
    let inv = c.loop-helper.invariant in
    let x = next_item nodes c.loop-helper.helper-iterator.a.rest.now c.next.new.self.a.rest.now k i inv.nodes c.in-Some.ensures.steps.0 in
    let long = c.requires.nodes.0 in
    subst (λ (z : Shape). i < z.q * z.t) (sym inv.stays.same_shape)
    (helper_within f laws (shaped s) c.args.node c.requires.node nodes c.requires.nodes c.args.plane k i (companion_place s.q i c.args.plane) c.requires.plane (omega arith) c.requires.helps x.1 refl)

pub refilled-a-requires-clause-helper : goal.refilled-a-requires-clause-helper
refilled-a-requires-clause-helper g c =
    let f = g.F.Field.arith in
    let laws = g.met.F.Field.lawful in
    let s = c.args.self.now.shape in
    let nodes = outages c.args.column.now in
    let k = length c.loop-helper.yielded in
    let i = c.in-Some.helper.now in
    let inv = c.loop-helper.invariant in
    let x = next_item nodes c.loop-helper.helper-iterator.a.rest.now c.next.new.self.a.rest.now k i inv.nodes c.in-Some.ensures.steps.0 in
    let long = c.requires.nodes.0 in
    subst (λ (z : Shape). i < z.q * z.t) (sym (c.view-in-loop-helper.ensures.shape ∙ inv.stays.same_shape))
    (helper_within f laws (shaped s) c.args.node c.requires.node nodes c.requires.nodes c.args.plane k i (companion_place s.q i c.args.plane) c.requires.plane (omega arith) c.requires.helps x.1 refl)

pub write_symbol-requires-clause-place : goal.write_symbol-requires-clause-place
write_symbol-requires-clause-place g c =
    let f = g.F.Field.arith in
    let laws = g.met.F.Field.lawful in
    let s = c.args.self.now.shape in
    let nodes = outages c.args.column.now in
    let k = length c.loop-helper.yielded in
    let i = c.in-Some.helper.now in
    let inv = c.loop-helper.invariant in
    let x = next_item nodes c.loop-helper.helper-iterator.a.rest.now c.next.new.self.a.rest.now k i inv.nodes c.in-Some.ensures.steps.0 in
    let long = c.requires.nodes.0 in
    let place = c.companion_place-place.result in
    let at = subst (λ (z : Shape). place ≡ companion_place z.q i c.args.plane) inv.stays.same_shape c.companion_place-place.ensures in
    subst (λ (z : Shape). place < z.q ^ z.t) (sym inv.stays.same_shape)
    (place_within f laws (shaped s) c.args.node c.requires.node nodes c.requires.nodes c.args.plane k i place c.requires.plane (omega arith) c.requires.helps x.1 at)

pub loop-helper-preserved : goal.loop-helper-preserved
loop-helper-preserved g c =
    let f = g.F.Field.arith in
    let laws = g.met.F.Field.lawful in
    let s = c.args.self.now.shape in
    let nodes = outages c.args.column.now in
    let k = length c.loop-helper.yielded in
    let i = c.in-Some.helper.now in
    let inv = c.loop-helper.invariant in
    let x = next_item nodes c.loop-helper.helper-iterator.a.rest.now c.next.new.self.a.rest.now k i inv.nodes c.in-Some.ensures.steps.0 in
    let long = c.requires.nodes.0 in
    let before = c.args.self.now in
    let now = c.loop-helper.self in
    let after = c.write_symbol.new.self in
    let S = among nodes in
    let plane = c.args.plane in
    let place = c.companion_place-place.result in
    let e : now.shape ≡ s = inv.stays.same_shape in
    let ys = c.into_iter-helper-iterator.result.b.rest.now in
    let y = next_item ys c.loop-helper.helper-iterator.b.rest.now c.next.new.self.b.rest.now k c.in-Some.word.now inv.words c.in-Some.ensures.steps.1 in
    let more : k + 1 ≡ length (c.loop-helper.yielded ++ (c.in-Some.helper, c.in-Some.word) ∷ []) = sym (length_push c.loop-helper.yielded _) in
    let u = c.view.result in
    let us = c.plane_solution-solution.result in
    let h = subst (λ (z : Shape). HoldsSolution f z.q z.t S (symbols_of f u) plane nodes us (length nodes)) c.view.ensures.shape c.plane_solution-solution.ensures in
    let holds = subst (λ B. HoldsSolution f s.q s.t S B plane nodes us (length nodes)) (seen f u before c.view.ensures.shape c.view.ensures.words) h in
    let same : ys ≡ us = ap (λ z. z.b.rest.now) c.into_iter-helper-iterator.ensures.into_iter_gives ∙ c.zip-helper-items.ensures.second.0 in
    let solved = c.element-b.ensures ∙ ap (read f) (y.1 ∙ ap (λ vs. get_or vs k 0) same) ∙ holds k x.0 ∙ ap (λ j. solution f s.q s.t S (symbols_in f before) j plane) (sym x.1) in
    let v = c.view-in-loop-helper in
    let at = subst (λ (z : Shape). place ≡ companion_place z.q i plane) e c.companion_place-place.ensures in
    let given_is = c.refilled-a.ensures ∙ ap (λ B. given f c.args.node i (B i plane) c.element-b.result)
    (seen f v.result now v.ensures.shape v.ensures.words ∙ ap (λ (z : Shape). symbols f (z.q ^ z.t) now.words.now) e) in
    record {
      refilled = subst (λ n. PlaneRefilled f s.q s.t S c.args.node plane n before.words.now after.words.now) more
          (row_more f laws (shaped s) c.args.node c.requires.node nodes c.requires.nodes plane k i place c.requires.plane (omega arith) c.requires.helps x.1 at
          before.words.now now.words.now after.words.now c.refilled-a.result c.element-b.result
          (subst (λ (z : Shape). z.q * z.t * z.q ^ z.t ≤ length now.words.now) e now.room) inv.refilled solved given_is
          (subst (λ (z : Shape). after.words.now ≡ set now.words.now (c.args.node * z.q ^ z.t + place) (f.code c.refilled-a.result)) e c.write_symbol.ensures.same));
      stays = stays_both f before now after inv.stays c.write_symbol.ensures.stays;
      within = omega arith;
      nodes = x.2 ∙ ap (λ n. drop n nodes) more;
      words = y.2 ∙ ap (λ n. drop n ys) more;
    }

pub returns-clause-refilled : goal.returns-clause-refilled
returns-clause-refilled g c =
    let s = c.args.self.now.shape in
    let o = c.args.column.now in
    let nodes = outages o in
    let ys = c.into_iter-helper-iterator.result.b.rest.now in
    let it = c.loop-helper.helper-iterator in
    let inv = c.loop-helper.invariant in
    let same : ys ≡ c.plane_solution-solution.result = ap (λ z. z.b.rest.now) c.into_iter-helper-iterator.ensures.into_iter_gives ∙ c.zip-helper-items.ensures.second.0 in
    let long = ap length same in
    let short = length-take o.len o.numbers in
    let held = o.held in
    let n : length c.loop-helper.yielded ≡ length nodes =
    both_walked nodes ys it.a.rest.now it.b.rest.now (length c.loop-helper.yielded) inv.nodes inv.words (⊎_elim (λ z. inl z.1.0) (λ z. inr z.1.0) c.in-None.ensures.steps) inv.within (omega arith) in
    subst (λ k. PlaneRefilled g.F.Field.arith s.q s.t (among nodes) c.args.node c.args.plane k c.args.self.now.words.now c.loop-helper.self.words.now) (n ∙ c.requires.nodes.0) inv.refilled
