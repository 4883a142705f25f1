use Rattle.std.proofs.Common.{◌≡◌, ◌+◌, ◌*◌, ◌^◌, ◌<◌, true, [], ◌∷◌, ◌++◌, length, drop, sym, ◌∙◌, ap, subst, ⊎_elim, inl, inr, arith, length-take}
use Rattle.std.proofs.lemmas.List.{length_push}
use Rattle.shape.specs.Listing.{outages}
use Rattle.shape.specs.Outages.{among, rising}
use Rattle.shape.specs.declared.dimensions.Shape.{Shape}
use Rattle.shape.proofs.Rising.{rising_below}
use Rattle.code.specs.Arrays.{symbols_in, symbols_of}
use Rattle.code.specs.Reading.{read}
use Rattle.code.specs.Solving.{reads}
use Rattle.code.specs.Steps.{HoldsSolution, Wrote}
use Rattle.code.specs.declared.array.ArrayMut.{ArrayMut}
use Rattle.code.proofs.Items.{next_item, both_walked}
use Rattle.code.proofs.PlaneSolution.{WrittenTo, written_more, written_all}
use Rattle.code.proofs.Stays.{stays_both, seen}
use Rattle.code.proofs.array.ArrayMut.solve_plane.Goals as goal

pub write_symbol-requires-clause-node : goal.write_symbol-requires-clause-node
write_symbol-requires-clause-node g c =
    let s = c.args.self.now.shape in
    let o = c.args.out.now in
    let inv = c.loop-node.invariant in
    let i = next_item (outages o) c.loop-node.node-iterator.a.rest.now c.next.new.self.a.rest.now (length c.loop-node.yielded) c.in-Some.node.now inv.nodes c.in-Some.ensures.steps.0 in
    let n = rising_below o.count (outages o) o.rises (length c.loop-node.yielded) i.0 in
    let l : c.in-Some.node.now < s.q * s.t = omega arith in
    subst (λ (z : Shape). c.in-Some.node.now < z.q * z.t) (sym inv.stays.same_shape) l

pub loop-node-preserved : goal.loop-node-preserved
loop-node-preserved g c =
    let f = g.F.Field.arith in
    let before = c.args.self.now in
    let now = c.loop-node.self in
    let after = c.write_symbol.new.self in
    let s = before.shape in
    let o = c.args.out.now in
    let xs = outages o in
    let ys = c.into_iter-node-iterator.result.b.rest.now in
    let k = length c.loop-node.yielded in
    let i = c.in-Some.node.now in
    let a = c.element.result in
    let inv = c.loop-node.invariant in
    let A = λ (b : ArrayMut g.row.F.Denot). symbols_in f b in
    let rises : rising (s.q * s.t) xs ≡ true = subst (λ n. rising n xs ≡ true) c.requires.count o.rises in
    let x = next_item xs c.loop-node.node-iterator.a.rest.now c.next.new.self.a.rest.now k i inv.nodes c.in-Some.ensures.steps.0 in
    let y = next_item ys c.loop-node.node-iterator.b.rest.now c.next.new.self.b.rest.now k c.in-Some.word.now inv.words c.in-Some.ensures.steps.1 in
    let more : k + 1 ≡ length (c.loop-node.yielded ++ (c.in-Some.node, c.in-Some.word) ∷ []) = sym (length_push c.loop-node.yielded _) in
    let wrote = subst (λ (z : Shape). Wrote (z.q ^ z.t) i c.args.place a (A now) (A after)) inv.stays.same_shape c.write_symbol.ensures.wrote in
    record {
      written = subst (λ n. WrittenTo s.q s.t xs c.args.place (reads f ys) n (A before) (A after)) more
          (written_more s.q s.t xs rises c.args.place c.requires.place (reads f ys) k x.0 (A before) (A now) (A after) inv.written i a x.1 (c.element.ensures ∙ ap (read f) y.1) wrote);
      stays = stays_both f before now after inv.stays c.write_symbol.ensures.stays;
      within = omega arith;
      nodes = x.2 ∙ ap (λ n. drop n xs) more;
      words = y.2 ∙ ap (λ n. drop n ys) more;
    }

pub returns-clause-solved : goal.returns-clause-solved
returns-clause-solved g c =
    let f = g.F.Field.arith in
    let before = c.args.self.now in
    let s = before.shape in
    let o = c.args.out.now in
    let xs = outages o in
    let S = among xs in
    let ys = c.into_iter-node-iterator.result.b.rest.now in
    let us = c.plane_solution-solution.result in
    let it = c.loop-node.node-iterator in
    let inv = c.loop-node.invariant in
    let A = λ (a : ArrayMut g.row.F.Denot). symbols_in f a in
    let v = c.view.result in
    let h = subst (λ (z : Shape). HoldsSolution f z.q z.t S (symbols_of f v) c.args.place xs us (length xs)) c.view.ensures.shape c.plane_solution-solution.ensures in
    let holds = subst (λ B. HoldsSolution f s.q s.t S B c.args.place xs us (length xs)) (seen f v before c.view.ensures.shape c.view.ensures.words) h in
    let zip = c.zip-node-items.ensures.second in
    let same : us ≡ ys = sym zip.0 ∙ sym (ap (λ z. z.b.rest.now) c.into_iter-node-iterator.ensures.into_iter_gives) in
    let long = ap length same in
    let short = length-take o.len o.numbers in
    let held = o.held in
    let n : length c.loop-node.yielded ≡ length xs =
    both_walked xs ys it.a.rest.now it.b.rest.now (length c.loop-node.yielded) inv.nodes inv.words (⊎_elim (λ z. inl z.1.0) (λ z. inr z.1.0) c.in-None.ensures.steps) inv.within (omega arith) in
    written_all f s.q s.t xs c.args.place c.requires.place ys (A before) (A c.loop-node.self)
    (subst (λ vs. HoldsSolution f s.q s.t S (A before) c.args.place xs vs (length xs)) same holds)
    (subst (λ k. WrittenTo s.q s.t xs c.args.place (reads f ys) k (A before) (A c.loop-node.self)) n inv.written)
