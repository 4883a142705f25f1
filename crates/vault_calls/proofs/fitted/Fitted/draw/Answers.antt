use Rattle.std.proofs.Common.{◌≡◌, ℕ, ◌+◌, ◌-◌, ◌*◌, ◌^◌, ◌<◌, ◌≤◌, ◌&&◌, ltb, length, sym, refl, ap, ◌∙◌, subst, drop, length-drop, arith}
use Rattle.std.proofs.lemmas.List.{length-take-le}
use borrow.Rule.Slice.PartMut.{mid_of}
use Rattle.code.specs.Code.{laid}
use Rattle.code.proofs.Places.{node_within}
use Rattle.shape.specs.Outages.{count}
use Rattle.rack.specs.Filled.{with_draws}
use Rattle.vault_calls.specs.Steps.{drawn_below, Gathered, StaysLent}
use Rattle.vault_calls.proofs.Gathering.{drawn_below_none, nodes_none, drawn_below_skip, drawn_below_more, nodes_skip, nodes_more, gathered_node, flag_drawn}
use Rattle.vault_calls.proofs.Lending.{lent_same, lent_joined, told_at}
use Rattle.vault_calls.proofs.Refusing.{right_size}
use Rattle.vault_calls.proofs.fitted.Fitted.draw.Goals as goal
use Rattle.vault_calls.proofs.fitted.Fitted.draw.Goals.{then-stands+in_ok-draw_node, else-stands}

pub loop-i-preserved : goal.loop-i-preserved
loop-i-preserved g c =
    let model = g.R.Rack.model in
    let m0 = model c.args.self.now.rack.now in
    let m = model c.loop-i.self.rack.now in
    let P : ℕ = c.args.self.now.shape.q ^ c.args.self.now.shape.t in
    let i = c.loop-i.i in
    let inv = c.loop-i.invariant in
    let same = inv.stays.same_shape in
    let some = c.requires.selects in
    let size = right_size c.args.self.now.shape.q c.args.self.now.shape.t m0 c.args.self.now.sized in
    let within : i < m0.nodes = omega (arith, size.0, c.nodes-i-end.ensures, c.loop-i-test.true) in
    let flag = flag_drawn m0 m i (count some.0 P) i c.stands.result (inv.drawn some.0 some.1) within c.stands.ensures in
    elim c.if-stands.branch [
      | then-stands+in_ok-draw_node w ↦
          let up = flag ∙ w.if-stands.true in
          let Q : ℕ = c.places-places.result in
          let start : ℕ = i * Q in
          let from : start ≡ i * P = ap (λ x. i * x) c.places-places.ensures in
          let row = node_within (c.args.self.now.shape.q * c.args.self.now.shape.t) P i (omega (arith, c.nodes-i-end.ensures, c.loop-i-test.true)) in
          let room : start + (start + Q - start) ≤ length c.loop-i.space = omega (arith, c.places-places.ensures, c.requires.room, c.loop-i.auto.space) in
          let part = length-take-le (start + Q - start) (drop start c.loop-i.space) (omega (arith, length-drop start c.loop-i.space)) in
          record {
            drawn = λ takes h.
                ap (λ s. model s.rack.now) w.self-is
                ∙ drawn_below_more m0 m i (count takes P) (inv.drawn takes h) up (model w.draw_node.new.self.rack.now)
                (w.draw_node.ensures.after takes (told_at same h) ∙ ap (λ s. with_draws m i (count takes (s.q ^ s.t))) same);
            gathered = λ takes h.
                nodes_more P m0.flags takes m0.words c.args.space.now i c.loop-i.space (inv.gathered takes h) up m.words (λ p. ap (λ x. x.words i p) (inv.drawn takes h)) c.if-stands.space
                (λ j p lp. ap (λ x. laid P x j p) w.space-is
                ∙ gathered_node P i start (start + Q - start) takes m.words c.loop-i.space w.draw_node.new.words
                from (omega (arith, c.places-places.ensures)) room (omega (arith, w.draw_node.auto.words, part)) (λ r lr. w.draw_node.ensures.words takes (told_at same h) r (subst (λ s. r < s.q ^ s.t) (sym same) lr)) j p lp);
            stays = subst (λ s. StaysLent g.R.Rack.kept c.args.self.now.shape c.args.self.now.rack s.shape s.rack) (sym w.self-is) (lent_joined g.met.R.Rack.keeping inv.stays w.draw_node.ensures.stays);
          }
      | else-stands w ↦
          let out = flag ∙ w.if-stands.false in
          record {
            drawn = λ takes h. ap (λ s. model s.rack.now) w.self-is ∙ drawn_below_skip m0 m i (count takes P) (inv.drawn takes h) out;
            gathered = λ takes h. nodes_skip P m0.flags takes m0.words c.args.space.now i c.loop-i.space (inv.gathered takes h) out c.if-stands.space w.space-is;
            stays = subst (λ s. StaysLent g.R.Rack.kept c.args.self.now.shape c.args.self.now.rack s.shape s.rack) (sym w.self-is) inv.stays;
          }
    ]

pub draw_node-requires : goal.draw_node-requires
draw_node-requires g c =
    let m0 = g.R.Rack.model c.args.self.now.rack.now in
    let m = g.R.Rack.model c.loop-i.self.rack.now in
    let i = c.loop-i.i in
    let inv = c.loop-i.invariant in
    let same = inv.stays.same_shape in
    let some = c.requires.selects in
    let k = count some.0 (c.args.self.now.shape.q ^ c.args.self.now.shape.t) in
    let within : i < m0.nodes = omega (arith, (right_size c.args.self.now.shape.q c.args.self.now.shape.t m0 c.args.self.now.sized).0, c.nodes-i-end.ensures, c.loop-i-test.true) in
    let start : ℕ = i * c.places-places.result in
    let from : start ≡ i * c.args.self.now.shape.q ^ c.args.self.now.shape.t = ap (λ x. i * x) c.places-places.ensures in
    let row = node_within (c.args.self.now.shape.q * c.args.self.now.shape.t) (c.args.self.now.shape.q ^ c.args.self.now.shape.t) i (omega (arith, c.nodes-i-end.ensures, c.loop-i-test.true)) in
    let part = length-take-le (start + c.places-places.result - start) (drop start c.loop-i.space) (omega (arith, c.places-places.ensures, c.requires.room, c.loop-i.auto.space, length-drop start c.loop-i.space)) in
    record {
      node = subst (λ s. i < s.q * s.t) (sym same) (omega (arith, c.nodes-i-end.ensures, c.loop-i-test.true));
      stands = ap (λ x. x.flags i) (inv.drawn some.0 some.1) ∙ flag_drawn m0 m i k i c.stands.result (inv.drawn some.0 some.1) within c.stands.ensures ∙ c.if-stands.true;
      selects = (some.0, told_at same some.1);
      long = subst (λ s. length (mid_of start (start + c.places-places.result - start) c.loop-i.space) ≡ s.q ^ s.t) (sym same) (omega (arith, c.places-places.ensures, part));
    }

pub loop-i-init : goal.loop-i-init
loop-i-init g c =
    let P : ℕ = c.args.self.now.shape.q ^ c.args.self.now.shape.t in
    let m = g.R.Rack.model c.args.self.now.rack.now in
    record {
      drawn = λ takes h. drawn_below_none m (count takes P);
      gathered = λ takes h. nodes_none P m.flags takes m.words c.args.space.now;
      stays = lent_same g.met.R.Rack.keeping _ _;
    }

pub returns : goal.returns
returns g c =
    let n : ℕ = c.args.self.now.shape.q * c.args.self.now.shape.t in
    let P : ℕ = c.args.self.now.shape.q ^ c.args.self.now.shape.t in
    let m = g.R.Rack.model c.args.self.now.rack.now in
    let inv = c.loop-i.invariant in
    let end : c.loop-i.i ≡ n = omega (arith, c.nodes-i-end.ensures, c.loop-i.auto.i-end, c.loop-i-test.false) in
    record {
      accepted = refl;
      after = λ takes h. inv.drawn takes h ∙ ap (λ x. drawn_below m x (count takes P)) end;
      space = λ takes h. subst (λ x. Gathered P (λ j p. (ltb j x && m.flags j) && takes p) m.words c.args.space.now c.loop-i.space) end (inv.gathered takes h);
      stays = inv.stays;
    }
