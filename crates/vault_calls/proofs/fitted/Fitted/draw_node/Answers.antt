use Rattle.std.proofs.Common.{◌≡◌, ℕ, ◌^◌, ◌<◌, sym, refl, ap, ◌∙◌, subst, arith}
use Rattle.std.proofs.lemmas.List.{set-get_or}
use Rattle.shape.specs.Outages.{count}
use Rattle.rack.specs.Filled.{with_draws}
use Rattle.rack.proofs.Steps.{draws_word, draws_more}
use Rattle.vault_calls.specs.Steps.{StaysLent}
use Rattle.vault_calls.proofs.Gathering.{drawn_start, taken_none, taken_skip, taken_more, drawn_skip, drawn_step, taken_all, draw_not_refused}
use Rattle.vault_calls.proofs.Lending.{lent_same, lent_joined}
use Rattle.vault_calls.proofs.Refusing.{right_size}
use Rattle.vault_calls.proofs.fitted.Fitted.draw_node.Goals as goal
use Rattle.vault_calls.proofs.fitted.Fitted.draw_node.Goals.{then-selects+in_ok-word, else-selects}

pub loop-place-init : goal.loop-place-init
loop-place-init g c =
    let m = g.R.Rack.model c.args.self.now.rack.now in
    record {
      drawn = λ takes h. drawn_start m c.args.node takes;
      taken = λ takes h. taken_none takes (m.words c.args.node) c.args.words.now;
      stays = lent_same g.met.R.Rack.keeping _ _;
    }

pub selects-requires : goal.selects-requires
selects-requires g c = c.requires.selects.1.callable _ (omega (arith, c.requires.long, c.loop-place.auto.words, c.loop-place-test.true))

pub loop-place-preserved : goal.loop-place-preserved
loop-place-preserved g c =
    let model = g.R.Rack.model in
    let m0 = model c.args.self.now.rack.now in
    let m = model c.loop-place.self.rack.now in
    let i = c.args.node in
    let p = c.loop-place.place in
    let inv = c.loop-place.invariant in
    let lp : p < c.args.self.now.shape.q ^ c.args.self.now.shape.t = omega (arith, c.requires.long, c.loop-place.auto.words, c.loop-place-test.true) in
    elim c.if-selects.branch [
      | then-selects+in_ok-word w ↦
          let word = sym w.in_ok-word.was ∙ w.get.ensures.answer in
          record {
            drawn = λ takes h.
                let on = sym (h.told p c.selects.result lp c.selects.ensures) ∙ w.if-selects.true in
                ap (λ s. model s.rack.now) w.self-is
                ∙ draws_more m0 i (count takes p) m (inv.drawn takes h) p w.in_ok-word.field-0 word _ w.get.ensures.after
                ∙ drawn_step m0 i takes p on;
            taken = λ takes h.
                let on = sym (h.told p c.selects.result lp c.selects.ensures) ∙ w.if-selects.true in
                taken_more takes (m0.words i) c.args.words.now c.loop-place.words p (inv.taken takes h) w.in_ok-word.field-0 (omega (arith, c.loop-place.auto.words, c.loop-place-test.true)) on
                (draws_word m0 i (count takes p) m (inv.drawn takes h) p w.in_ok-word.field-0 word) c.if-selects.words w.words-is;
            stays = subst (λ s. StaysLent g.R.Rack.kept c.args.self.now.shape c.args.self.now.rack s.shape s.rack) (sym w.self-is) (lent_joined g.met.R.Rack.keeping inv.stays (record { same_shape = refl; same_rack = refl; stays = w.get.ensures.stays }));
          }
      | else-selects w ↦ record {
        drawn = λ takes h.
            let off = sym (h.told p c.selects.result lp c.selects.ensures) ∙ w.if-selects.false in
            ap (λ s. model s.rack.now) w.self-is ∙ inv.drawn takes h ∙ drawn_skip m0 i takes p off;
        taken = λ takes h.
            let off = sym (h.told p c.selects.result lp c.selects.ensures) ∙ w.if-selects.false in
            taken_skip takes (m0.words i) c.args.words.now c.loop-place.words p (inv.taken takes h) off c.if-selects.words (w.words-is ∙ set-get_or c.loop-place.words p 0);
        stays = subst (λ s. StaysLent g.R.Rack.kept c.args.self.now.shape c.args.self.now.rack s.shape s.rack) (sym w.self-is) inv.stays;
      }
    ]

pub returns-in_err-word : goal.returns-in_err-word
returns-in_err-word g c =
    let m0 = g.R.Rack.model c.args.self.now.rack.now in
    let i = c.args.node in
    let p = c.loop-place.place in
    let size = right_size c.args.self.now.shape.q c.args.self.now.shape.t m0 c.args.self.now.sized in
    absurd
    (draw_not_refused m0 (g.R.Rack.model c.loop-place.self.rack.now) i p (count c.requires.selects.0 p) c.in_err-word.field-0.0 (c.loop-place.invariant.drawn c.requires.selects.0 c.requires.selects.1) (omega (arith, size.0, c.requires.node))
    (omega (arith, size.1, c.requires.long, c.loop-place.auto.words, c.loop-place-test.true)) c.requires.stands (sym c.in_err-word.was ∙ c.get.ensures.answer))

pub returns : goal.returns
returns g c =
    let P : ℕ = c.args.self.now.shape.q ^ c.args.self.now.shape.t in
    let m0 = g.R.Rack.model c.args.self.now.rack.now in
    let inv = c.loop-place.invariant in
    let end : c.loop-place.place ≡ P = omega (arith, c.requires.long, c.loop-place.auto.words, c.loop-place.auto.place-end, c.loop-place-test.false) in
    record {
      accepted = refl;
      after = λ takes h. inv.drawn takes h ∙ ap (λ x. with_draws m0 c.args.node (count takes x)) end;
      words = λ takes h r lr. taken_all takes (m0.words c.args.node) c.args.words.now c.loop-place.words c.loop-place.place r (inv.taken takes h) (omega arith);
      stays = inv.stays;
    }
