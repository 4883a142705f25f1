use Rattle.std.proofs.Common.{true, ◌-◌, ◌*◌, ◌^◌, ◌<◌, ◌≤◌, length, Some, Ok, Err, refl, sym, ap, ◌∙◌, subst, rules, ap₂, arith}
use Rattle.code.specs.Code.{laid}
use Rattle.code.proofs.Restoration.{refusal_none}
use Rattle.refusal.specs.declared.reason.Refusal.TheVariants.{TooManyOut}
use Rattle.shape.specs.Listing.{outages}
use Rattle.shape.specs.Outages.{among}
use Rattle.shape.proofs.Bounds.{shaped, places_bound, places_positive}
use Rattle.shape.proofs.OutageLists.{outages_length}
use Rattle.std.proofs.lemmas.Result.{err_from_is_err_and}
use Rattle.std.proofs.lemmas.Bool.{ltb-false}
use Rattle.vault_calls.specs.Calls.{answer, out_count, NotRecovered, Recover}
use Rattle.vault_calls.specs.History.{RecoverPromise}
use Rattle.vault_calls.specs.Steps.{written_below}
use Rattle.vault_calls.proofs.Carrying.{gathered_rest, late_parts, space_drew, space_same}
use Rattle.vault_calls.proofs.Promised.{recovered, recover_refused}
use Rattle.vault_calls.proofs.Recovering.{out_length, drawn_now, only_agrees, recovered_now, unrecovered, recover_none, recover_many, recover_size, recover_short}
use Rattle.vault_calls.proofs.Refusing.{right_size}
use Rattle.vault_calls.proofs.Tallies.{small_product}
use Rattle.vault_calls.proofs.coding.recover.Goals as goal

pub overflow_sub-result : goal.overflow_sub-result
overflow_sub-result g c = omega (arith, outages_length c.outages-out.result, c.outages-out.ensures.count, c.len-lost.ensures, c.nodes.ensures)

pub overflow_mul-result : goal.overflow_mul-result
overflow_mul-result g c =
    small_product _ _ (omega (arith, c.nodes.ensures, c.args.shape.few)) (omega (arith, c.places.ensures, places_bound (shaped c.args.shape)))

pub draw-requires : goal.draw-requires
draw-requires g c =
    let used = c.args.shape.q * c.args.shape.t * c.args.shape.q ^ c.args.shape.t in
    record { selects = (λ p. true, (search rules)); room = ltb-false (length c.args.space.now) used c.in_ok-roomy.ensures }

pub write_listed-requires : goal.write_listed-requires
write_listed-requires g c =
    let used = c.args.shape.q * c.args.shape.t * c.args.shape.q ^ c.args.shape.t in
    subst (λ s. s.q * s.t * s.q ^ s.t ≤ length c.restore.new.words) (sym c.draw.ensures.stays.same_shape) (omega (arith, ltb-false (length c.args.space.now) used c.in_ok-roomy.ensures, c.draw.auto.space, c.restore.auto.words))

pub returns-in_err-fits : goal.returns-in_err-fits
returns-in_err-fits g c =
    let p = err_from_is_err_and c.from_residual.result c.from_residual.ensures.1 in
    let q = c.args.shape.q in
    let t = c.args.shape.t in
    let f = g.F.Field.arith in
    let s = shaped c.args.shape in
    let m = g.R.Rack.model c.args.rack.now in
    let e = c.in_err-fits.field-0.0 in
    let told = c.in_err-fits.ensures in
    let refused = recover_refused f g.met.F.Field.lawful q t s m (length c.args.space.now) e (recover_size f q t m (length c.args.space.now) told.0 ∙ ap Some (sym told.1)) in
    rw (p.1, p.2)
    (record { call = refused.0; history = refused.1; space = space_same (q * t * q ^ t) e c.args.space.now; stays = g.met.R.Rack.keeping.same c.args.rack.now })

pub returns-in_err-roomy : goal.returns-in_err-roomy
returns-in_err-roomy g c =
    let p = err_from_is_err_and c.from_residual-in_err-roomy.result c.from_residual-in_err-roomy.ensures.1 in
    let q = c.args.shape.q in
    let t = c.args.shape.t in
    let f = g.F.Field.arith in
    let s = shaped c.args.shape in
    let m = g.R.Rack.model c.args.rack.now in
    let e = c.in_err-roomy.field-0.0 in
    let told = c.in_err-roomy.ensures in
    let refused = recover_refused f g.met.F.Field.lawful q t s m (length c.args.space.now) e (recover_short f q t m (length c.args.space.now) c.in_ok-fits.ensures told.0 ∙ ap Some (sym told.1)) in
    rw (p.1, p.2)
    (record { call = refused.0; history = refused.1; space = space_same (q * t * q ^ t) e c.args.space.now; stays = g.met.R.Rack.keeping.same c.args.rack.now })

pub returns-then-lost-rows : goal.returns-then-lost-rows
returns-then-lost-rows g c =
    let q = c.args.shape.q in
    let t = c.args.shape.t in
    let f = g.F.Field.arith in
    let s = shaped c.args.shape in
    let m = g.R.Rack.model c.args.rack.now in
    let sized = c.in_ok-fits.ensures in
    let many : q < out_count q t m = omega (arith, c.if-lost-rows.true, c.rows.ensures, c.len-lost.ensures, out_length q t m (outages c.outages-out.result) sized c.outages-out.ensures.list) in
    let refused = recover_refused f g.met.F.Field.lawful q t s m (length c.args.space.now) TooManyOut (recover_many f q t m (length c.args.space.now) sized c.in_ok-roomy.ensures many) in
    record { call = refused.0; history = refused.1; space = refl; stays = g.met.R.Rack.keeping.same c.args.rack.now }

pub returns-in_err-restore : goal.returns-in_err-restore
returns-in_err-restore g c =
    let p = err_from_is_err_and c.from_residual-in_err-restore.result c.from_residual-in_err-restore.ensures.1 in
    let q = c.args.shape.q in
    let t = c.args.shape.t in
    let f = g.F.Field.arith in
    let s = shaped c.args.shape in
    let m = g.R.Rack.model c.args.rack.now in
    let m1 = g.R.Rack.model c.draw.new.self.rack.now in
    let list = c.outages-out.result in
    let nodes = outages list in
    let s0 = c.args.space.now in
    let s1 = c.draw.new.space in
    let s2 = c.restore.new.words in
    let e = c.in_err-restore.field-0.0 in
    let sized = c.in_ok-fits.ensures in
    let long = out_length q t m nodes sized c.outages-out.ensures.list in
    let few : length nodes ≤ q = omega (arith, c.if-lost-rows.false, c.rows.ensures, c.len-lost.ensures) in
    let room : q * t * q ^ t ≤ length s1 = omega (arith, ltb-false (length s0) (q * t * q ^ t) c.in_ok-roomy.ensures, c.draw.auto.space) in
    let all-drawn = c.draw.ensures.after (λ p. true) (search rules) in
    let gathered = c.draw.ensures.space (λ p. true) (search rules) in
    let size = right_size q t m sized in
    let parts = late_parts f q t list.count nodes s1 s2 e (refusal_none f q t list.count nodes s1 room c.outages-out.ensures.count few) c.in_err-restore.ensures.restored in
    let told = unrecovered f q t m m1 nodes s0 s1 sized c.outages-out.ensures.list all-drawn gathered e parts.0 in
    let done = recovered f g.met.F.Field.lawful q t s m (length s0) (Err e) m1
    (subst (λ o. NotRecovered f q t m e m1 o) (sym (recover_none f q t m (length s0) size.0 size.1 c.in_ok-roomy.ensures (omega arith)))
    (drawn_now f q t m m1 nodes s0 s1 sized c.outages-out.ensures.list all-drawn gathered, told.0)) in
    rw (p.1, p.2)
    (record {
      call = subst (λ r. Recover f q t m (length s0) (Err e) (g.R.Rack.model r)) (search rules) done.0;
      history = subst (λ r. RecoverPromise f q t m (length s0) (Err e) (g.R.Rack.model r)) (search rules) done.1;
      space =
          space_drew (q * t * q ^ t) e s0 s2 told.1
          (parts.1 ∙ gathered_rest (q * t) (q ^ t) m.flags (λ p. true) m.words s0 s1 (places_positive s) c.draw.auto.space gathered);
      stays = subst (λ r. g.R.Rack.kept c.args.rack.now r) (search rules) c.draw.ensures.stays.stays;
    })

pub returns : goal.returns
returns g c =
    let q = c.args.shape.q in
    let t = c.args.shape.t in
    let f = g.F.Field.arith in
    let s = shaped c.args.shape in
    let m = g.R.Rack.model c.args.rack.now in
    let m1 = g.R.Rack.model c.draw.new.self.rack.now in
    let m2 = g.R.Rack.model c.write_listed.new.self.rack.now in
    let nodes = outages c.outages-out.result in
    let s0 = c.args.space.now in
    let s1 = c.draw.new.space in
    let s2 = c.restore.new.words in
    let sized = c.in_ok-fits.ensures in
    let list = c.outages-out.ensures.list in
    let long = out_length q t m nodes sized list in
    let few : out_count q t m ≤ q = omega (arith, c.if-lost-rows.false, c.rows.ensures, c.len-lost.ensures, long) in
    let restored = c.in_ok-restore.ensures.restored in
    let size = right_size q t m sized in
    let all-drawn = c.draw.ensures.after (λ p. true) (search rules) in
    let gathered = c.draw.ensures.space (λ p. true) (search rules) in
    let wrote = c.write_listed.ensures.after ∙ ap (λ x. written_below m1 (among nodes) (laid (x.q ^ x.t) s2) (x.q * x.t)) c.draw.ensures.stays.same_shape in
    let a = answer c.len-lost.result ((c.nodes.result - c.len-lost.result) * c.places.result) in
    let done = recovered f g.met.F.Field.lawful q t s m (length s0) (Ok a) m2 (
      recover_none f q t m (length s0) size.0 size.1 c.in_ok-roomy.ensures few,
      ap₂ answer (c.len-lost.ensures ∙ long) (ap₂ (λ x y. x * y) (ap₂ (λ x y. x - y) c.nodes.ensures (c.len-lost.ensures ∙ long)) c.places.ensures),
      (
        laid (q ^ t) s2,
        (only_agrees f q t m m1 nodes s0 s1 sized list all-drawn gathered s2 m2 restored.1 wrote, recovered_now f q t m m1 nodes s0 s1 sized list all-drawn gathered s2 m2 restored.1 wrote),
      ),
    ) in
    record {
      call = subst (λ r. Recover f q t m (length s0) (Ok a) (g.R.Rack.model r)) (search rules) done.0;
      history = subst (λ r. RecoverPromise f q t m (length s0) (Ok a) (g.R.Rack.model r)) (search rules) done.1;
      space = restored.2 ∙ gathered_rest (q * t) (q ^ t) m.flags (λ p. true) m.words s0 s1 (places_positive s) c.draw.auto.space gathered;
      stays = subst (λ r. g.R.Rack.kept c.args.rack.now r) (search rules) (g.met.R.Rack.keeping.joined _ _ _ c.draw.ensures.stays.stays c.write_listed.ensures.stays.stays);
    }
