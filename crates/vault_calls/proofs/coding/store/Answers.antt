use Rattle.std.proofs.Common.{true, ◌*◌, ◌^◌, length, Err, sym, refl, ap, ◌∙◌, subst, rules, arith}
use Rattle.code.specs.Code.{laid}
use Rattle.shape.specs.Listing.{outages}
use Rattle.refusal.specs.declared.reason.Refusal.TheVariants.{Size}
use Rattle.std.proofs.lemmas.Result.{err_from_is_err_and}
use Rattle.std.proofs.lemmas.Bool.{ltb-false}
use Rattle.vault_calls.specs.Calls.{answer, wrong_size, Now, Space}
use Rattle.vault_calls.proofs.Carrying.{space_same}
use Rattle.vault_calls.proofs.Refusing.{first_none, first_pass}
use Rattle.vault_calls.proofs.Storing.{stored_now, store_size, store_encode}
use Rattle.vault_calls.proofs.coding.store.Goals as goal

pub returns : goal.returns
returns g c =
    let q = c.args.shape.q in
    let t = c.args.shape.t in
    let m = g.R.Rack.model c.args.rack.now in
    let sized = c.in_ok-fits.ensures in
    let encoded = c.in_ok-encode.ensures.encoded in
    let s = c.encode.new.words in
    record {
      call = (
        first_pass (wrong_size q t m) Size _ sized ∙ encoded.0,
        ap (λ n. answer n 0) c.nodes.ensures,
        (
          laid (q ^ t) s,
          (encoded.1, subst (λ r. Now q t m (λ i. true) (laid (q ^ t) s) m.meters (g.R.Rack.model r)) (search rules) (stored_now q t m (g.R.Rack.model c.write_listed.new.self.rack.now) (outages c.filtered.result) s sized (c.filtered.ensures.list (λ i. true) (λ i b l e. search rules)) c.write_listed.ensures.after)),
        ),
      );
      space = encoded.2;
      stays = subst (λ r. g.R.Rack.kept c.args.rack.now r) (search rules) c.write_listed.ensures.stays.stays;
    }

pub write_listed-requires : goal.write_listed-requires
write_listed-requires g c =
    let used = c.args.shape.q * c.args.shape.t * c.args.shape.q ^ c.args.shape.t in
    let long = first_none _ _ _ c.in_ok-encode.ensures.encoded.0 in
    let roomy = first_none _ _ _ long.1 in
    omega (arith, ltb-false (length c.args.space.now) used roomy.0, c.encode.auto.words)

pub returns-in_err-fits : goal.returns-in_err-fits
returns-in_err-fits g c =
    let p = err_from_is_err_and c.from_residual.result c.from_residual.ensures.1 in
    let q = c.args.shape.q in
    let t = c.args.shape.t in
    let s0 = c.args.space.now in
    let e = c.in_err-fits.field-0.0 in
    let told = c.in_err-fits.ensures in
    rw (p.1, p.2)
    (record {
      call = (store_size g.F.Field.arith q t (g.R.Rack.model c.args.rack.now) c.args.message.now s0 e told.0 told.1, refl);
      space = space_same (q * t * q ^ t) e s0;
      stays = g.met.R.Rack.keeping.same c.args.rack.now;
    })

pub returns-in_err-encode : goal.returns-in_err-encode
returns-in_err-encode g c =
    let p = err_from_is_err_and c.from_residual-in_err-encode.result c.from_residual-in_err-encode.ensures.1 in
    let q = c.args.shape.q in
    let t = c.args.shape.t in
    let s0 = c.args.space.now in
    let e = c.in_err-encode.field-0.0 in
    let told = c.in_err-encode.ensures.encoded in
    rw (p.1, p.2)
    (record {
      call = (store_encode g.F.Field.arith q t (g.R.Rack.model c.args.rack.now) c.args.message.now s0 e c.in_ok-fits.ensures told.0, refl);
      space = subst (λ s. Space (q * t * q ^ t) (Err e) s0 s) (sym told.1) (space_same (q * t * q ^ t) e s0);
      stays = g.met.R.Rack.keeping.same c.args.rack.now;
    })
