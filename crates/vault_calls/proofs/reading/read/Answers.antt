use Rattle.std.proofs.Common.{◌+◌, ◌-◌, ◌*◌, ◌^◌, ◌<◌, ◌≤◌, length, Some, Ok, Err, refl, sym, ap, ◌∙◌, subst, rules, arith}
use Rattle.refusal.specs.declared.reason.Refusal.TheVariants.{NoSuchPlace, NodeOut}
use Rattle.shape.proofs.Bounds.{shaped}
use Rattle.std.proofs.lemmas.Result.{err_from_is_err_and}
use Rattle.vault_calls.specs.Calls.{answer, Read}
use Rattle.vault_calls.proofs.Fetching.{read_size, read_nowhere, read_passes, read_finds_out, read_now}
use Rattle.vault_calls.proofs.Promised.{has_read, read_refused}
use Rattle.vault_calls.proofs.reading.read.Goals as goal
use Rattle.vault_calls.proofs.reading.read.Goals.{then-start-limit-via-then-start-limit, then-start-limit-via-else-start-limit+then-len-limit}

pub all_stand-requires : goal.all_stand-requires
all_stand-requires g c = omega (arith, c.message_words-limit.ensures, c.if-start-limit.false, c.if-len-limit.false)

pub read_words-requires : goal.read_words-requires
read_words-requires g c = record { inside = omega (arith, c.message_words-limit.ensures); stand = sym c.all_stand.ensures ∙ c.if-not-all_stand.false }

pub returns-in_err-fits : goal.returns-in_err-fits
returns-in_err-fits g c =
    let p = err_from_is_err_and c.from_residual.result c.from_residual.ensures.1 in
    let q = c.args.shape.q in
    let t = c.args.shape.t in
    let f = g.F.Field.arith in
    let s = shaped c.args.shape in
    let m = g.R.Rack.model c.args.rack.now in
    let told = c.in_err-fits.ensures in
    let refused = read_refused f g.met.F.Field.lawful q t s m c.args.start c.args.buffer.now c.in_err-fits.field-0.0 (read_size q t c.args.start (length c.args.buffer.now) m told.0 ∙ ap Some (sym told.1)) in
    rw (p.1, p.2) (record { call = refused.0; history = refused.1; stays = g.met.R.Rack.keeping.same c.args.rack.now })

pub returns-then-start-limit : goal.returns-then-start-limit
returns-then-start-limit g c =
    let q = c.args.shape.q in
    let t = c.args.shape.t in
    let f = g.F.Field.arith in
    let s = shaped c.args.shape in
    let m = g.R.Rack.model c.args.rack.now in
    let len = length c.args.buffer.now in
    let past : q * (t - 1) * q ^ t < c.args.start + len = elim c.then-start-limit.branch [
      | then-start-limit-via-then-start-limit w ↦ omega (arith, c.message_words-limit.ensures, w.if-start-limit.true)
      | then-start-limit-via-else-start-limit+then-len-limit w ↦ omega (arith, c.message_words-limit.ensures, w.if-start-limit.false, w.if-len-limit.true)
    ] in
    let refused = read_refused f g.met.F.Field.lawful q t s m c.args.start c.args.buffer.now NoSuchPlace (read_nowhere q t c.args.start len m c.in_ok-fits.ensures past) in
    record { call = refused.0; history = refused.1; stays = g.met.R.Rack.keeping.same c.args.rack.now }

pub returns-then-not-all_stand : goal.returns-then-not-all_stand
returns-then-not-all_stand g c =
    let q = c.args.shape.q in
    let t = c.args.shape.t in
    let f = g.F.Field.arith in
    let s = shaped c.args.shape in
    let m = g.R.Rack.model c.args.rack.now in
    let len = length c.args.buffer.now in
    let inside : c.args.start + len ≤ q * (t - 1) * q ^ t = omega (arith, c.message_words-limit.ensures) in
    let refused = read_refused f g.met.F.Field.lawful q t s m c.args.start c.args.buffer.now NodeOut (read_finds_out q t c.args.start len m c.in_ok-fits.ensures inside (sym c.all_stand.ensures ∙ c.if-not-all_stand.true)) in
    record {
      call = subst (λ r. Read q t m c.args.start c.args.buffer.now (Err NodeOut) (g.R.Rack.model r) c.args.buffer.now) (search rules) refused.0;
      history = refused.1;
      stays = subst (λ r. g.R.Rack.kept c.args.rack.now r) (search rules) (g.met.R.Rack.keeping.same c.args.rack.now);
    }

pub returns : goal.returns
returns g c =
    let q = c.args.shape.q in
    let t = c.args.shape.t in
    let f = g.F.Field.arith in
    let s = shaped c.args.shape in
    let m = g.R.Rack.model c.args.rack.now in
    let len = length c.args.buffer.now in
    let m1 = g.R.Rack.model c.read_words.new.self.rack.now in
    let inside : c.args.start + len ≤ q * (t - 1) * q ^ t = omega (arith, c.message_words-limit.ensures) in
    let done = has_read f g.met.F.Field.lawful q t s m c.args.start c.args.buffer.now (Ok (answer 0 len)) m1 c.read_words.new.buffer (
      read_passes q t c.args.start len m c.in_ok-fits.ensures inside (sym c.all_stand.ensures ∙ c.if-not-all_stand.false),
      refl,
      read_now q t c.args.start len m m1 c.read_words.ensures.after,
      c.read_words.auto.buffer,
      c.read_words.ensures.words,
    ) in
    record {
      call = subst (λ r. Read q t m c.args.start c.args.buffer.now (Ok (answer 0 len)) (g.R.Rack.model r) c.read_words.new.buffer) (search rules) done.0;
      history = done.1;
      stays = subst (λ r. g.R.Rack.kept c.args.rack.now r) (search rules) c.read_words.ensures.stays.stays;
    }
