use Rattle.std.proofs.Common.{◌≡◌, ◌-◌, ◌*◌, ◌^◌, ◌<◌, ◌≤◌, false, length, drop, Some, Ok, Err, refl, sym, ap, ◌∙◌, subst, rules, ap₂, mul-le-mul, arith}
use Rattle.code.specs.Code.{laid, helps}
use Rattle.rack.specs.Filled.{filled}
use Rattle.refusal.specs.declared.reason.Refusal.TheVariants.{NoSuchPlace, NodeStands, AnotherOut}
use Rattle.shape.specs.Listing.{outages}
use Rattle.shape.proofs.Bounds.{shaped, weight_bound, places_positive}
use Rattle.std.proofs.lemmas.Result.{err_from_is_err_and}
use Rattle.std.proofs.lemmas.Bool.{ltb-false}
use Rattle.vault_calls.specs.Calls.{answer, out_count, drew, NotRepaired, Repair}
use Rattle.vault_calls.specs.History.{RepairPromise}
use Rattle.vault_calls.proofs.Carrying.{gathered_rest, space_drew, space_same}
use Rattle.vault_calls.proofs.Promised.{repaired, repair_refused}
use Rattle.vault_calls.proofs.Recovering.{out_length}
use Rattle.vault_calls.proofs.Repairing.{flag_sized, repair_size, repair_short, repair_nowhere, repair_stands, repair_none, repair_another, rebuild_bad, rebuild_good, help_drawn, same_help, same_refill, repaired_now, rest_others}
use Rattle.vault_calls.proofs.Tallies.{small_product}
use Rattle.vault_calls.proofs.coding.repair.Goals as goal

pub overflow_sub-result : goal.overflow_sub-result
overflow_sub-result g c = let least = mul-le-mul c.args.shape.wide c.args.shape.deep in omega (arith, c.nodes-2.ensures)

pub overflow_mul-result : goal.overflow_mul-result
overflow_mul-result g c =
    small_product _ _ (omega (arith, c.nodes-2.ensures, c.args.shape.few))
    (omega (arith, c.helper_places.ensures, weight_bound (shaped c.args.shape) (c.args.shape.t - 1) (omega arith)))

pub draw-requires : goal.draw-requires
draw-requires g c =
    let used = c.args.shape.q * c.args.shape.t * c.args.shape.q ^ c.args.shape.t in
    record { selects = (helps c.args.shape.q c.args.node, (search rules)); room = ltb-false (length c.args.space.now) used c.in_ok-roomy.ensures }

pub write_node-requires : goal.write_node-requires
write_node-requires g c =
    let same = sym c.draw.ensures.stays.same_shape in
    let used = c.args.shape.q * c.args.shape.t * c.args.shape.q ^ c.args.shape.t in
    record {
      node = subst (λ s. c.args.node < s.q * s.t) same (omega (arith, c.nodes.ensures));
      room = subst (λ s. s.q * s.t * s.q ^ s.t ≤ length c.rebuild.new.words) same (omega (arith, ltb-false (length c.args.space.now) used c.in_ok-roomy.ensures, c.draw.auto.space, c.rebuild.auto.words));
    }

pub returns-in_err-fits : goal.returns-in_err-fits
returns-in_err-fits g c =
    let p = err_from_is_err_and c.from_residual.result c.from_residual.ensures.1 in
    let q = c.args.shape.q in
    let t = c.args.shape.t in
    let f = g.F.Field.arith in
    let s = shaped c.args.shape in
    let m = g.R.Rack.model c.args.rack.now in
    let e = c.in_err-fits.field-0.0 in
    let told = c.in_err-fits.ensures in
    let refused = repair_refused f g.met.F.Field.lawful q t s m c.args.node (length c.args.space.now) e (repair_size f q t m c.args.node (length c.args.space.now) told.0 ∙ ap Some (sym told.1)) in
    rw (p.1, p.2)
    (record { call = refused.0; history = refused.1; space = space_same (q * t * q ^ t) e c.args.space.now; stays = g.met.R.Rack.keeping.same c.args.rack.now })

pub returns-in_err-roomy : goal.returns-in_err-roomy
returns-in_err-roomy g c =
    let p = err_from_is_err_and c.from_residual-in_err-roomy.result c.from_residual-in_err-roomy.ensures.1 in
    let q = c.args.shape.q in
    let t = c.args.shape.t in
    let f = g.F.Field.arith in
    let s = shaped c.args.shape in
    let m = g.R.Rack.model c.args.rack.now in
    let e = c.in_err-roomy.field-0.0 in
    let told = c.in_err-roomy.ensures in
    let refused = repair_refused f g.met.F.Field.lawful q t s m c.args.node (length c.args.space.now) e (repair_short f q t m c.args.node (length c.args.space.now) c.in_ok-fits.ensures told.0 ∙ ap Some (sym told.1)) in
    rw (p.1, p.2)
    (record { call = refused.0; history = refused.1; space = space_same (q * t * q ^ t) e c.args.space.now; stays = g.met.R.Rack.keeping.same c.args.rack.now })

pub returns-then-node-nodes : goal.returns-then-node-nodes
returns-then-node-nodes g c =
    let q = c.args.shape.q in
    let t = c.args.shape.t in
    let f = g.F.Field.arith in
    let s = shaped c.args.shape in
    let m = g.R.Rack.model c.args.rack.now in
    let refused = repair_refused f g.met.F.Field.lawful q t s m c.args.node (length c.args.space.now) NoSuchPlace
    (repair_nowhere f q t m c.args.node (length c.args.space.now) c.in_ok-fits.ensures c.in_ok-roomy.ensures (omega (arith, c.nodes.ensures, c.if-node-nodes.true))) in
    record { call = refused.0; history = refused.1; space = refl; stays = g.met.R.Rack.keeping.same c.args.rack.now }

pub returns-then-stands : goal.returns-then-stands
returns-then-stands g c =
    let q = c.args.shape.q in
    let t = c.args.shape.t in
    let f = g.F.Field.arith in
    let s = shaped c.args.shape in
    let m = g.R.Rack.model c.args.rack.now in
    let refused = repair_refused f g.met.F.Field.lawful q t s m c.args.node (length c.args.space.now) NodeStands
    (repair_stands f q t m c.args.node (length c.args.space.now) c.in_ok-fits.ensures c.in_ok-roomy.ensures (omega (arith, c.nodes.ensures, c.if-node-nodes.false)) c.if-stands.ensures) in
    record { call = refused.0; history = refused.1; space = refl; stays = g.met.R.Rack.keeping.same c.args.rack.now }

pub returns-then-len-gt1 : goal.returns-then-len-gt1
returns-then-len-gt1 g c =
    let q = c.args.shape.q in
    let t = c.args.shape.t in
    let f = g.F.Field.arith in
    let s = shaped c.args.shape in
    let m = g.R.Rack.model c.args.rack.now in
    let i = c.args.node in
    let sized = c.in_ok-fits.ensures in
    let li : i < q * t = omega (arith, c.nodes.ensures) in
    let out : m.flags i ≡ false = flag_sized q t m i false sized li c.if-stands.ensures in
    let many : 1 < out_count q t m = omega (arith, c.if-len-gt1.true, c.len.ensures, out_length q t m (outages c.outages.result) sized c.outages.ensures.list) in
    let refused = repair_refused f g.met.F.Field.lawful q t s m i (length c.args.space.now) AnotherOut (repair_another f q t m i (length c.args.space.now) sized c.in_ok-roomy.ensures li out many) in
    record { call = refused.0; history = refused.1; space = refl; stays = g.met.R.Rack.keeping.same c.args.rack.now }

pub returns-in_err-rebuild : goal.returns-in_err-rebuild
returns-in_err-rebuild g c =
    let p = err_from_is_err_and c.from_residual-in_err-rebuild.result c.from_residual-in_err-rebuild.ensures.1 in
    let q = c.args.shape.q in
    let t = c.args.shape.t in
    let f = g.F.Field.arith in
    let s = shaped c.args.shape in
    let m = g.R.Rack.model c.args.rack.now in
    let m1 = g.R.Rack.model c.draw.new.self.rack.now in
    let i = c.args.node in
    let s0 = c.args.space.now in
    let s1 = c.draw.new.space in
    let e = c.in_err-rebuild.field-0.0 in
    let sized = c.in_ok-fits.ensures in
    let li : i < q * t = omega (arith, c.nodes.ensures) in
    let out : m.flags i ≡ false = flag_sized q t m i false sized li c.if-stands.ensures in
    let few : out_count q t m ≤ 1 = omega (arith, c.if-len-gt1.false, c.len.ensures, out_length q t m (outages c.outages.result) sized c.outages.ensures.list) in
    let room : q * t * q ^ t ≤ length s1 = omega (arith, ltb-false (length s0) (q * t * q ^ t) c.in_ok-roomy.ensures, c.draw.auto.space) in
    let all-drawn = c.draw.ensures.after (helps q i) (search rules) in
    let gathered = c.draw.ensures.space (helps q i) (search rules) in
    let rebuilt = c.in_err-rebuild.ensures.rebuilt in
    let bad = rebuild_bad f q t i s1 room li e rebuilt.0 in
    let done = repaired f g.met.F.Field.lawful q t s m i (length s0) (Err e) m1
    (subst (λ o. NotRepaired f q t m i e m1 o) (sym (repair_none f q t m i (length s0) sized c.in_ok-roomy.ensures li out few))
    (bad.0, sym (same_help f q t s i li m m1 s0 s1 sized out few all-drawn gathered) ∙ bad.1, help_drawn f q t s i li m m1 s0 s1 sized out few all-drawn gathered)) in
    rw (p.1, p.2)
    (record {
      call = subst (λ r. Repair f q t m i (length s0) (Err e) (g.R.Rack.model r)) (search rules) done.0;
      history = subst (λ r. RepairPromise f q t m i (length s0) (Err e) (g.R.Rack.model r)) (search rules) done.1;
      space =
          space_drew (q * t * q ^ t) e s0 c.rebuild.new.words (ap drew bad.0)
          (ap (λ x. drop (q * t * q ^ t) x) rebuilt.1 ∙ gathered_rest (q * t) (q ^ t) m.flags (helps q i) m.words s0 s1 (places_positive s) c.draw.auto.space gathered);
      stays = subst (λ r. g.R.Rack.kept c.args.rack.now r) (search rules) c.draw.ensures.stays.stays;
    })

pub returns : goal.returns
returns g c =
    let q = c.args.shape.q in
    let t = c.args.shape.t in
    let f = g.F.Field.arith in
    let s = shaped c.args.shape in
    let m = g.R.Rack.model c.args.rack.now in
    let m1 = g.R.Rack.model c.draw.new.self.rack.now in
    let m2 = g.R.Rack.model c.write_node.new.self.rack.now in
    let i = c.args.node in
    let s0 = c.args.space.now in
    let s1 = c.draw.new.space in
    let s2 = c.rebuild.new.words in
    let sized = c.in_ok-fits.ensures in
    let li : i < q * t = omega (arith, c.nodes.ensures) in
    let out : m.flags i ≡ false = flag_sized q t m i false sized li c.if-stands.ensures in
    let few : out_count q t m ≤ 1 = omega (arith, c.if-len-gt1.false, c.len.ensures, out_length q t m (outages c.outages.result) sized c.outages.ensures.list) in
    let room : q * t * q ^ t ≤ length s1 = omega (arith, ltb-false (length s0) (q * t * q ^ t) c.in_ok-roomy.ensures, c.draw.auto.space) in
    let all-drawn = c.draw.ensures.after (helps q i) (search rules) in
    let gathered = c.draw.ensures.space (helps q i) (search rules) in
    let wrote = c.write_node.ensures.after ∙ ap (λ x. filled m1 i (laid (x.q ^ x.t) s2 i)) c.draw.ensures.stays.same_shape in
    let rebuilt = c.in_ok-rebuild.ensures.rebuilt in
    let a = answer 1 ((c.nodes-2.result - 1) * c.helper_places.result) in
    let done = repaired f g.met.F.Field.lawful q t s m i (length s0) (Ok a) m2 (
      repair_none f q t m i (length s0) sized c.in_ok-roomy.ensures li out few,
      sym (same_help f q t s i li m m1 s0 s1 sized out few all-drawn gathered) ∙ rebuild_good f q t i s1 room li rebuilt.0,
      ap (λ n. answer 1 n) (ap₂ (λ x y. (x - 1) * y) c.nodes-2.ensures c.helper_places.ensures),
      (
        laid (q ^ t) s2 i,
        (
          same_refill f q t s i li m m1 s0 s1 sized out few all-drawn gathered (laid (q ^ t) s2 i) rebuilt.1,
          repaired_now f q t s i li m m1 s0 s1 sized out few all-drawn gathered (laid (q ^ t) s2 i) m2 wrote,
        ),
      ),
    ) in
    record {
      call = subst (λ r. Repair f q t m i (length s0) (Ok a) (g.R.Rack.model r)) (search rules) done.0;
      history = subst (λ r. RepairPromise f q t m i (length s0) (Ok a) (g.R.Rack.model r)) (search rules) done.1;
      space =
          rest_others q t i s1 s2 li c.rebuild.auto.words rebuilt.2
          ∙ gathered_rest (q * t) (q ^ t) m.flags (helps q i) m.words s0 s1 (places_positive s) c.draw.auto.space gathered;
      stays = subst (λ r. g.R.Rack.kept c.args.rack.now r) (search rules) (g.met.R.Rack.keeping.joined _ _ _ c.draw.ensures.stays.stays c.write_node.ensures.stays.stays);
    }
