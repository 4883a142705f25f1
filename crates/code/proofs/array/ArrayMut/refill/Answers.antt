use Rattle.std.proofs.Common.{◌≡◌, ◌+◌, ◌*◌, ◌<◌, true, sym, ◌∙◌, subst, arith}
use Rattle.std.proofs.lemmas.Bool.{both_ways, eq-eqb}
use Rattle.shape.specs.Layout.{column, companion_place, helps}
use Rattle.shape.specs.Listing.{outages}
use Rattle.shape.specs.Outages.{among, rising}
use Rattle.shape.proofs.Bounds.{shaped, rows_positive}
use Rattle.shape.proofs.Digits.{column_bound}
use Rattle.shape.specs.declared.dimensions.Shape.{Shape}
use Rattle.code.specs.Arrays.{Stays}
use Rattle.code.specs.Steps.{Run, RefilledWhere, PlaneRefilled}
use Rattle.code.specs.declared.array.ArrayMut.{ArrayMut}
use Rattle.code.proofs.Places.{column_within}
use Rattle.code.proofs.Refilling.{planes_skip, planes_more, planes_all}
use Rattle.code.proofs.Stays.{stays_both}
use Rattle.code.proofs.array.ArrayMut.refill.Goals as goal
use Rattle.code.proofs.array.ArrayMut.refill.Goals.{then-helps, else-helps}

pub overflow_mul-column : goal.overflow_mul-column
overflow_mul-column g c =
    let s = c.args.self.now.shape in
    let y = column s.q c.args.node in
    let w = column_within s.q s.t y (column_bound s.q (rows_positive (shaped s)) c.args.node s.t c.requires) in
    let e : c.column.result * c.rows.result ≡ y * s.q = cc in
    let f = s.few in
    omega arith

pub span-column-requires : goal.span-column-requires
span-column-requires g c =
    let s = c.args.self.now.shape in
    let y = column s.q c.args.node in
    let w = column_within s.q s.t y (column_bound s.q (rows_positive (shaped s)) c.args.node s.t c.requires) in
    let e : c.column.result * c.rows.result ≡ y * s.q = cc in
    omega arith

pub loop-plane-preserved : goal.loop-plane-preserved
loop-plane-preserved g c =
    let f = g.F.Field.arith in
    let laws = g.met.F.Field.lawful in
    let before = c.args.self.now in
    let now = c.loop-plane.self in
    let s = before.shape in
    let i = c.args.node in
    let nodes = outages c.span-column.result in
    let S = among nodes in
    let e : c.column.result * c.rows.result ≡ column s.q i * s.q = cc in
    let run = subst (λ first. Run first nodes s.q) e c.span-column.ensures.nodes in
    let p = c.loop-plane.plane in
    let inv = c.loop-plane.invariant in
    let same : now.shape ≡ s = inv.stays.same_shape in
    let G : ArrayMut g.row.F.Denot → Type 0 = λ a. record { filled : RefilledWhere f s.q s.t S i (λ r. companion_place s.q i r < p + 1) before.words.now a.words.now; stays : Stays f before a } in
    elim c.if-helps.branch [
      | then-helps w ↦ subst G (sym w.self-is) (record {
        filled = planes_more f laws (shaped s) i c.requires nodes run p before.words.now now.words.now w.refill_from.new.self.words.now inv.filled
            (subst (λ (z : Shape). PlaneRefilled f z.q z.t S i p z.q now.words.now w.refill_from.new.self.words.now) same w.refill_from.ensures.refilled);
        stays = stays_both f before now w.refill_from.new.self inv.stays w.refill_from.ensures.stays;
      })
      | else-helps w ↦ subst G (sym w.self-is) (record {
        filled = planes_skip f laws (shaped s) i c.requires nodes run p before.words.now now.words.now
            (λ h. both_ways c.helps.result w.if-helps.false (subst (λ (z : Shape). c.helps.result ≡ helps z.q i p) same c.helps.ensures ∙ eq-eqb _ _ h)) inv.filled;
        stays = inv.stays;
      })
    ]

pub returns-clause-refilled : goal.returns-clause-refilled
returns-clause-refilled g c =
    let s = c.args.self.now.shape in
    let o = c.span-column.result in
    let e : c.column.result * c.rows.result ≡ column s.q c.args.node * s.q = cc in
    let run = subst (λ first. Run first (outages o) s.q) e c.span-column.ensures.nodes in
    record {
      nodes = outages o;
      rises = subst (λ k. rising k (outages o) ≡ true) c.span-column.ensures.count o.rises;
      run = run;
      filled = planes_all g.F.Field.arith g.met.F.Field.lawful (shaped s) c.args.node c.requires (outages o) run c.loop-plane.plane c.args.self.now.words.now c.loop-plane.self.words.now (omega arith) c.loop-plane.invariant.filled;
    }
