use Rattle.std.proofs.Common.{◌≡◌, ◌*◌, ◌^◌, true, length, subst, arith}
use Rattle.shape.specs.Listing.{outages}
use Rattle.shape.specs.Outages.{among, rising}
use Rattle.shape.specs.declared.dimensions.Shape.{Shape}
use Rattle.shape.proofs.Bounds.{shaped}
use Rattle.shape.proofs.Rising.{rising_count}
use Rattle.code.specs.Arrays.{symbols_in}
use Rattle.code.specs.Steps.{ScoreSolved, ScoreTurned}
use Rattle.code.specs.declared.array.ArrayMut.{ArrayMut}
use Rattle.code.proofs.Filled.{filled_more, filled_all}
use Rattle.code.proofs.Stays.{stays_both}
use Rattle.code.proofs.array.ArrayMut.fill.Goals as goal

pub loop-level-preserved : goal.loop-level-preserved
loop-level-preserved g c =
    let f = g.F.Field.arith in
    let laws = g.met.F.Field.lawful in
    let before = c.args.self.now in
    let now = c.loop-level.self in
    let solved = c.solve_score.new.self in
    let turned = c.turn_score.new.self in
    let s = before.shape in
    let o = c.args.out.now in
    let S = among (outages o) in
    let inv = c.loop-level.invariant in
    let A = λ (a : ArrayMut g.row.F.Denot). symbols_in f a in
    let rises : rising (s.q * s.t) (outages o) ≡ true = subst (λ n. rising n (outages o) ≡ true) c.requires o.rises in
    let n = rising_count (s.q * s.t) (outages o) rises in
    let once = stays_both f before now solved inv.stays c.solve_score.ensures.stays in
    record {
      filled = filled_more f laws (shaped s) S (length (outages o)) c.loop-level.level (A now) (A solved) (A turned)
          (subst (λ (z : Shape). ScoreSolved f z.q z.t S c.loop-level.level (z.q ^ z.t) (A now) (A solved)) inv.stays.same_shape c.solve_score.ensures.solved)
          (subst (λ (z : Shape). ScoreTurned f z.q z.t S c.loop-level.level (z.q * z.t) (A solved) (A turned)) once.same_shape c.turn_score.ensures.turned)
          (A before) (omega arith) inv.filled;
      stays = stays_both f before solved turned once c.turn_score.ensures.stays;
    }

pub returns-clause-checks : goal.returns-clause-checks
returns-clause-checks g c =
    let f = g.F.Field.arith in
    let inv = c.loop-level.invariant in
    let h = filled_all f g.met.F.Field.lawful (shaped c.args.self.now.shape) (among (outages c.args.out.now)) _ c.loop-level.level (symbols_in f c.args.self.now) (symbols_in f c.loop-level.self) (omega arith) inv.filled in
    h
