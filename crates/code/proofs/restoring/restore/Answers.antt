use Rattle.std.proofs.Common.{◌≡◌, ◌*◌, ◌^◌, List, length, ℕ, Ok, Err, true, false, sym, ◌∙◌, subst, ap₂, ⊎_elim, arith, rules}
use Rattle.refusal.specs.declared.reason.Refusal.TheVariants.{BadWord, NoCodeword}
use Rattle.std.proofs.lemmas.Bool.{both_ways, cases_Bool}
use Rattle.shape.specs.Listing.{outages}
use Rattle.shape.specs.Outages.{among, rising}
use Rattle.shape.specs.declared.dimensions.Shape.{Shape}
use Rattle.shape.proofs.Bounds.{shaped}
use Rattle.code.specs.Calls.{Restored, first_codes, good_standing, standing}
use Rattle.code.specs.Arrays.{words_in}
use Rattle.code.specs.Code.{laid}
use Rattle.code.specs.Steps.{Cleared}
use Rattle.code.specs.declared.array.ArrayMut.{ArrayMut}
use Rattle.code.proofs.Codes.{codes_at, codes_from}
use Rattle.code.proofs.Stays.{sound_at, checks_at, agree_at, told_at}
use Rattle.code.proofs.Restoration.{good_codes, codes_good, only_agrees, none_agrees, refusal_none, refused_bad, refused_none}
use Rattle.code.proofs.Main.{only_one_stands}
use Rattle.code.proofs.restoring.restore.Goals as goal

pub returns-then-words-clause-only_one : goal.returns-then-words-clause-only_one
returns-then-words-clause-only_one g c = only_one_stands g.F.Field.arith g.met.F.Field.lawful

pub returns-then-nodes-clause-only_one : goal.returns-then-nodes-clause-only_one
returns-then-nodes-clause-only_one g c = only_one_stands g.F.Field.arith g.met.F.Field.lawful

pub returns-then-len-rows-clause-only_one : goal.returns-then-len-rows-clause-only_one
returns-then-len-rows-clause-only_one g c = only_one_stands g.F.Field.arith g.met.F.Field.lawful

-- what holds of the array's words holds of the caller's
of_last : (P : List ℕ → Type 0) (last : List ℕ) {us : List ℕ} → us ≡ last → P last → P us
of_last P last e h = subst P (sym e) h

-- what clear leaves, at the shape that the array had
cleared_at : {F : Type 0} (s : Shape) (nodes ws : List ℕ) (a : ArrayMut F) → a.shape ≡ s → Cleared (s.q ^ s.t) (among nodes) (s.q * s.t) (laid (s.q ^ s.t) ws) (words_in a)
    → Cleared (s.q ^ s.t) (among nodes) (s.q * s.t) (laid (s.q ^ s.t) ws) (laid (s.q ^ s.t) a.words.now)
cleared_at s nodes ws a e h = subst (λ (z : Shape). Cleared (s.q ^ s.t) (among nodes) (s.q * s.t) (laid (s.q ^ s.t) ws) (laid (z.q ^ z.t) a.words.now)) e h

pub returns-then-not-all_codes : goal.returns-then-not-all_codes
returns-then-not-all_codes g c =
    let f = g.F.Field.arith in
    let laws = g.met.F.Field.lawful in
    let s = c.args.shape in
    let o = c.args.out.now in
    let ws = c.args.words.now in
    let cs = c.clear.new.self.words.now in
    let used = s.q * s.t * s.q ^ s.t in
    let n : o.count ≡ s.q * s.t = sym c.nodes.ensures ∙ c.if-nodes.false ∙ c.nodes-2.ensures in
    let v = c.view.ensures in
    let same : c.view.result.shape ≡ s = v.shape ∙ c.clear.ensures.stays.same_shape in
    let cleared = cleared_at s (outages o) ws c.clear.new.self c.clear.ensures.stays.same_shape c.clear.ensures.cleared in
    let bad : first_codes f cs used ≡ false = ap₂ (λ us (z : Shape). first_codes f us (z.q * z.t * z.q ^ z.t)) (sym v.words) (sym same) ∙ sym c.if-not-all_codes.ensures in
    let good = good_standing f s.q s.t (standing (outages o)) (laid (s.q ^ s.t) ws) in
    let back = sym c.clear.ensures.stays.same_words in
    record {
      restored = of_last (λ us. Restored f s.q s.t {X = Unit {0}} o.count (outages o) ws (Err BadWord) us) cs (search rules)
          (refused_bad f s.q s.t (outages o) ws cs o.count (refusal_none f s.q s.t o.count (outages o) ws (omega arith) n (omega arith))
          (⊎_elim (λ e. absurd (both_ways (first_codes f cs used) bad (codes_from f cs used (good_codes f laws (shaped s) (outages o) ws cs cleared e)))) (λ e. e) (cases_Bool good))
          c.clear.ensures.stays.sound.0);
      only_one = only_one_stands f laws;
    }

pub returns-then-planes_hold : goal.returns-then-planes_hold
returns-then-planes_hold g c =
    let f = g.F.Field.arith in
    let laws = g.met.F.Field.lawful in
    let s = c.args.shape in
    let o = c.args.out.now in
    let ws = c.args.words.now in
    let a = c.clear.new.self in
    let b = c.fill.new.self in
    let cs = a.words.now in
    let used = s.q * s.t * s.q ^ s.t in
    let n : o.count ≡ s.q * s.t = sym c.nodes.ensures ∙ c.if-nodes.false ∙ c.nodes-2.ensures in
    let rises : rising (s.q * s.t) (outages o) ≡ true = subst (λ k. rising k (outages o) ≡ true) n o.rises in
    let at : a.shape ≡ s = c.clear.ensures.stays.same_shape in
    let stays = c.fill.ensures.stays in
    let v = c.view.ensures in
    let cleared = cleared_at s (outages o) ws a at c.clear.ensures.cleared in
    let all : first_codes f cs used ≡ true = ap₂ (λ us (z : Shape). first_codes f us (z.q * z.t * z.q ^ z.t)) (sym v.words) (sym (v.shape ∙ at)) ∙ sym c.if-not-all_codes.ensures in
    let codes = codes_at f cs used all in
    let sound = sound_at f s a b at stays in
    let checks = checks_at f s a b at stays (length (outages o)) c.fill.ensures.checks in
    let kept = agree_at f s a b at stays (among (outages o)) c.fill.ensures.kept in
    let u = c.view-2.ensures in
    let told = told_at f c.view-2.result b s true u.shape u.words (stays.same_shape ∙ at) c.if-planes_hold.ensures in
    let rest = sound.0 ∙ c.clear.ensures.stays.sound.0 in
    let back = sym (stays.same_words ∙ c.clear.ensures.stays.same_words) in
    let refusal = refusal_none f s.q s.t o.count (outages o) ws (omega arith) n (omega arith) in
    record {
      restored = of_last (λ us. Restored f s.q s.t {X = Unit {0}} o.count (outages o) ws (Ok tt) us) b.words.now (search rules) (
        refusal,
        only_agrees f laws (shaped s) (outages o) ws cs cleared b.words.now rises (omega arith) codes sound checks kept told,
        rest,
      );
      only_one = only_one_stands f laws;
    }

pub returns-else-planes_hold : goal.returns-else-planes_hold
returns-else-planes_hold g c =
    let f = g.F.Field.arith in
    let laws = g.met.F.Field.lawful in
    let s = c.args.shape in
    let o = c.args.out.now in
    let ws = c.args.words.now in
    let a = c.clear.new.self in
    let b = c.fill.new.self in
    let cs = a.words.now in
    let used = s.q * s.t * s.q ^ s.t in
    let n : o.count ≡ s.q * s.t = sym c.nodes.ensures ∙ c.if-nodes.false ∙ c.nodes-2.ensures in
    let rises : rising (s.q * s.t) (outages o) ≡ true = subst (λ k. rising k (outages o) ≡ true) n o.rises in
    let at : a.shape ≡ s = c.clear.ensures.stays.same_shape in
    let stays = c.fill.ensures.stays in
    let v = c.view.ensures in
    let cleared = cleared_at s (outages o) ws a at c.clear.ensures.cleared in
    let all : first_codes f cs used ≡ true = ap₂ (λ us (z : Shape). first_codes f us (z.q * z.t * z.q ^ z.t)) (sym v.words) (sym (v.shape ∙ at)) ∙ sym c.if-not-all_codes.ensures in
    let codes = codes_at f cs used all in
    let sound = sound_at f s a b at stays in
    let checks = checks_at f s a b at stays (length (outages o)) c.fill.ensures.checks in
    let kept = agree_at f s a b at stays (among (outages o)) c.fill.ensures.kept in
    let u = c.view-2.ensures in
    let told = told_at f c.view-2.result b s false u.shape u.words (stays.same_shape ∙ at) c.if-planes_hold.ensures in
    let rest = sound.0 ∙ c.clear.ensures.stays.sound.0 in
    let back = sym (stays.same_words ∙ c.clear.ensures.stays.same_words) in
    let refusal = refusal_none f s.q s.t o.count (outages o) ws (omega arith) n (omega arith) in
    record {
      restored = of_last (λ us. Restored f s.q s.t {X = Unit {0}} o.count (outages o) ws (Err NoCodeword) us) b.words.now (search rules)
          (refused_none f s.q s.t (outages o) ws b.words.now o.count refusal (codes_good f laws (shaped s) (outages o) ws cs cleared codes)
          (none_agrees f laws (shaped s) (outages o) ws cs cleared b.words.now rises (omega arith) codes sound checks kept told) rest);
      only_one = only_one_stands f laws;
    }
