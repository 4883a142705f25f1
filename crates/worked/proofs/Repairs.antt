-- A repair of one node of a codeword. Assumes nothing.
use Rattle.std.proofs.Common.{◌≡◌, ℕ, ◌-◌, ◌*◌, ◌^◌, Bool, true, false, not, eqb, List, [], ◌∷◌, length, get_or, Ok, Err, Result, refl, ap, ◌∙◌, subst, arith}
use Rattle.code.specs.Calls.{good_help}
use Rattle.code.specs.Code.{Words, SameHelp}
use Rattle.field.specs.Field.{Arith, Laws}
use Rattle.rack.specs.Model.{Model, risen}
use Rattle.rack.proofs.Models.{changed_same}
use Rattle.refusal.specs.declared.reason.Refusal.{Refusal}
use Rattle.shape.specs.Outages.{count, among}
use Rattle.shape.proofs.Among.{among_first, among_rest}
use Rattle.shape.proofs.Counts.{count_same}
use Rattle.shape.proofs.Every.{every_at}
use Rattle.std.proofs.lemmas.Bool.{both_ways, cond-true, cond-false, eqb-true, eq-eqb, ne_eqb, ltb-true}
use Rattle.vault_calls.specs.Calls.{short, out_count, answer, NotRepaired, Repair}
use Rattle.vault_calls.specs.declared.answer.Answer.{Answer}
use Rattle.vault_calls.proofs.Codewords.{only_help}
use Rattle.vault_calls.proofs.Invariant.{refilled}
use Rattle.vault_calls.proofs.Repairing.{help_too, repair_none}
use Rattle.worked.specs.Racks.{Holding, Repaired}
use Rattle.worked.proofs.Codewords.{shape_of, codeword_of}
use Rattle.worked.proofs.Tests.{all, passed, repairs_tests}

-- what is not among the nodes that are out stands
pub not_not : (b : Bool) → not (not b) ≡ b
not_not true = refl
not_not false = refl

module _ {E : Type 0} (f : Arith E) (q t : ℕ) (w : Words) (m : Model) where
  -- as many nodes are out as the list has
  pub outs : (out : List ℕ) → Holding q t w out m → out_count q t m ≡ count (among out) (q * t)
  outs out held = count_same (λ j. not (m.flags j)) (among out) (q * t) (λ j lj. ap not (held.flags j lj) ∙ not_not (among out j))

  module _ (i : ℕ) (held : Holding q t w (i ∷ []) m) where
    other : (j : ℕ) → (j ≡ i → ⊥) → among (i ∷ []) j ≡ false
    other j ne = among_rest i [] j ne

    -- its helper words are the codeword's
    alike : SameHelp f q t i m.words w
    alike j p lj lp h ne = held.words j p lj lp (other j ne)

module _ {E : Type 0} (f : Arith E) (laws : Laws f) (q t : ℕ) (w : Words) (i : ℕ) (places : List ℕ) (drawn : ℕ) (refill : List ℕ) (e : all (repairs_tests f q t w i places drawn refill) ≡ true) where
  pub repairs_from : (m : Model) (space : ℕ) (r : Result Answer Refusal) (m' : Model) → Holding q t w (i ∷ []) m → short q t space ≡ false → Repair f q t m i space r m'
      → Repaired q t m i places drawn refill r m'
  repairs_from m space (Ok a) m' held room s =
      let h = passed (repairs_tests f q t w i places drawn refill) e in
      let li = ltb-true i (q * t) h.1.0 in
      let rise : q ^ (t - 1) ≡ length places = eqb-true (q ^ (t - 1)) (length places) h.1.1.1.1.0 in
      let sum : (q * t - 1) * q ^ (t - 1) ≡ drawn = eqb-true ((q * t - 1) * q ^ (t - 1)) drawn h.1.1.1.1.1.0 in
      let c = s.3.0 in
      let now = s.3.1.1 in
      let cw = codeword_of f laws q t w h.0 in
      record {
        accepted = ap Ok (s.2 ∙ ap (answer 1) sum);
        stands = now.has_flags i li ∙ changed_same m.flags i true;
        refilled = λ p lp.
            now.has_words i p li lp ∙ ap (λ (g : ℕ → ℕ). g p) (changed_same m.words i c)
            ∙ refilled f q t (only_help f laws q t (shape_of f laws q t w h.0)) m i c w li s.3.1.0 cw (λ j p lj ne lp x. alike f q t w m i held j p lj lp x ne) p lp
            ∙ eqb-true (w i p) (get_or refill p 0) (every_at (λ p. eqb (w i p) (get_or refill p 0)) (q ^ t) h.1.1.1.1.1.1.0 p lp);
        others_rise = λ j lj ne.
            now.has_meters j lj ∙ cond-false (eqb j i) (m.meters j) (risen (m.meters j) (q ^ (t - 1))) (ne_eqb j i ne) ∙ ap (risen (m.meters j)) rise;
        own_stays = now.has_meters i li ∙ cond-true (eqb i i) (m.meters i) (risen (m.meters i) (q ^ (t - 1))) (eq-eqb i i refl);
      }
  repairs_from m space (Err x) m' held room s =
      let h = passed (repairs_tests f q t w i places drawn refill) e in
      let li = ltb-true i (q * t) h.1.0 in
      let one = outs f q t w m (i ∷ []) held ∙ eqb-true (count (among (i ∷ [])) (q * t)) 1 h.1.1.0 in
      let down : m.flags i ≡ false = held.flags i li ∙ ap not (among_first i [] i refl) in
      let u = subst (λ o. NotRepaired f q t m i x m' o) (repair_none f q t m i space held.sized room li down (omega arith)) s in
      absurd (both_ways (good_help f q t m.words i) u.1 (help_too f q t i m.words w (alike f q t w m i held) ∙ h.1.1.1.1.1.1.1.0))
