-- A recover that finds an altered word. Assumes nothing.
use Rattle.std.proofs.Common.{◌≡◌, ℕ, ◌*◌, ◌^◌, ◌<◌, true, false, cond, eqb, ltb, List, Ok, Err, Result, sym, refl, ap, ◌∙◌, subst, arith}
use Rattle.code.specs.Calls.{good_standing}
use Rattle.code.specs.Code.{Words, Agrees}
use Rattle.field.specs.Field.{Arith, Laws}
use Rattle.rack.specs.Model.{Model, changed}
use Rattle.rack.proofs.Models.{changed_same, changed_other}
use Rattle.refusal.specs.declared.reason.Refusal.{Refusal}
use Rattle.refusal.specs.Numbers.{number_of}
use Rattle.shape.specs.Outages.{count, every, among}
use Rattle.shape.proofs.Every.{every_from}
use Rattle.std.proofs.lemmas.Bool.{cond_both, eqb-false, leb-true, lt-ltb, ltb-true, not-true, not_from_false, or_parts}
use Rattle.vault_calls.specs.Calls.{short, NotRecovered, Unrecovered, Recover}
use Rattle.vault_calls.specs.declared.answer.Answer.{Answer}
use Rattle.vault_calls.proofs.Codewords.{only_codeword}
use Rattle.vault_calls.proofs.Recovering.{recover_none}
use Rattle.vault_calls.proofs.Refusing.{right_size}
use Rattle.worked.specs.Racks.{altered, Holding, Refused}
use Rattle.worked.proofs.Codewords.{code_at, shape_of, codeword_of}
use Rattle.worked.proofs.Repairs.{outs}
use Rattle.worked.proofs.Tests.{all, passed, at_fault, refuses_tests}

module _ {E : Type 0} (f : Arith E) (laws : Laws f) (q t : ℕ) (w : Words) (i p word : ℕ) (out : List ℕ) (e : all (refuses_tests f q t w i p word out) ≡ true) where
  module _ (m : Model) (held : Holding q t (altered w i p word) out m) where
    -- a node that is not out stands with its words
    up : (j : ℕ) → j < q * t → among out j ≡ false → m.flags j ≡ true
    up j lj x = held.flags j lj ∙ not_from_false (among out j) x

    -- a codeword that agrees would be the one that was altered
    none_agrees : (v : Words) → Agrees f q t m.flags m.words v → ⊥
    none_agrees v agrees =
        let h = passed (refuses_tests f q t w i p word out) e in
        let li = ltb-true i (q * t) h.1.1.0 in
        let lp = ltb-true p (q ^ t) h.1.1.1.0 in
        let stands = not-true (among out i) h.1.1.1.1.0 in
        let is : v i p ≡ w i p
        = only_codeword f laws q t (shape_of f laws q t w h.0) v w (at_fault f q t out i) (leb-true (count (at_fault f q t out i) (q * t)) q h.1.1.1.1.1.1.1.0) agrees.codeword (codeword_of f laws q t w h.0)
        (λ j r lj lr x.
        let y = or_parts (among out j) (eqb j i) x in
        agrees.same j r lj lr (up j lj y.0) ∙ held.words j r lj lr y.0 ∙ ap (λ (g : ℕ → ℕ). g r) (changed_other w i j (λ r. changed (w i) p word r) (eqb-false j i y.1))) i p li lp in
        let has : v i p ≡ word
        = agrees.same i p li lp (up i li stands) ∙ held.words i p li lp stands ∙ ap (λ (g : ℕ → ℕ). g p) (changed_same w i (λ r. changed (w i) p word r)) ∙ changed_same (w i) p word in
        eqb-false word (w i p) (not-true (eqb word (w i p)) h.1.1.1.1.1.0) (sym has ∙ is)

    -- every word that is drawn is a code
    good : good_standing f q t m.flags m.words ≡ true
    good =
        let h = passed (refuses_tests f q t w i p word out) e in
        every_from (λ j. cond (m.flags j) (every (λ r. ltb (m.words j r) f.size) (q ^ t)) true) (q * t)
        (λ j lj. cond_both (m.flags j) (every (λ r. ltb (m.words j r) f.size) (q ^ t)) true (λ b. b ≡ true)
        (λ x. every_from (λ r. ltb (m.words j r) f.size) (q ^ t)
        (λ r lr. lt-ltb (m.words j r) f.size
        (subst (λ v. v < f.size) (sym (held.words j r lj lr (not-true (among out j) (sym (held.flags j lj) ∙ x)))) (code_at f laws q t (altered w i p word) h.1.0 j r lj lr))))
        (λ x. refl))

  pub refuses_from : (m : Model) (space : ℕ) (r : Result Answer Refusal) (m' : Model) → Holding q t (altered w i p word) out m → short q t space ≡ false → Recover f q t m space r m' → Refused 13 r
  refuses_from m space (Ok a) m' held room s = absurd (none_agrees m held s.2.0 s.2.1.0.agrees)
  refuses_from m space (Err x) m' held room s =
      let h = passed (refuses_tests f q t w i p word out) e in
      let few = leb-true (count (among out) (q * t)) q h.1.1.1.1.1.1.0 in
      let n = outs f q t (altered w i p word) m out held in
      let size = right_size q t m held.sized in
      let none = recover_none f q t m space size.0 size.1 room (omega arith) in
      let u = subst (λ o. NotRecovered f q t m x m' o) none s in
      let v = subst (λ b. Unrecovered f q t m x b) (good m held) u.1 in
      (x, refl, ap number_of v.0)
