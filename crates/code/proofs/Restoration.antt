-- What the restored words are. Assumes nothing.
use Rattle.std.proofs.Common.{◌≡◌, ℕ, ◌*◌, ◌^◌, ◌<◌, ◌≤◌, Bool, true, false, cond, not, eqb, ltb, ◌⊎◌, List, length, Some, None, Err, Option, sym, refl, ap, ◌∙◌, subst, inl, inr, arith}
use Rattle.std.proofs.lemmas.Bool.{cases_Bool, cond-true, cond-false, eq-eqb, lt-ltb, le-ltb, ltb-true, not-true, not_from_false, not_from_true}
use Rattle.field.specs.Field.{Arith, Laws}
use Rattle.refusal.specs.declared.reason.Refusal.{Refusal}
use Rattle.refusal.specs.declared.reason.Refusal.TheVariants.{BadWord, NoCodeword}
use Rattle.shape.specs.Outages.{every, among, rising}
use Rattle.shape.proofs.Bounds.{Shaped, rows_positive}
use Rattle.shape.proofs.Every.{every_at, every_from}
use Rattle.shape.proofs.Rising.{rising_count}
use Rattle.code.specs.Calls.{Rest, short, standing, good_standing, restore_refusal, NoneAgrees, Restored}
use Rattle.code.specs.Code.{Words, laid, Checks, elements, Agrees, OnlyAgrees}
use Rattle.code.specs.Reading.{symbols}
use Rattle.code.specs.Solving.{Codes}
use Rattle.code.specs.Steps.{Cleared, Sound}
use Rattle.code.specs.Theorems.{Agree}
use Rattle.code.proofs.Arrays.{Alike, codes_laid, laid_codes, symbols_elements, checks_same, codeword}
use Rattle.code.proofs.OnlyOne.{only_one}
use Rattle.code.proofs.Solutions.{same_word}

module _ {E : Type 0} (f : Arith E) (laws : Laws f) {q t : ℕ} (s : Shaped q t) (nodes before cleared : List ℕ)
    (clear : Cleared (q ^ t) (among nodes) (q * t) (laid (q ^ t) before) (laid (q ^ t) cleared)) where
  -- every standing word is a code just where every word is one after the listed nodes were cleared
  pub good_codes : good_standing f q t (standing nodes) (laid (q ^ t) before) ≡ true → Codes f cleared (q * t * q ^ t)
  good_codes e = laid_codes f s cleared (λ i p li lp. go i p li lp (cases_Bool (among nodes i)))
    where
      go : (i p : ℕ) → i < q * t → p < q ^ t → (among nodes i ≡ true) ⊎ (among nodes i ≡ false) → laid (q ^ t) cleared i p < f.size
      go i p li lp (inl x) = let z = clear.none i p lp x li in let c = laws.code_below f.zero in let k = laws.zero_code in omega arith
      go i p li lp (inr x) =
          let row = every_at (λ j. cond (not (among nodes j)) (every (λ r. ltb (laid (q ^ t) before j r) f.size) (q ^ t)) true) (q * t) e i li in
          let here = sym (cond-true (not (among nodes i)) (every (λ r. ltb (laid (q ^ t) before i r) f.size) (q ^ t)) true (not_from_false (among nodes i) x)) ∙ row in
          let w : laid (q ^ t) before i p < f.size = ltb-true (laid (q ^ t) before i p) f.size (every_at (λ r. ltb (laid (q ^ t) before i r) f.size) (q ^ t) here p lp) in
          subst (λ v. v < f.size) (sym (clear.kept i p lp (inl x))) w

  pub codes_good : Codes f cleared (q * t * q ^ t) → good_standing f q t (standing nodes) (laid (q ^ t) before) ≡ true
  codes_good codes =
      every_from (λ j. cond (not (among nodes j)) (every (λ r. ltb (laid (q ^ t) before j r) f.size) (q ^ t)) true) (q * t) (λ i li. go i li (cases_Bool (among nodes i)))
    where
      go : (i : ℕ) → i < q * t → (among nodes i ≡ true) ⊎ (among nodes i ≡ false) → cond (not (among nodes i)) (every (λ r. ltb (laid (q ^ t) before i r) f.size) (q ^ t)) true ≡ true
      go i li (inl x) = cond-false (not (among nodes i)) _ _ (not_from_true (among nodes i) x)
      go i li (inr x) =
          cond-true (not (among nodes i)) _ _ (not_from_false (among nodes i) x)
          ∙ every_from (λ r. ltb (laid (q ^ t) before i r) f.size) (q ^ t)
          (λ p lp. lt-ltb (laid (q ^ t) before i p) f.size (subst (λ v. v < f.size) (clear.kept i p lp (inl x)) (codes_laid f s cleared codes i p li lp)))

  -- the words after the fill
  module _ (after : List ℕ) (rises : rising (q * t) nodes ≡ true) (few : length nodes ≤ q) (codes : Codes f cleared (q * t * q ^ t)) (sound : Sound f (q * t * q ^ t) cleared after)
      (checks : Checks f q t (length nodes) (symbols f (q ^ t) after)) (kept : Agree f q t (among nodes) (symbols f (q ^ t) after) (symbols f (q ^ t) cleared)) where
    codes_after : Codes f after (q * t * q ^ t)
    codes_after = sound.1 codes

    -- a codeword that agrees is what was filled in
    alike : (w : Words) → Agrees f q t (standing nodes) (laid (q ^ t) before) w → Alike q t (elements f w) (symbols f (q ^ t) after)
    alike w agrees =
        let n = rising_count (q * t) nodes rises in
        only_one f laws q t (rows_positive s) s.few (among nodes) (length nodes) (omega arith) (elements f w) (symbols f (q ^ t) after)
        (λ p e lp le. agrees.codeword.checks p e lp (omega arith)) checks
        (λ i p li lp x.
        ap f.of (agrees.same i p li lp (not_from_false (among nodes i) x) ∙ sym (clear.kept i p lp (inl x)))
        ∙ sym (symbols_elements f s cleared (codes_laid f s cleared codes) i p li lp) ∙ sym (kept i p li lp x))

    -- the same words, since they are codes
    same_at : (v : Words) → ((i p : ℕ) → i < q * t → p < q ^ t → v i p < f.size) → (i p : ℕ) → i < q * t → p < q ^ t → f.of (v i p) ≡ symbols f (q ^ t) after i p → v i p ≡ laid (q ^ t) after i p
    same_at v hv i p li lp e =
        same_word f laws (v i p) (laid (q ^ t) after i p) (hv i p li lp) (codes_laid f s after codes_after i p li lp)
        (e ∙ symbols_elements f s after (codes_laid f s after codes_after) i p li lp)

    pub only_agrees : Checks f q t q (symbols f (q ^ t) after) → OnlyAgrees f q t (standing nodes) (laid (q ^ t) before) (laid (q ^ t) after)
    only_agrees all = record {
      agrees = record {
        codeword = codeword f s laws after codes_after all;
        same = λ i p li lp st.
            let x = stands_out i st in
            sym (same_at (laid (q ^ t) cleared) (codes_laid f s cleared codes) i p li lp
            (sym (symbols_elements f s cleared (codes_laid f s cleared codes) i p li lp) ∙ sym (kept i p li lp x)))
            ∙ clear.kept i p lp (inl x);
      };
      only = λ v agrees i p li lp. same_at v agrees.codeword.codes i p li lp (alike v agrees i p li lp);
    }
      where
        stands_out : (i : ℕ) → not (among nodes i) ≡ true → among nodes i ≡ false
        stands_out i e = not-true (among nodes i) e

    pub none_agrees : (Checks f q t q (symbols f (q ^ t) after) → ⊥) → (w : Words) → Agrees f q t (standing nodes) (laid (q ^ t) before) w → ⊥
    none_agrees not_all w agrees = not_all (checks_same f s laws q (elements f w) (symbols f (q ^ t) after) (alike w agrees) agrees.codeword.checks)

-- which refusal comes first
module _ {E : Type 0} (f : Arith E) (q t count : ℕ) (nodes ws : List ℕ) where
  long : q * t * q ^ t ≤ length ws → short q t ws ≡ false
  long l = le-ltb (length ws) (q * t * q ^ t) l

  fit : count ≡ q * t → not (eqb count (q * t)) ≡ false
  fit e = not_from_true (eqb count (q * t)) (eq-eqb count (q * t) e)

  pub refusal_none : q * t * q ^ t ≤ length ws → count ≡ q * t → length nodes ≤ q → restore_refusal q t count nodes ws ≡ None
  refusal_none l e m =
      cond-false (short q t ws) _ _ (long l) ∙ cond-false (not (eqb count (q * t))) _ _ (fit e) ∙ cond-false (ltb q (length nodes)) _ _ (le-ltb q (length nodes) m)

-- the clauses of a refused call
module _ {E : Type 0} (f : Arith E) (q t : ℕ) (nodes before after : List ℕ) (count : ℕ) where
  late : (e : Refusal) → restore_refusal q t count nodes before ≡ None → NoneAgrees f q t (standing nodes) (laid (q ^ t) before) e → Rest (q * t * q ^ t) before after
      → Restored f q t {X = Unit {0}} count nodes before (Err e) after
  late e is none rest =
      let P : Option Refusal → Type 0 = λ o. elim o [ Some r ↦ (e ≡ r) × (after ≡ before) | None ↦ NoneAgrees f q t (standing nodes) (laid (q ^ t) before) e × Rest (q * t * q ^ t) before after ] in
      subst P (sym is) (none, rest)

  pub refused_bad : restore_refusal q t count nodes before ≡ None → good_standing f q t (standing nodes) (laid (q ^ t) before) ≡ false → Rest (q * t * q ^ t) before after
      → Restored f q t {X = Unit {0}} count nodes before (Err BadWord) after
  refused_bad is bad rest =
      let P : Bool → Type 0 = λ b. elim b [ true ↦ (BadWord ≡ NoCodeword) × ((w : Words) → Agrees f q t (standing nodes) (laid (q ^ t) before) w → ⊥) | false ↦ BadWord ≡ BadWord ] in
      late BadWord is (subst P (sym bad) refl) rest

  pub refused_none : restore_refusal q t count nodes before ≡ None → good_standing f q t (standing nodes) (laid (q ^ t) before) ≡ true
      → ((w : Words) → Agrees f q t (standing nodes) (laid (q ^ t) before) w → ⊥) → Rest (q * t * q ^ t) before after
      → Restored f q t {X = Unit {0}} count nodes before (Err NoCodeword) after
  refused_none is good none rest =
      let P : Bool → Type 0 = λ b. elim b [ true ↦ (NoCodeword ≡ NoCodeword) × ((w : Words) → Agrees f q t (standing nodes) (laid (q ^ t) before) w → ⊥) | false ↦ NoCodeword ≡ BadWord ] in
      late NoCodeword is (subst P (sym good) (refl, none)) rest
