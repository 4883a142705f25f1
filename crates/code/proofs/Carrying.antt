-- The codeword that carries a message, from the parity nodes restored. Assumes nothing.
use Rattle.std.proofs.Common.{◌≡◌, ℕ, ◌+◌, ◌-◌, ◌*◌, ◌^◌, ◌<◌, ◌≤◌, Bool, true, false, cond, not, ltb, ◌⊎◌, List, length, get_or, Some, None, Ok, Err, Option, Result, sym, refl, ap, ◌∙◌, subst, inl, inr, ⊎_elim, arith}
use Rattle.std.proofs.lemmas.Bool.{both_ways, cases_Bool, cases_lt, cond-true, cond-false, lt-ltb, not-true, not_from_false, not_from_true}
use Rattle.field.specs.Field.{Arith, Laws}
use Rattle.refusal.specs.declared.reason.Refusal.{Refusal}
use Rattle.refusal.specs.declared.reason.Refusal.TheVariants.{BadWord, NoCodeword}
use Rattle.shape.specs.Outages.{every, among, rising}
use Rattle.shape.proofs.Bounds.{Shaped, rows_positive}
use Rattle.shape.proofs.Every.{every_from}
use Rattle.shape.proofs.Rising.{rising_count}
use Rattle.code.specs.Calls.{Rest, standing, good_standing, restore_refusal, encode_refusal, NoneAgrees, Restored, Encoded}
use Rattle.code.specs.Code.{Words, laid, elements, Agrees}
use Rattle.code.specs.Solving.{Codes, KeptFrom}
use Rattle.code.specs.Steps.{Run}
use Rattle.code.proofs.Arrays.{checks_same}
use Rattle.code.proofs.Completion.{some_one}
use Rattle.code.proofs.Places.{parity_after, message_within, spot_within}
use Rattle.code.proofs.Restoration.{refusal_none}
use Rattle.code.proofs.Runs.{run_in, run_out}
use Rattle.code.proofs.Solutions.{rest_kept}

module _ {E : Type 0} (f : Arith E) (laws : Laws f) {q t : ℕ} (s : Shaped q t) (message before copied nodes : List ℕ)
    (size : length message ≡ q * (t - 1) * q ^ t) (room : q * t * q ^ t ≤ length before) (same_length : length copied ≡ length before) (codes : Codes f message (length message))
    (front : (k : ℕ) → k < length message → get_or copied k 0 ≡ get_or message k 0) (kept : KeptFrom before copied (length message))
    (run : Run (q * (t - 1)) nodes q) (rises : rising (q * t) nodes ≡ true) where
  -- the nodes that stand are the data nodes
  data_stands : (i : ℕ) → i < q * (t - 1) → among nodes i ≡ false
  data_stands i l = run_out (q * (t - 1)) q nodes run i (inl l)

  stands_data : (i : ℕ) → i < q * t → among nodes i ≡ false → i < q * (t - 1)
  stands_data i li x =
      let e = parity_after s in
      ⊎_elim (λ l. l) (λ l. absurd (both_ways (among nodes i) x (run_in (q * (t - 1)) q nodes run i l (omega arith)))) (cases_lt i (q * (t - 1)))

  -- their words are the message's
  carried : (i p : ℕ) → i < q * (t - 1) → p < q ^ t → laid (q ^ t) copied i p ≡ laid (q ^ t) message i p
  carried i p li lp = front (i * q ^ t + p) (let l = spot_within (q * (t - 1)) (q ^ t) i p li lp in omega arith)

  carried_code : (i p : ℕ) → i < q * (t - 1) → p < q ^ t → laid (q ^ t) copied i p < f.size
  carried_code i p li lp =
      subst (λ v. v < f.size) (sym (carried i p li lp)) (codes (i * q ^ t + p) (let l = spot_within (q * (t - 1)) (q ^ t) i p li lp in omega arith))

  good : good_standing f q t (standing nodes) (laid (q ^ t) copied) ≡ true
  good = every_from (λ j. cond (not (among nodes j)) (every (λ r. ltb (laid (q ^ t) copied j r) f.size) (q ^ t)) true) (q * t) (λ i li. go i li (cases_Bool (among nodes i)))
    where
      go : (i : ℕ) → i < q * t → (among nodes i ≡ true) ⊎ (among nodes i ≡ false) → cond (not (among nodes i)) (every (λ r. ltb (laid (q ^ t) copied i r) f.size) (q ^ t)) true ≡ true
      go i li (inl x) = cond-false (not (among nodes i)) _ _ (not_from_true (among nodes i) x)
      go i li (inr x) =
          cond-true (not (among nodes i)) _ _ (not_from_false (among nodes i) x)
          ∙ every_from (λ r. ltb (laid (q ^ t) copied i r) f.size) (q ^ t)
          (λ p lp. lt-ltb (laid (q ^ t) copied i p) f.size (carried_code i p (stands_data i li x) lp))

  rest : (after : List ℕ) → Rest (q * t * q ^ t) copied after → Rest (q * t * q ^ t) before after
  rest after r = r ∙ rest_kept (q * t * q ^ t) before copied same_length (λ k l. kept k (let m = message_within s in omega arith))

  -- some codeword carries the message
  some_codeword : (w : Words) × Agrees f q t (standing nodes) (laid (q ^ t) copied) w
  some_codeword =
      let n = rising_count (q * t) nodes rises in
      let m = run.0 in
      let r = some_one f laws q t (rows_positive s) (among nodes) s.few q (omega arith) (elements f (laid (q ^ t) copied)) in
      let A : ℕ → ℕ → E = r.0 in
      let w : Words = λ i p. f.code (A i p) in (
        w,
        record {
          codeword = record { codes = λ i p li lp. laws.code_below (A i p); checks = checks_same f s laws q A (elements f w) (λ i p li lp. sym (laws.of_code (A i p))) r.2 };
          same = λ i p li lp st.
              let x = not-true (among nodes i) st in
              ap f.code (r.1 i p li lp x) ∙ laws.code_of (laid (q ^ t) copied i p) (carried_code i p (stands_data i li x) lp);
        },
      )

  accepts : restore_refusal q t (q * t) nodes copied ≡ None
  accepts = let m = run.0 in refusal_none f q t (q * t) nodes copied (omega arith) refl (omega arith)

  -- so the parity nodes are never refused, and what comes is the message's codeword
  pub encoded : {X : Type 0} (count : ℕ) → count ≡ q * t → encode_refusal f q t message before ≡ None → (r : Result X Refusal) (after : List ℕ)
      → Restored f q t count nodes copied r after → Encoded f q t message before r after
  encoded count is none (Ok x) after (refusal, only, rests) = (
    none,
    record {
      codeword = only.agrees.codeword;
      carries = λ i p li lp.
          only.agrees.same i p (let e = parity_after s in omega arith) lp (not_from_false (among nodes i) (data_stands i li)) ∙ carried i p li lp;
      only = λ v word carries. only.only v (record {
        codeword = word;
        same = λ i p li lp st. let l = stands_data i li (not-true (among nodes i) st) in carries i p l lp ∙ sym (carried i p l lp);
      });
    },
    rest after rests,
  )
  encoded count is none (Err e) after h =
      let P : Option Refusal → Type 0 = λ o. elim o [ Some r ↦ (e ≡ r) × (after ≡ copied) | None ↦ NoneAgrees f q t (standing nodes) (laid (q ^ t) copied) e × Rest (q * t * q ^ t) copied after ] in
      let Q : Bool → Type 0 = λ b. elim b [ true ↦ (e ≡ NoCodeword) × ((w : Words) → Agrees f q t (standing nodes) (laid (q ^ t) copied) w → ⊥) | false ↦ e ≡ BadWord ] in
      let none_agrees : P None = subst P (ap (λ k. restore_refusal q t k nodes copied) is ∙ accepts) h in
      let no : Q true = subst Q good none_agrees.0 in
      absurd (no.1 some_codeword.0 some_codeword.1)
