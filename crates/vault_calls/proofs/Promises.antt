-- What recover, repair and read promise after every list of calls. Assumes nothing.
use Rattle.std.proofs.Common.{◌≡◌, ℕ, ◌+◌, ◌-◌, ◌*◌, ◌/◌, ◌%◌, ◌^◌, ◌<◌, ◌≤◌, Bool, true, false, cond, not, ◌||◌, eqb, ltb, ◌⊎◌, List, length, get_or, None, Ok, Err, Result, sym, refl, ap, ◌∙◌, subst, inl, inr, mod-lt, div-add-mod', arith}
use Rattle.std.proofs.lemmas.Bool.{cases_Bool, not-false, ltb-false, lt-ltb, eqb-true, eq-eqb, cond-true, cond-false, ne_eqb, true≢false}
use Rattle.field.specs.Field.{Arith}
use Rattle.shape.specs.Outages.{every}
use Rattle.shape.proofs.Counts.{count_none}
use Rattle.shape.proofs.Every.{every_at, every_from}
use Rattle.code.specs.Code.{Words, Codeword, Agrees, helps}
use Rattle.code.specs.Calls.{good_help, good_standing}
use Rattle.vault_calls.proofs.Codewords.{OnlyCodeword, OnlyHelp}
use Rattle.rack.specs.Model.{Model, risen}
use Rattle.rack.proofs.Models.{changed_same}
use Rattle.refusal.specs.declared.reason.Refusal.{Refusal}
use Rattle.refusal.specs.declared.reason.Refusal.TheVariants.{Size, NoSuchPlace, NodeOut}
use Rattle.vault_calls.specs.declared.answer.Answer.{Answer}
use Rattle.vault_calls.specs.Calls.{wrong_size, out_count, Repair, Recover, Read, NotRepaired, NotRecovered, Unrecovered}
use Rattle.vault_calls.specs.History.{altered, last_message, differs, differ_count, RecoverPromise, RepairPromise, ReadPromise}
use Rattle.vault_calls.proofs.Fetching.{data_node, among_all}
use Rattle.vault_calls.proofs.Recovering.{recover_none}
use Rattle.vault_calls.proofs.Refusing.{first_none, sized}
use Rattle.vault_calls.proofs.Repairing.{repair_none}
use Rattle.vault_calls.proofs.Tallies.{count_zero, count_either, others_stand}
use Rattle.vault_calls.proofs.Invariant.{Kept, keeps, refilled}

never : {e : Refusal} {a : Answer} → ◌≡◌ {A = Result Answer Refusal} (Err e) (Ok a) → ⊥
never e = let z : ◌≡◌ {A = ℕ} 0 1 = cc in omega arith

-- a test of either kind that fails
neither : (a b : Bool) → (a || b) ≡ false → (a ≡ false) × (b ≡ false)
neither true b e = absurd (true≢false e)
neither false b e = (refl, e)

module _ {E : Type 0} (f : Arith E) (q t : ℕ) (only_help : OnlyHelp f q t) (only_codeword : OnlyCodeword f q t) where
  module _ (m : Model) (w : Words) where
    -- a standing node that does not differ has the codeword's words
    alike : (i : ℕ) → m.flags i ≡ true → differs f q t m w i ≡ false → (p : ℕ) → p < q ^ t → m.words i p ≡ w i p
    alike i up e p lp =
        let every_one : every (λ p. eqb (m.words i p) (w i p)) (q ^ t) ≡ true
        = not-false (every (λ p. eqb (m.words i p) (w i p)) (q ^ t)) (sym (cond-true (m.flags i) (not (every (λ p. eqb (m.words i p) (w i p)) (q ^ t))) false up) ∙ e) in
        eqb-true (m.words i p) (w i p) (every_at (λ p. eqb (m.words i p) (w i p)) (q ^ t) every_one p lp)

    -- and one with those words does not differ
    not_different : (i : ℕ) → (m.flags i ≡ true → (p : ℕ) → p < q ^ t → m.words i p ≡ w i p) → differs f q t m w i ≡ false
    not_different i h = go (cases_Bool (m.flags i))
      where
        go : (m.flags i ≡ true) ⊎ (m.flags i ≡ false) → differs f q t m w i ≡ false
        go (inl up) =
            cond-true (m.flags i) (not (every (λ p. eqb (m.words i p) (w i p)) (q ^ t))) false up
            ∙ ap not (every_from (λ p. eqb (m.words i p) (w i p)) (q ^ t) (λ p lp. eq-eqb (m.words i p) (w i p) (h up p lp)))
        go (inr down) = cond-false (m.flags i) (not (every (λ p. eqb (m.words i p) (w i p)) (q ^ t))) false down

    -- where no node differs, the codeword agrees
    none_differ : Codeword f q t w → differ_count f q t m w ≡ 0 → Agrees f q t m.flags m.words w
    none_differ cw z = record { codeword = cw; same = λ i p li lp up. sym (alike i up (count_zero (differs f q t m w) (q * t) z i li) p lp) }

    -- a codeword that agrees with the standing nodes is w, if few nodes are out or differ
    only_this : (v : Words) → Codeword f q t w → Agrees f q t m.flags m.words v → out_count q t m + differ_count f q t m w ≤ q
        → (i p : ℕ) → i < q * t → p < q ^ t → v i p ≡ w i p
    only_this v cw agrees few =
        only_codeword v w (λ i. not (m.flags i) || differs f q t m w i) (let k = count_either (λ i. not (m.flags i)) (differs f q t m w) (q * t) in omega arith) agrees.codeword cw
        (λ i p li lp e.
        let n = neither (not (m.flags i)) (differs f q t m w i) e in
        let up : m.flags i ≡ true = not-false (m.flags i) n.0 in
        agrees.same i p li lp up ∙ alike i up n.1 p lp)

  standing_codes : (m : Model) → ((i p : ℕ) → i < q * t → p < q ^ t → m.flags i ≡ true → m.words i p < f.size) → good_standing f q t m.flags m.words ≡ true
  standing_codes m codes = every_from (λ i. cond (m.flags i) (every (λ p. ltb (m.words i p) f.size) (q ^ t)) true) (q * t) (λ i li. go i li (cases_Bool (m.flags i)))
    where
      go : (i : ℕ) → i < q * t → (m.flags i ≡ true) ⊎ (m.flags i ≡ false) → cond (m.flags i) (every (λ p. ltb (m.words i p) f.size) (q ^ t)) true ≡ true
      go i li (inl up) =
          cond-true (m.flags i) (every (λ p. ltb (m.words i p) f.size) (q ^ t)) true up
          ∙ every_from (λ p. ltb (m.words i p) f.size) (q ^ t) (λ p lp. lt-ltb (m.words i p) f.size (codes i p li lp up))
      go i li (inr down) = cond-false (m.flags i) (every (λ p. ltb (m.words i p) f.size) (q ^ t)) true down

  pub recover_promise : (m : Model) (space : ℕ) (r : Result Answer Refusal) (m' : Model) → Recover f q t m space r m' → RecoverPromise f q t m space r m'
  recover_promise m space (Ok a) m' s es message w after room few =
      let v = s.2.0 in
      let now = s.2.1.1 in
      let cw = after.encodes.codeword in
      let is : (i p : ℕ) → i < q * t → p < q ^ t → v i p ≡ w i p = only_this m w v cw s.2.1.0.agrees few in
      record {
        accepted = λ z. (a, refl);
        none_differed = λ b e. count_none (differs f q t m w) (q * t) (λ i li. not_different m w i (λ up p lp. sym (s.2.1.0.agrees.same i p li lp up) ∙ is i p li lp));
        all_stand = λ b e. count_none (λ i. not (m'.flags i)) (q * t) (λ i li. ap not (now.has_flags i li));
        none_differs = λ b e. count_none (differs f q t m' w) (q * t) (λ i li. not_different m' w i (λ up p lp. now.has_words i p li lp ∙ is i p li lp));
      }
  recover_promise m space (Err e) m' s es message w after room few = record {
    accepted = λ z. absurd (go (good_standing f q t m.flags m.words) (standing_codes m (k.codes message after.stored)) unrefused.1 z);
    none_differed = λ b e. absurd (never e);
    all_stand = λ b e. absurd (never e);
    none_differs = λ b e. absurd (never e);
  }
    where
      k : Kept f q t only_help m (last_message es) (altered es)
      k = keeps f q t only_help after.led

      unrefused : NotRecovered f q t m e m' None
      unrefused = subst (λ o. NotRecovered f q t m e m' o) (recover_none f q t m space k.nodes k.places room (omega arith)) s

      go : (b : Bool) → b ≡ true → Unrecovered f q t m e b → differ_count f q t m w ≡ 0 → ⊥
      go true g u z = u.1 w (none_differ m w after.encodes.codeword z)
      go false g u z = true≢false (sym g)

  help_codes : (m : Model) (i : ℕ) → ((j p : ℕ) → j < q * t → (j ≡ i → ⊥) → p < q ^ t → m.words j p < f.size) → good_help f q t m.words i ≡ true
  help_codes m i codes =
      every_from (λ j. cond (eqb j i) true (every (λ p. cond (helps q i p) (ltb (m.words j p) f.size) true) (q ^ t))) (q * t) (λ j lj. go j lj (cases_Bool (eqb j i)))
    where
      one : (j p : ℕ) → j < q * t → (j ≡ i → ⊥) → p < q ^ t → (helps q i p ≡ true) ⊎ (helps q i p ≡ false) → cond (helps q i p) (ltb (m.words j p) f.size) true ≡ true
      one j p lj ne lp (inl h) = cond-true (helps q i p) (ltb (m.words j p) f.size) true h ∙ lt-ltb (m.words j p) f.size (codes j p lj ne lp)
      one j p lj ne lp (inr h) = cond-false (helps q i p) (ltb (m.words j p) f.size) true h

      go : (j : ℕ) → j < q * t → (eqb j i ≡ true) ⊎ (eqb j i ≡ false) → cond (eqb j i) true (every (λ p. cond (helps q i p) (ltb (m.words j p) f.size) true) (q ^ t)) ≡ true
      go j lj (inl e) = cond-true (eqb j i) true (every (λ p. cond (helps q i p) (ltb (m.words j p) f.size) true) (q ^ t)) e
      go j lj (inr e) =
          cond-false (eqb j i) true (every (λ p. cond (helps q i p) (ltb (m.words j p) f.size) true) (q ^ t)) e
          ∙ every_from (λ p. cond (helps q i p) (ltb (m.words j p) f.size) true) (q ^ t)
          (λ p lp. one j p lj (λ k. true≢false (sym (eq-eqb j i k) ∙ e)) lp (cases_Bool (helps q i p)))

  pub repair_promise : (m : Model) (i space : ℕ) (r : Result Answer Refusal) (m' : Model) → Repair f q t m i space r m' → RepairPromise f q t m i space r m'
  repair_promise m i space (Ok a) m' s es message w after room li out one =
      let now = s.3.1.1 in
      let c = s.3.0 in
      record {
        accepted = ap Ok s.2;
        others_rise = λ j lj ne. now.has_meters j lj ∙ cond-false (eqb j i) (m.meters j) (risen (m.meters j) (q ^ (t - 1))) (ne_eqb j i ne);
        own_stays = now.has_meters i li ∙ cond-true (eqb i i) (m.meters i) (risen (m.meters i) (q ^ (t - 1))) (eq-eqb i i refl);
        stands = now.has_flags i li ∙ changed_same m.flags i true;
        restored = λ alike p lp. now.has_words i p li lp ∙ ap (λ (g : ℕ → ℕ). g p) (changed_same m.words i c) ∙ refilled f q t only_help m i c w li s.3.1.0 after.encodes.codeword alike p lp;
      }
  repair_promise m i space (Err e) m' s es message w after room li out one =
      let k = keeps f q t only_help after.led in
      let u = subst (λ o. NotRepaired f q t m i e m' o) (repair_none f q t m i space (sized q t m k.nodes k.places) room li out (omega arith)) s in
      let good = help_codes m i (λ j p lj ne lp. k.codes message after.stored j p lj lp (others_stand q t m i li out (omega arith) j lj ne)) in
      absurd (true≢false (sym good ∙ u.1))

  pub read_promise : 0 < q ^ t → (m : Model) (start : ℕ) (buffer : List ℕ) (r : Result Answer Refusal) (m' : Model) (buffer' : List ℕ) → Read q t m start buffer r m' buffer' → ReadPromise f q t m start r buffer'
  read_promise pos m start buffer (Err e) m' buffer' s es message w after none a is j lj = absurd (never is)
  read_promise pos m start buffer (Ok b) m' buffer' s es message w after none a is j lj =
      let k = keeps f q t only_help after.led in
      let x : ℕ = start + j in
      let P : ℕ = q ^ t in
      let n : ℕ = x / P in
      let p : ℕ = x % P in
      let lb : j < length buffer = omega (arith, s.3) in
      let one = (first_none (wrong_size q t m) Size _ s.0).1 in
      let two = first_none (ltb (q * (t - 1) * q ^ t) (start + length buffer)) NoSuchPlace _ one in
      let three = (first_none (not (every (λ j. m.flags ((start + j) / q ^ t)) (length buffer))) NodeOut None two.1).0 in
      let up : m.flags n ≡ true = every_at (λ j. m.flags ((start + j) / q ^ t)) (length buffer) (not-false (every (λ j. m.flags ((start + j) / q ^ t)) (length buffer)) three) j lb in
      let within : x < q * (t - 1) * P = omega (arith, ltb-false (q * (t - 1) * q ^ t) (start + length buffer) two.0) in
      let first : n < q * (t - 1) = data_node x P (q * (t - 1)) pos within in
      let node : n < q * t = among_all q t n first in
      let place : p < P = mod-lt x pos in
      s.4 j lb ∙ k.stored message w after.stored none after.encodes n p node place up ∙ after.encodes.carries n p first place
      ∙ ap (λ y. get_or message y 0) (div-add-mod' x P)
