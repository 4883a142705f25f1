-- What a repair leaves, from what its steps leave. Assumes nothing.
use Rattle.std.proofs.Common.{◌≡◌, ℕ, ◌+◌, ◌-◌, ◌*◌, ◌^◌, ◌<◌, ◌≤◌, Bool, true, false, cond, not, ◌&&◌, eqb, ltb, ◌⊎◌, List, length, get_or, Some, None, sym, refl, ap, ◌∙◌, ap₂, inl, inr, mul-le-mul_right, add-mul, arith}
use Rattle.std.proofs.lemmas.Bool.{cases_eq, cases_Bool, eq-eqb, ne_eqb, lt-ltb, le-ltb, not-false, cond-true, cond-false}
use Rattle.field.specs.Field.{Arith}
use Rattle.shape.specs.Outages.{count}
use Rattle.shape.proofs.Bounds.{Shaped, rows_positive}
use Rattle.shape.proofs.Counts.{count_same}
use Rattle.shape.proofs.Digits.{row_bound, column_bound}
use Rattle.code.specs.Code.{Words, laid, helps, SameHelp, OnlyRefill}
use Rattle.code.specs.Calls.{Rest, HelpRefill, good_help, helper_codes, rebuild_refusal}
use Rattle.code.proofs.Codes.{every_same}
use Rattle.code.proofs.Solutions.{rest_kept}
use Rattle.rack.specs.Model.{Model, changed, risen, node_within, standing}
use Rattle.rack.specs.Filled.{filled}
use Rattle.rack.proofs.Models.{changed_same, changed_other, both}
use Rattle.refusal.specs.First.{first}
use Rattle.refusal.specs.declared.reason.Refusal.{Refusal}
use Rattle.refusal.specs.declared.reason.Refusal.TheVariants.{Size, WorkSpace, NoSuchPlace, NodeStands, AnotherOut, BadWord}
use Rattle.vault_calls.specs.Calls.{wrong_size, short, out_count, Now, repair_refusal, repair_meters}
use Rattle.vault_calls.specs.Steps.{drawn_below, Gathered}
use Rattle.vault_calls.proofs.HelperPlaces.{helpers_count}
use Rattle.vault_calls.proofs.Listing.{standing_flag}
use Rattle.vault_calls.proofs.Refusing.{first_none, first_pass, first_here, right_size}
use Rattle.vault_calls.proofs.Tallies.{others_stand}

module _ {E : Type 0} (f : Arith E) (q t lost : ℕ) (v w : Words) (alike : SameHelp f q t lost v w) where
  -- their helper words are codes alike
  pub help_too : good_help f q t v lost ≡ good_help f q t w lost
  help_too = every_same (λ j. cond (eqb j lost) true (helper_codes f q t v lost j)) (λ j. cond (eqb j lost) true (helper_codes f q t w lost j)) (q * t) (λ j lj. go j lj (cases_eq j lost))
    where
      word : (j p : ℕ) → j < q * t → p < q ^ t → (j ≡ lost → ⊥) → (helps q lost p ≡ true) ⊎ (helps q lost p ≡ false)
          → cond (helps q lost p) (ltb (v j p) f.size) true ≡ cond (helps q lost p) (ltb (w j p) f.size) true
      word j p lj lp ne (inl h) = ap (λ x. cond (helps q lost p) (ltb x f.size) true) (alike j p lj lp h ne)
      word j p lj lp ne (inr h) = cond-false (helps q lost p) (ltb (v j p) f.size) true h ∙ sym (cond-false (helps q lost p) (ltb (w j p) f.size) true h)

      go : (j : ℕ) → j < q * t → (j ≡ lost) ⊎ (j ≡ lost → ⊥) → cond (eqb j lost) true (helper_codes f q t v lost j) ≡ cond (eqb j lost) true (helper_codes f q t w lost j)
      go j lj (inl e) = cond-true (eqb j lost) true (helper_codes f q t v lost j) (eq-eqb j lost e) ∙ sym (cond-true (eqb j lost) true (helper_codes f q t w lost j) (eq-eqb j lost e))
      go j lj (inr ne) =
          ap (λ b. cond (eqb j lost) true b)
          (every_same (λ p. cond (helps q lost p) (ltb (v j p) f.size) true) (λ p. cond (helps q lost p) (ltb (w j p) f.size) true) (q ^ t) (λ p lp. word j p lj lp ne (cases_Bool (helps q lost p))))

-- a node's flag is what the rack says of it
pub flag_sized : (q t : ℕ) (m : Model) (i : ℕ) (b : Bool) → wrong_size q t m ≡ false → i < q * t → b ≡ standing m i → m.flags i ≡ b
flag_sized q t m i b size li is = sym (standing_flag m i (omega (arith, (right_size q t m size).0))) ∙ sym is

-- the tests of a repair, each of which refuses
module _ {E : Type 0} (f : Arith E) (q t : ℕ) (m : Model) (i space : ℕ) where
  pub repair_size : wrong_size q t m ≡ true → repair_refusal f q t m i space ≡ Some Size
  repair_size bad = first_here (wrong_size q t m) Size _ bad

  module _ (size : wrong_size q t m ≡ false) where
    pub repair_short : short q t space ≡ true → repair_refusal f q t m i space ≡ Some WorkSpace
    repair_short less = first_pass (wrong_size q t m) Size _ size ∙ first_here (short q t space) WorkSpace _ less

    module _ (room : short q t space ≡ false) where
      pub repair_nowhere : q * t ≤ i → repair_refusal f q t m i space ≡ Some NoSuchPlace
      repair_nowhere past =
          first_pass (wrong_size q t m) Size _ size ∙ first_pass (short q t space) WorkSpace _ room
          ∙ first_here (not (node_within m i)) NoSuchPlace _ (ap not (le-ltb i m.nodes (omega (arith, (right_size q t m size).0))))

      pub repair_stands : i < q * t → true ≡ standing m i → repair_refusal f q t m i space ≡ Some NodeStands
      repair_stands li up =
          let l : i < m.nodes = omega (arith, (right_size q t m size).0) in
          first_pass (wrong_size q t m) Size _ size ∙ first_pass (short q t space) WorkSpace _ room
          ∙ first_pass (not (node_within m i)) NoSuchPlace _ (ap not (lt-ltb i m.nodes l))
          ∙ first_here (m.flags i) NodeStands _ (sym (standing_flag m i l) ∙ sym up)

-- the tests of a repair
module _ {E : Type 0} (f : Arith E) (q t : ℕ) (m : Model) (i space : ℕ) (size : wrong_size q t m ≡ false) (room : short q t space ≡ false) (li : i < q * t) (out : m.flags i ≡ false) where
  passed : repair_refusal f q t m i space ≡ first (ltb 1 (out_count q t m)) AnotherOut None
  passed =
      first_pass (wrong_size q t m) Size _ size ∙ first_pass (short q t space) WorkSpace _ room
      ∙ first_pass (not (node_within m i)) NoSuchPlace _ (ap not (lt-ltb i m.nodes (omega (arith, (right_size q t m size).0))))
      ∙ first_pass (m.flags i) NodeStands _ out

  pub repair_none : out_count q t m ≤ 1 → repair_refusal f q t m i space ≡ None
  repair_none few = passed ∙ first_pass (ltb 1 (out_count q t m)) AnotherOut None (le-ltb 1 (out_count q t m) few)

  pub repair_another : 1 < out_count q t m → repair_refusal f q t m i space ≡ Some AnotherOut
  repair_another more = passed ∙ first_here (ltb 1 (out_count q t m)) AnotherOut None (lt-ltb 1 (out_count q t m) more)

-- why a rebuild was refused past the tests
module _ {E : Type 0} (f : Arith E) (q t i : ℕ) (ws : List ℕ) (room : q * t * q ^ t ≤ length ws) (li : i < q * t) where
  rebuild_passed : rebuild_refusal f q t i ws ≡ first (not (good_help f q t (laid (q ^ t) ws) i)) BadWord None
  rebuild_passed =
      first_pass (ltb (length ws) (q * t * q ^ t)) WorkSpace _ (le-ltb (length ws) (q * t * q ^ t) room)
      ∙ first_pass (not (ltb i (q * t))) NoSuchPlace _ (ap not (lt-ltb i (q * t) li))

  pub rebuild_bad : (e : Refusal) → rebuild_refusal f q t i ws ≡ Some e → (e ≡ BadWord) × (good_help f q t (laid (q ^ t) ws) i ≡ false)
  rebuild_bad e is = go (good_help f q t (laid (q ^ t) ws) i) (sym rebuild_passed ∙ is)
    where
      go : (b : Bool) → first (not b) BadWord None ≡ Some e → (e ≡ BadWord) × (b ≡ false)
      go true r = let z : ◌≡◌ {A = ℕ} 0 1 = cc in absurd (omega arith)
      go false r = (cc, refl)

  pub rebuild_good : rebuild_refusal f q t i ws ≡ None → good_help f q t (laid (q ^ t) ws) i ≡ true
  rebuild_good is = not-false (good_help f q t (laid (q ^ t) ws) i) (first_none (not (good_help f q t (laid (q ^ t) ws) i)) BadWord None (sym rebuild_passed ∙ is)).0

module _ {E : Type 0} (f : Arith E) (q t : ℕ) (s : Shaped q t) (lost : ℕ) (within : lost < q * t) (m m1 : Model) (s0 s1 : List ℕ)
    (size : wrong_size q t m ≡ false) (out : m.flags lost ≡ false) (few : out_count q t m ≤ 1)
    (all_drawn : m1 ≡ drawn_below m (q * t) (count (helps q lost) (q ^ t)))
    (gathered : Gathered (q ^ t) (λ j p. (ltb j (q * t) && m.flags j) && helps q lost p) m.words s0 s1) where
  -- the helper words are in the space
  helper_words : (j p : ℕ) → j < q * t → p < q ^ t → helps q lost p ≡ true → (j ≡ lost → ⊥) → laid (q ^ t) s1 j p ≡ m.words j p
  helper_words j p lj lp h ne =
      gathered j p lp
      ∙ cond-true ((ltb j (q * t) && m.flags j) && helps q lost p) (m.words j p) (laid (q ^ t) s0 j p)
      (both (ltb j (q * t) && m.flags j) (helps q lost p) (both (ltb j (q * t)) (m.flags j) (lt-ltb j (q * t) lj) (others_stand q t m lost within out few j lj ne)) h)

  drawn_times : count (helps q lost) (q ^ t) ≡ q ^ (t - 1)
  drawn_times =
      count_same (helps q lost) (helps q lost) (q ^ t) (λ p lp. refl)
      ∙ helpers_count q t lost (rows_positive s) (row_bound q (rows_positive s) lost) (column_bound q (rows_positive s) lost t within)

  meters_drawn : (j : ℕ) → j < q * t → m1.meters j ≡ repair_meters f q t m lost j
  meters_drawn j lj =
      ap (λ x. x.meters j) all_drawn ∙ ap₂ (λ b k. cond (b && m.flags j) (risen (m.meters j) k) (m.meters j)) (lt-ltb j (q * t) lj) drawn_times ∙ go (cases_eq j lost)
    where
      go : (j ≡ lost) ⊎ (j ≡ lost → ⊥) → cond (m.flags j) (risen (m.meters j) (q ^ (t - 1))) (m.meters j) ≡ repair_meters f q t m lost j
      go (inl e) =
          cond-false (m.flags j) (risen (m.meters j) (q ^ (t - 1))) (m.meters j) (ap m.flags e ∙ out)
          ∙ sym (cond-true (eqb j lost) (m.meters j) (risen (m.meters j) (q ^ (t - 1))) (eq-eqb j lost e))
      go (inr ne) =
          cond-true (m.flags j) (risen (m.meters j) (q ^ (t - 1))) (m.meters j) (others_stand q t m lost within out few j lj ne)
          ∙ sym (cond-false (eqb j lost) (m.meters j) (risen (m.meters j) (q ^ (t - 1))) (ne_eqb j lost ne))

  -- everything was drawn, and nothing written
  pub help_drawn : Now q t m m.flags m.words (repair_meters f q t m lost) m1
  help_drawn = record {
    same_nodes = ap (λ x. x.nodes) all_drawn;
    same_places = ap (λ x. x.places) all_drawn;
    has_flags = λ j l. ap (λ x. x.flags j) all_drawn;
    has_words = λ j p l lp. ap (λ x. x.words j p) all_drawn;
    has_meters = meters_drawn;
  }

  pub same_help : good_help f q t (laid (q ^ t) s1) lost ≡ good_help f q t m.words lost
  same_help = help_too f q t lost (laid (q ^ t) s1) m.words helper_words

  pub same_refill : (c : ℕ → ℕ) → HelpRefill f q t (laid (q ^ t) s1) lost c → OnlyRefill f q t m.words lost c
  same_refill c refill = refill m.words (λ j p lj lp h ne. sym (helper_words j p lj lp h ne))

  -- the node stands with the words of the space, and nothing else changed
  pub repaired_now : (c : ℕ → ℕ) (m2 : Model) → m2 ≡ filled m1 lost c → Now q t m (changed m.flags lost true) (changed m.words lost c) (repair_meters f q t m lost) m2
  repaired_now c m2 wrote = record {
    same_nodes = ap (λ x. x.nodes) wrote ∙ ap (λ x. x.nodes) all_drawn;
    same_places = ap (λ x. x.places) wrote ∙ ap (λ x. x.places) all_drawn;
    has_flags = λ j l. ap (λ x. x.flags j) wrote ∙ ap (λ x. changed x.flags lost true j) all_drawn;
    has_words = λ j p l lp. ap (λ x. x.words j p) wrote ∙ word j p lp (cases_eq j lost);
    has_meters = λ j l. ap (λ x. x.meters j) wrote ∙ meters_drawn j l;
  }
    where
      row_now : ℕ → ℕ
      row_now p = cond (ltb p m1.places) (c p) (m1.words lost p)

      word : (j p : ℕ) → p < q ^ t → (j ≡ lost) ⊎ (j ≡ lost → ⊥) → changed m1.words lost row_now j p ≡ changed m.words lost c j p
      word j p lp (inl e) =
          ap (λ x. changed m1.words lost row_now x p) e ∙ ap (λ (g : ℕ → ℕ). g p) (changed_same m1.words lost row_now)
          ∙ cond-true (ltb p m1.places) (c p) (m1.words lost p) (lt-ltb p m1.places (let a : m1.places ≡ m.places = ap (λ x. x.places) all_drawn in omega (arith, (right_size q t m size).1)))
          ∙ sym (ap (λ x. changed m.words lost c x p) e ∙ ap (λ (g : ℕ → ℕ). g p) (changed_same m.words lost c))
      word j p lp (inr ne) =
          ap (λ (g : ℕ → ℕ). g p) (changed_other m1.words lost j row_now ne) ∙ ap (λ x. x.words j p) all_drawn
          ∙ sym (ap (λ (g : ℕ → ℕ). g p) (changed_other m.words lost j c ne))

-- the words past all nodes stay where one node's words change
pub rest_others : (q t i : ℕ) (before after : List ℕ) → i < q * t → length after ≡ length before
    → ((k : ℕ) → (k < i * q ^ t) ⊎ (i * q ^ t + q ^ t ≤ k) → get_or after k 0 ≡ get_or before k 0) → Rest (q * t * q ^ t) before after
rest_others q t i before after li long others =
    rest_kept (q * t * q ^ t) before after long
    (λ k l. others k (inr (let h : i + 1 ≤ q * t = omega arith in let a = mul-le-mul_right (q ^ t) h in omega (arith, add-mul i 1 (q ^ t)))))
