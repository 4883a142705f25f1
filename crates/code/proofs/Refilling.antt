-- The words of one node, refilled from the planes that help it. Assumes nothing.
use Rattle.std.proofs.Common.{◌≡◌, ℕ, ◌+◌, ◌*◌, ◌/◌, ◌^◌, ◌<◌, ◌≤◌, true, false, cond, eqb, ltb, ◌≢◌, ◌⊎◌, List, length, get_or, set, sym, refl, ap, ◌∙◌, subst, ap₂, inl, inr, ⊎_elim, mul-le-mul_right, arith}
use mathlib.Core.Path.{fun_ext}
use lib.Arith.{digits_div}
use Rattle.std.proofs.lemmas.List.{get_or-set_same, get_or-set_other}
use Rattle.std.proofs.lemmas.Bool.{both_ways, cases_eq, cases_Bool, cases_lt, cond-true, cond-false, eqb-true, eq-eqb, ne_eqb, ltb-true}
use Rattle.field.specs.Field.{Arith, Laws}
use Rattle.shape.specs.Layout.{row, column, digit, with_digit, node_at, companion_node, companion_place}
use Rattle.shape.specs.Outages.{among, rising}
use Rattle.shape.proofs.Among.{among_found}
use Rattle.shape.proofs.Bounds.{Shaped, rows_positive}
use Rattle.shape.proofs.Digits.{digit_bound, row_bound, column_bound, node_bound, column_node, node_own, companion_back, companion_place_back, row_companion, column_companion, digit_companion, companion_bound, companion_place_bound, with_own}
use Rattle.shape.proofs.Every.{every_at}
use Rattle.shape.proofs.Rising.{rising_count}
use Rattle.code.specs.Calls.{good_help, helper_codes, Others}
use Rattle.code.specs.Code.{Words, laid, minus, uncoupled, check, elements, helps, with_node, OnlyRefill, SameHelp}
use Rattle.code.specs.Filling.{in_column, known, solution, solved_by, refill}
use Rattle.code.specs.Reading.{read, symbols}
use Rattle.code.specs.Steps.{Run, lacks, RefilledWhere, given, PlaneRefilled}
use Rattle.code.specs.Theorems.{Helps}
use Rattle.code.proofs.Completion.{Solves, solution_solves}
use Rattle.code.proofs.Places.{spot_within}
use Rattle.code.proofs.Repair.{companion_lost, repaired_by, repair_only_one}
use Rattle.code.proofs.Runs.{run_in}
use Rattle.code.proofs.Solutions.{same_word}
use Rattle.code.proofs.Sums.{moment_same}
use Rattle.code.proofs.Uncoupling.{uncoupled_same}
use Rattle.code.proofs.Words.{read_code, read_written}

module _ {E : Type 0} (f : Arith E) (laws : Laws f) {q t : ℕ} (s : Shaped q t) (lost : ℕ) (within : lost < q * t) (nodes : List ℕ) (run : Run (column q lost * q) nodes q) where
  pos : 0 < q
  pos = rows_positive s

  -- the listed nodes are those of the lost node's column
  in_list : (i : ℕ) → column q i ≡ column q lost → among nodes i ≡ true
  in_list i e =
      let o : column q i * q + row q i ≡ i = (unfold node_at in node_own q pos i) in
      let b = row_bound q pos i in
      let k : column q i * q ≡ column q lost * q = ap (λ y. y * q) e in
      run_in (column q lost * q) q nodes run i (omega arith) (omega arith)

  in_column_of : (i : ℕ) → among nodes i ≡ true → column q i ≡ column q lost
  unfolding column
  in_column_of i x =
      let r = among_found nodes i x in
      let m = run.0 in
      let h : r.0 < q = omega arith in
      ap (λ j. j / q) (sym r.2 ∙ run.1 r.0 h) ∙ digits_div (column q lost) h

  out_column : (i : ℕ) → among nodes i ≡ false → column q i ≢ column q lost
  out_column i x e = both_ways (among nodes i) x (in_list i e)

  as_column : (i : ℕ) → among nodes i ≡ in_column q (column q lost) i
  unfolding in_column
  as_column i = ⊎_elim (λ x. x ∙ sym (eq-eqb (column q i) (column q lost) (in_column_of i x))) (λ x. x ∙ sym (ne_eqb (column q i) (column q lost) (out_column i x))) (cases_Bool (among nodes i))

  -- what is known of a plane, without the lost node
  abbrev ApartLost : (A A' : ℕ → ℕ → E) → Type 0
  ApartLost A A' = (i p : ℕ) → i < q * t → p < q ^ t → i ≢ lost → A i p ≡ A' i p

  known_other : (A A' : ℕ → ℕ → E) → ApartLost A A' → (p : ℕ) → p < q ^ t → (i : ℕ) → i < q * t → (among nodes i ≡ true) ⊎ (among nodes i ≡ false)
      → known f q (among nodes) A p i ≡ known f q (among nodes) A' p i
  known_other A A' same p lp i li (inl x) = cond-true (among nodes i) _ _ x ∙ sym (cond-true (among nodes i) _ _ x)
  known_other A A' same p lp i li (inr x) =
      let ne = out_column i x in
      cond-false (among nodes i) _ _ x
      ∙ uncoupled_same f laws q A A' i p (at i p li lp (λ e. ne (ap (column q) e)))
      (λ o. at (companion_node q i p) (companion_place q i p) (companion_bound q pos i p t li) (companion_place_bound q pos i p t li lp)
      (λ e. ne (sym (column_companion q pos i p) ∙ ap (column q) e)))
      ∙ sym (cond-false (among nodes i) _ _ x)
    where
      at : (j r : ℕ) → j < q * t → r < q ^ t → j ≢ lost → A j r ≡ A' j r
      at = same

  solution_other : (A A' : ℕ → ℕ → E) → ApartLost A A' → (p : ℕ) → p < q ^ t → (i : ℕ) → solution f q t (among nodes) A i p ≡ solution f q t (among nodes) A' i p
  unfolding solution
  solution_other A A' same p lp i = ap (λ r. solved_by f f.point (among nodes) (q * t) r i) (fun_ext sides)
    where
      sides : (e : ℕ) → lacks f q t (among nodes) A p e ≡ lacks f q t (among nodes) A' p e
      sides e =
          ap f.negative (moment_same f laws f.point (known f q (among nodes) A p) (known f q (among nodes) A' p) (q * t) e
          (λ j l. known_other A A' same p lp j l (cases_Bool (among nodes j))))

  -- the two ways of a refill
  module _ (A : ℕ → ℕ → E) (p : ℕ) where
    pub refill_own : digit q p (column q lost) ≡ row q lost → refill f q t (among nodes) lost A p ≡ solution f q t (among nodes) A lost p
    unfolding refill
    refill_own e = cond-true (eqb (digit q p (column q lost)) (row q lost)) _ _ (eq-eqb (digit q p (column q lost)) (row q lost) e)

    pub refill_pair : (digit q p (column q lost) ≡ row q lost → ⊥) → refill f q t (among nodes) lost A p
        ≡ f.product (f.inverse f.coupling) (minus f (solution f q t (among nodes) A (companion_node q lost p) (companion_place q lost p)) (A (companion_node q lost p) (companion_place q lost p)))
    unfolding refill
    refill_pair ne = cond-false (eqb (digit q p (column q lost)) (row q lost)) _ _ (ne_eqb (digit q p (column q lost)) (row q lost) ne)

  -- a refill sees the lost node nowhere
  refill_other : (A A' : ℕ → ℕ → E) → ApartLost A A' → (p : ℕ) → p < q ^ t → refill f q t (among nodes) lost A p ≡ refill f q t (among nodes) lost A' p
  refill_other A A' same p lp = go (cases_eq (digit q p (column q lost)) (row q lost))
    where
      c : ℕ
      c = companion_node q lost p

      d : ℕ
      d = companion_place q lost p

      ld : d < q ^ t
      ld = companion_place_bound q pos lost p t within lp

      go : (digit q p (column q lost) ≡ row q lost) ⊎ (digit q p (column q lost) ≡ row q lost → ⊥) → refill f q t (among nodes) lost A p ≡ refill f q t (among nodes) lost A' p
      go (inl e) = refill_own A p e ∙ solution_other A A' same p lp lost ∙ sym (refill_own A' p e)
      go (inr ne) =
          refill_pair A p ne
          ∙ ap₂ (λ v w. f.product (f.inverse f.coupling) (minus f v w)) (solution_other A A' same d ld c)
          (same c d (companion_bound q pos lost p t within) ld (λ e. ne (sym (row_companion q pos lost p) ∙ ap (row q) e)))
          ∙ sym (refill_pair A' p ne)

  companion_at : (p k : ℕ) → digit q p (column q lost) ≡ k → companion_node q lost p ≡ node_at q k (column q lost)
  unfolding companion_node
  companion_at p k e = ap (λ x. node_at q x (column q lost)) e

  pub companion_own : (p : ℕ) → companion_node q lost p ≡ lost → (digit q p (column q lost) ≡ row q lost) × (companion_place q lost p ≡ p)
  unfolding companion_place
  companion_own p e =
      let h : digit q p (column q lost) ≡ row q lost = sym (row_companion q pos lost p) ∙ ap (row q) e in
      (h, ap (with_digit q p (column q lost)) (sym h) ∙ with_own q pos p (column q lost))

  pub companion_not : (p : ℕ) → (companion_node q lost p ≡ lost → ⊥) → digit q p (column q lost) ≡ row q lost → ⊥
  unfolding companion_node
  companion_not p ne e = ne (ap (λ x. node_at q x (column q lost)) e ∙ node_own q pos lost)

  -- words of the other nodes are outside the lost node's
  elsewhere : (i : ℕ) → i ≢ lost → (p : ℕ) → p < q ^ t → (i * q ^ t + p < lost * q ^ t) ⊎ (lost * q ^ t + q ^ t ≤ i * q ^ t + p)
  elsewhere i ne p lp = ⊎_elim (λ l. inl (spot_within lost (q ^ t) i p l lp)) (λ l. inr (let h = mul-le-mul_right (q ^ t) (next l) in omega arith)) (cases_lt i lost)
    where
      next : lost ≤ i → lost + 1 ≤ i
      next l = omega arith

  others_apart : (before now : List ℕ) → Others q t lost before now → ApartLost (symbols f (q ^ t) now) (symbols f (q ^ t) before)
  others_apart before now others i p li lp ne = ap (read f) (others (i * q ^ t + p) (elsewhere i ne p lp))

  -- one word of the lost node is written
  module _ (place : ℕ) (before now after : List ℕ) (a : E) (lplace : place < q ^ t) (room : q * t * q ^ t ≤ length now) (same : after ≡ set now (lost * q ^ t + place) (f.code a)) where
    written_code : laid (q ^ t) after lost place ≡ f.code a
    written_code =
        let w = spot_within (q * t) (q ^ t) lost place within lplace in
        ap (λ us. laid (q ^ t) us lost place) same ∙ get_or-set_same now (lost * q ^ t + place) (f.code a) 0 (omega arith)

    written_other : (p : ℕ) → p ≢ place → laid (q ^ t) after lost p ≡ laid (q ^ t) now lost p
    written_other p ne =
        let apart : lost * q ^ t + p ≢ lost * q ^ t + place = λ e. ne (omega arith) in
        ap (λ us. laid (q ^ t) us lost p) same ∙ get_or-set_other now (lost * q ^ t + place) (lost * q ^ t + p) (f.code a) 0 apart

    written_others : Others q t lost before now → Others q t lost before after
    written_others others k h = ap (λ us. get_or us k 0) same ∙ get_or-set_other now (lost * q ^ t + place) k (f.code a) 0 (outside h) ∙ others k h
      where
        outside : (k < lost * q ^ t) ⊎ (lost * q ^ t + q ^ t ≤ k) → k ≢ lost * q ^ t + place
        outside (inl l) e = omega arith
        outside (inr l) e = omega arith

    write_one : (done done' : ℕ → Type 0) → ((p : ℕ) → p < q ^ t → done' p → p ≢ place → done p) → RefilledWhere f q t (among nodes) lost done before now
        → a ≡ refill f q t (among nodes) lost (symbols f (q ^ t) before) place → RefilledWhere f q t (among nodes) lost done' before after
    write_one done done' step inv a_is = record {
      made = λ p lp d. at p lp d (cases_eq p place);
      codes = λ p lp d. code p lp d (cases_eq p place);
      others = written_others inv.others;
    }
      where
        at : (p : ℕ) → p < q ^ t → done' p → (p ≡ place) ⊎ (p ≡ place → ⊥) → symbols f (q ^ t) after lost p ≡ refill f q t (among nodes) lost (symbols f (q ^ t) before) p
        at p lp d (inl e) =
            ap (symbols f (q ^ t) after lost) e ∙ ap (read f) written_code ∙ read_written f laws a ∙ a_is ∙ ap (refill f q t (among nodes) lost (symbols f (q ^ t) before)) (sym e)
        at p lp d (inr ne) = ap (read f) (written_other p ne) ∙ inv.made p lp (step p lp d ne)

        code : (p : ℕ) → p < q ^ t → done' p → (p ≡ place) ⊎ (p ≡ place → ⊥) → laid (q ^ t) after lost p < f.size
        code p lp d (inl e) = subst (λ v. v < f.size) (sym (ap (laid (q ^ t) after lost) e ∙ written_code)) (laws.code_below a)
        code p lp d (inr ne) = subst (λ v. v < f.size) (sym (written_other p ne)) (inv.codes p lp (step p lp d ne))

  -- the node of row k in the column, in a plane that helps
  module _ (plane k helper place : ℕ) (lplane : plane < q ^ t) (lk : k < q) (helps_plane : Helps q lost plane) (helper_is : helper ≡ get_or nodes k 0) (place_is : place ≡ companion_place q helper plane) where
    helper_at : helper ≡ node_at q k (column q lost)
    unfolding node_at
    helper_at = helper_is ∙ run.1 k lk

    pub helper_within : helper < q * t
    helper_within = let b = node_bound q pos k (column q lost) t lk (column_bound q pos lost t within) in let e = helper_at in omega arith

    helper_column : column q helper ≡ column q lost
    helper_column = ap (column q) helper_at ∙ column_node q pos k (column q lost) lk

    is_lost : companion_node q helper plane ≡ lost
    is_lost = companion_lost f laws q t pos s.few lost within helper plane helper_column helps_plane

    pub place_within : place < q ^ t
    place_within = let b = companion_place_bound q pos helper plane t helper_within lplane in omega arith

    back_node : companion_node q lost place ≡ helper
    back_node = ap₂ (companion_node q) (sym is_lost) place_is ∙ companion_back q pos helper plane

    back_place : companion_place q lost place ≡ plane
    back_place = ap₂ (companion_place q) (sym is_lost) place_is ∙ companion_place_back q pos helper plane

    -- it gives the word at its companion's place
    gives : (A A' : ℕ → ℕ → E) → ApartLost A' A → (b : E) → b ≡ solution f q t (among nodes) A helper plane
        → given f lost helper (A' helper plane) b ≡ refill f q t (among nodes) lost A place
    unfolding given
    gives A A' apart b b_is = go (cases_eq helper lost)
      where
        go : (helper ≡ lost) ⊎ (helper ≡ lost → ⊥) → cond (eqb helper lost) b (f.product (f.inverse f.coupling) (minus f b (A' helper plane))) ≡ refill f q t (among nodes) lost A place
        go (inl e) =
            let own = companion_own place (back_node ∙ e) in
            cond-true (eqb helper lost) _ _ (eq-eqb helper lost e) ∙ b_is ∙ ap₂ (solution f q t (among nodes) A) e (sym back_place ∙ own.1) ∙ sym (refill_own A place own.0)
        go (inr ne) =
            cond-false (eqb helper lost) _ _ (ne_eqb helper lost ne)
            ∙ ap₂ (λ v w. f.product (f.inverse f.coupling) (minus f v w))
            (b_is ∙ sym (ap₂ (solution f q t (among nodes) A) back_node back_place))
            (apart helper plane helper_within lplane ne ∙ sym (ap₂ A back_node back_place))
            ∙ sym (refill_pair A place (companion_not place (λ e. ne (sym back_node ∙ e))))

    -- one row more
    pub row_more : (before now after : List ℕ) (a b : E) → q * t * q ^ t ≤ length now → PlaneRefilled f q t (among nodes) lost plane k before now
        → b ≡ solution f q t (among nodes) (symbols f (q ^ t) before) helper plane → a ≡ given f lost helper (symbols f (q ^ t) now helper plane) b
        → after ≡ set now (lost * q ^ t + place) (f.code a) → PlaneRefilled f q t (among nodes) lost plane (k + 1) before after
    row_more before now after a b room inv b_is a_is same = record {
      filled = write_one place before now after a place_within room same
          (λ p. (companion_place q lost p ≡ plane) × (digit q p (column q lost) < k)) (λ p. (companion_place q lost p ≡ plane) × (digit q p (column q lost) < k + 1)) earlier inv.filled
          (a_is ∙ gives (symbols f (q ^ t) before) (symbols f (q ^ t) now) (others_apart before now inv.filled.others) b b_is);
      kept = λ p lp ne. written_other place before now after a place_within room same p (λ e. ne (ap (companion_place q lost) e ∙ back_place)) ∙ inv.kept p lp ne;
    }
      where
        at_place : (p : ℕ) → companion_place q lost p ≡ plane → digit q p (column q lost) ≡ k → p ≡ place
        at_place p e d =
            sym (companion_place_back q pos lost p) ∙ ap₂ (companion_place q) (companion_at p k d ∙ sym helper_at) e ∙ sym place_is

        earlier : (p : ℕ) → p < q ^ t → (companion_place q lost p ≡ plane) × (digit q p (column q lost) < k + 1) → p ≢ place → (companion_place q lost p ≡ plane) × (digit q p (column q lost) < k)
        earlier p lp d ne = (d.0, let m : digit q p (column q lost) ≢ k = (λ e. ne (at_place p d.0 e)) in let l = d.1 in omega arith)

  -- a plane that does not help is no companion's
  pub planes_skip : (plane : ℕ) (before now : List ℕ) → (Helps q lost plane → ⊥) → RefilledWhere f q t (among nodes) lost (λ p. companion_place q lost p < plane) before now
      → RefilledWhere f q t (among nodes) lost (λ p. companion_place q lost p < plane + 1) before now
  planes_skip plane before now no_help inv = record { made = λ p lp d. inv.made p lp (low p d); codes = λ p lp d. inv.codes p lp (low p d); others = inv.others }
    where
      low : (p : ℕ) → companion_place q lost p < plane + 1 → companion_place q lost p < plane
      low p d = let m : companion_place q lost p ≢ plane = (λ e. no_help (ap (λ r. digit q r (column q lost)) (sym e) ∙ digit_companion q pos lost p)) in omega arith

  pub planes_more : (plane : ℕ) (before now after : List ℕ) → RefilledWhere f q t (among nodes) lost (λ p. companion_place q lost p < plane) before now
      → PlaneRefilled f q t (among nodes) lost plane q now after → RefilledWhere f q t (among nodes) lost (λ p. companion_place q lost p < plane + 1) before after
  planes_more plane before now after inv new = record {
    made = λ p lp d. at p lp d (cases_eq (companion_place q lost p) plane);
    codes = λ p lp d. code p lp d (cases_eq (companion_place q lost p) plane);
    others = λ k h. new.filled.others k h ∙ inv.others k h;
  }
    where
      at : (p : ℕ) → p < q ^ t → companion_place q lost p < plane + 1 → (companion_place q lost p ≡ plane) ⊎ (companion_place q lost p ≡ plane → ⊥)
          → symbols f (q ^ t) after lost p ≡ refill f q t (among nodes) lost (symbols f (q ^ t) before) p
      at p lp d (inl e) =
          new.filled.made p lp (e, digit_bound q pos p (column q lost))
          ∙ refill_other (symbols f (q ^ t) now) (symbols f (q ^ t) before) (others_apart before now inv.others) p lp
      at p lp d (inr ne) = ap (read f) (new.kept p lp ne) ∙ inv.made p lp (omega arith)

      code : (p : ℕ) → p < q ^ t → companion_place q lost p < plane + 1 → (companion_place q lost p ≡ plane) ⊎ (companion_place q lost p ≡ plane → ⊥) → laid (q ^ t) after lost p < f.size
      code p lp d (inl e) = new.filled.codes p lp (e, digit_bound q pos p (column q lost))
      code p lp d (inr ne) = subst (λ v. v < f.size) (sym (new.kept p lp ne)) (inv.codes p lp (omega arith))

  pub planes_all : (plane : ℕ) (before after : List ℕ) → q ^ t ≤ plane → RefilledWhere f q t (among nodes) lost (λ p. companion_place q lost p < plane) before after
      → RefilledWhere f q t (among nodes) lost (λ p. p < q ^ t) before after
  planes_all plane before after l inv = record { made = λ p lp d. inv.made p lp (low p lp); codes = λ p lp d. inv.codes p lp (low p lp); others = inv.others }
    where
      low : (p : ℕ) → p < q ^ t → companion_place q lost p < plane
      low p lp = let b = companion_place_bound q pos lost p t within lp in omega arith

  -- the result
  module _ (rises : rising (q * t) nodes ≡ true) (before after : List ℕ) (good : good_help f q t (laid (q ^ t) before) lost ≡ true) (filled : RefilledWhere f q t (among nodes) lost (λ p. p < q ^ t) before after) where
    A : ℕ → ℕ → E
    A = symbols f (q ^ t) before

    -- helper words are codes
    helper_code : (i p : ℕ) → i < q * t → p < q ^ t → digit q p (column q lost) ≡ row q lost → i ≢ lost → laid (q ^ t) before i p < f.size
    helper_code i p li lp h ne =
        let row_good = every_at (λ j. cond (eqb j lost) true (helper_codes f q t (laid (q ^ t) before) lost j)) (q * t) good i li in
        let here = sym (cond-false (eqb i lost) true (helper_codes f q t (laid (q ^ t) before) lost i) (ne_eqb i lost ne)) ∙ row_good in
        let word = every_at (λ r. cond (helps q lost r) (ltb (laid (q ^ t) before i r) f.size) true) (q ^ t) here p lp in
        ltb-true (laid (q ^ t) before i p) f.size (sym (cond-true (helps q lost p) (ltb (laid (q ^ t) before i p) f.size) true (eq-eqb (digit q p (column q lost)) (row q lost) h)) ∙ word)

    c : ℕ → ℕ
    c = laid (q ^ t) after lost

    solves : (p : ℕ) → Solves f laws q t pos (in_column q (column q lost)) q A (solution f q t (among nodes) A) p
    solves p e le =
        let n = rising_count (q * t) nodes rises in
        let m = run.0 in
        moment_same f laws f.point (λ i. cond (in_column q (column q lost) i) (solution f q t (among nodes) A i p) (uncoupled f q A i p))
        (λ i. cond (among nodes i) (solution f q t (among nodes) A i p) (uncoupled f q A i p)) (q * t) e
        (λ i li. ap (λ b. cond b (solution f q t (among nodes) A i p) (uncoupled f q A i p)) (sym (as_column i)))
        ∙ solution_solves f laws q t pos (among nodes) s.few A p q (omega arith) e le

    -- in any array with the same helper words
    module _ (v : Words) (same : SameHelp f q t lost v (laid (q ^ t) before)) where
      other : (d : ℕ → ℕ) (i p : ℕ) → i ≢ lost → elements f (with_node v lost d) i p ≡ f.of (v i p)
      other d i p ne = ap (λ r. f.of (r p)) (cond-false (eqb i lost) d (v i) (ne_eqb i lost ne))

      own : (d : ℕ → ℕ) (p : ℕ) → with_node v lost d lost p ≡ d p
      own d p = ap (λ r. r p) (cond-true (eqb lost lost) d (v lost) (eq-eqb lost lost refl))

      made : (p : ℕ) → p < q ^ t → elements f (with_node v lost c) lost p ≡ refill f q t (among nodes) lost A p
      unfolding c A
      made p lp = ap f.of (own (laid (q ^ t) after lost) p) ∙ sym (read_code f (laid (q ^ t) after lost p) (filled.codes p lp lp)) ∙ filled.made p lp lp

      helper : (i p : ℕ) → i < q * t → p < q ^ t → digit q p (column q lost) ≡ row q lost → i ≢ lost → f.of (v i p) ≡ A i p
      unfolding A
      helper i p li lp h ne =
          ap f.of (same i p li lp (eq-eqb (digit q p (column q lost)) (row q lost) h) ne) ∙ sym (read_code f (laid (q ^ t) before i p) (helper_code i p li lp h ne))

      checks : (p e : ℕ) → p < q ^ t → e < q → digit q p (column q lost) ≡ row q lost → check f q t (elements f (with_node v lost c)) p e ≡ f.zero
      checks =
          repaired_by f laws q t pos s.few lost within A (solution f q t (among nodes) A) (elements f (with_node v lost c)) (λ p lp h. solves p)
          (λ i p li lp h ne. other c i p ne ∙ helper i p li lp h ne)
          (λ p lp h. made p lp ∙ refill_own A p h) (λ p lp h. made p lp ∙ refill_pair A p h)

      pub only_refill : OnlyRefill f q t v lost (laid (q ^ t) after lost)
      unfolding c
      only_refill = record {
        refills = record {
          codes = λ p lp. subst (λ u. u < f.size) (sym (own c p)) (filled.codes p lp lp);
          checks = λ p e lp le h. checks p e lp le (eqb-true (digit q p (column q lost)) (row q lost) h);
        };
        only = λ d fills p lp.
            same_word f laws (d p) (c p) (subst (λ u. u < f.size) (own d p) (fills.codes p lp)) (filled.codes p lp lp)
            (sym (ap f.of (own d p))
            ∙ repair_only_one f laws q t pos s.few lost within (elements f (with_node v lost d)) (elements f (with_node v lost c))
            (λ r e lr le h. fills.checks r e lr le (eq-eqb (digit q r (column q lost)) (row q lost) h)) checks (λ i r li lr h ne. other d i r ne ∙ sym (other c i r ne)) p lp
            ∙ ap f.of (own c p));
      }
