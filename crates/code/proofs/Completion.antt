-- Completion: erased nodes can be filled so that the checks hold, score by score. Assumes nothing.
use Rattle.std.proofs.Common.{◌≡◌, ℕ, zero, suc, ◌*◌, ◌^◌, ◌<◌, ◌≤◌, Bool, true, false, cond, eqb, ◌≢◌, ◌⊎◌, sym, refl, ap, ◌∙◌, ap₂, inl, inr, arith}
use Rattle.std.proofs.lemmas.Bool.{cases_eq, cases_Bool, eq-eqb, ne_eqb, cond-true, cond-false}
use Rattle.field.specs.Field.{Arith, Laws}
use Rattle.shape.specs.Layout.{digit, row, column, companion_node, companion_place}
use Rattle.shape.specs.Outages.{count}
use Rattle.code.specs.Filling.{score, of_pair, turn, known, solution}
use Rattle.code.specs.Code.{moment, uncoupled, Checks}
use Rattle.shape.proofs.Digits.{companion_bound, companion_place_bound, companion_back, companion_place_back}
use Rattle.code.proofs.Ring.{minus, zero_sum, minus_back, neg_sum}
use Rattle.code.proofs.Sums.{moment_same, moment_sum}
use Rattle.code.proofs.Scores.{score_lower, score_equal, score_bound}
use Rattle.code.proofs.Vandermonde.{solved}
use Rattle.code.proofs.Uncoupling.{pair_back, uncoupled_own, uncoupled_pair, uncoupled_same, companion_apart}
use Rattle.code.proofs.OnlyOne.{nodes_apart}

module _ {E : Type 0} (f : Arith E) where
  -- the planes of score s, filled
  step : (q t : ℕ) (erased : ℕ → Bool) (s : ℕ) (A : ℕ → ℕ → E) (i p : ℕ) → E
  step q t erased s A i p =
      cond (erased i) (cond (eqb (score q t erased p) s) (turn f q erased A (solution f q t erased A) i p) (A i p)) (A i p)

  -- the planes of score below s, filled with rising score
  complete : (q t : ℕ) (erased : ℕ → Bool) (s : ℕ) (A : ℕ → ℕ → E) (i p : ℕ) → E
  complete q t erased zero A = A
  complete q t erased (suc s) A = step q t erased s (complete q t erased s A)

module _ {E : Type 0} (f : Arith E) (laws : Laws f) (q t : ℕ) (pos : 0 < q) (S : ℕ → Bool) where
  open f use {sum as ◌⊕◌, product as ◌⊗◌, negative as ⊖◌, zero as 𝟎, coupling as u}

  infixl 60 ◌⊕◌
  infixl 70 ◌⊗◌
  infixr 80 ⊖◌
  abbrev RowIsDigit : ℕ → ℕ → Type 0
  RowIsDigit i p = row q i ≡ digit q p (column q i)

  -- two arrays agree at the nodes that are not erased, and in the planes of score below s
  abbrev pub AgreeBelow : (s : ℕ) (A A' : ℕ → ℕ → E) → Type 0
  AgreeBelow s A A' = (i p : ℕ) → i < q * t → p < q ^ t → (S i ≡ false) ⊎ (score q t S p < s) → A i p ≡ A' i p

  -- the uncoupled symbols in a plane depend only on the planes of its score and below, and on what is not erased
  pub uncoupled_steady : (A A' : ℕ → ℕ → E) (p : ℕ) → p < q ^ t → AgreeBelow (suc (score q t S p)) A A'
      → (i : ℕ) → i < q * t → uncoupled f q A i p ≡ uncoupled f q A' i p
  uncoupled_steady A A' p lp agree i li = uncoupled_same f laws q A A' i p (agree i p li lp (inr (omega arith))) (λ o. go (cases_Bool (S i)) (cases_Bool (S c)))
    where
      c : ℕ
      c = companion_node q i p

      d : ℕ
      d = companion_place q i p

      at : (S c ≡ false) ⊎ (score q t S d < suc (score q t S p)) → A c d ≡ A' c d
      at = agree c d (companion_bound q pos i p t li) (companion_place_bound q pos i p t li lp)

      go : (S i ≡ true) ⊎ (S i ≡ false) → (S c ≡ true) ⊎ (S c ≡ false) → A c d ≡ A' c d
      go a (inr out) = at (inl out)
      go (inl a) (inl b) = let k = score_equal q t pos S i p li a b in at (inr (omega arith))
      go (inr a) (inl b) = let k = score_lower q t pos S i p li a b in at (inr (omega arith))

  -- those of the nodes that are not erased, only on the planes below
  pub known_steady : (A A' : ℕ → ℕ → E) (p : ℕ) → p < q ^ t → AgreeBelow (score q t S p) A A'
      → (i : ℕ) → i < q * t → S i ≡ false → uncoupled f q A i p ≡ uncoupled f q A' i p
  known_steady A A' p lp agree i li out = uncoupled_same f laws q A A' i p (agree i p li lp (inl out)) (λ o. go (cases_Bool (S c)))
    where
      c : ℕ
      c = companion_node q i p

      d : ℕ
      d = companion_place q i p

      at : (S c ≡ false) ⊎ (score q t S d < score q t S p) → A c d ≡ A' c d
      at = agree c d (companion_bound q pos i p t li) (companion_place_bound q pos i p t li lp)

      go : (S c ≡ true) ⊎ (S c ≡ false) → A c d ≡ A' c d
      go (inr k) = at (inl k)
      go (inl k) = at (inr (score_lower q t pos S i p li out k))

  -- the checks of the planes of score below s hold
  abbrev pub Done : (m s : ℕ) (A : ℕ → ℕ → E) → Type 0
  Done m s A = (p e : ℕ) → p < q ^ t → e < m → score q t S p < s → moment f f.point (λ i. uncoupled f q A i p) (q * t) e ≡ 𝟎

  -- b has uncoupled symbols for the erased nodes in plane p with which the checks of the plane hold
  abbrev pub Solves : (m : ℕ) (A b : ℕ → ℕ → E) (p : ℕ) → Type 0
  Solves m A b p = (e : ℕ) → e < m → moment f f.point (λ i. cond (S i) (b i p) (uncoupled f q A i p)) (q * t) e ≡ 𝟎

  -- A' is A, with symbols whose uncoupled symbols are b at the erased nodes in the planes of score s
  pub record Turned (s : ℕ) (A b A' : ℕ → ℕ → E) : Type 0 where
    pub kept : (i p : ℕ) → i < q * t → p < q ^ t → (S i ≡ false) ⊎ (score q t S p ≢ s) → A' i p ≡ A i p
    pub uncouples : (i p : ℕ) → i < q * t → p < q ^ t → S i ≡ true → score q t S p ≡ s → uncoupled f q A' i p ≡ b i p

  agree_turned : (s r : ℕ) (A b A' : ℕ → ℕ → E) → Turned s A b A' → r ≤ s → AgreeBelow r A' A
  agree_turned s r A b A' turned l i p li lp (inl out) = turned.kept i p li lp (inl out)
  agree_turned s r A b A' turned l i p li lp (inr k) = turned.kept i p li lp (inr (omega arith))

  -- one score more
  pub done_more : (m s : ℕ) (A b A' : ℕ → ℕ → E) → Done m s A → ((p : ℕ) → p < q ^ t → score q t S p ≡ s → Solves m A b p) → Turned s A b A' → Done m (suc s) A'
  done_more m s A b A' done solves turned p e lp le ls = go (cases_eq (score q t S p) s)
    where
      B : ℕ → E
      B i = uncoupled f q A' i p

      here : score q t S p ≡ s → (i : ℕ) → i < q * t → (S i ≡ true) ⊎ (S i ≡ false) → B i ≡ cond (S i) (b i p) (uncoupled f q A i p)
      here k i li (inl x) = turned.uncouples i p li lp x k ∙ sym (cond-true (S i) (b i p) (uncoupled f q A i p) x)
      here k i li (inr x) =
          known_steady A' A p lp (agree_turned s (score q t S p) A b A' turned (omega arith)) i li x ∙ sym (cond-false (S i) (b i p) (uncoupled f q A i p) x)

      go : (score q t S p ≡ s) ⊎ (score q t S p ≡ s → ⊥) → moment f f.point (λ i. uncoupled f q A' i p) (q * t) e ≡ 𝟎
      go (inl k) =
          moment_same f laws f.point B (λ i. cond (S i) (b i p) (uncoupled f q A i p)) (q * t) e (λ i li. here k i li (cases_Bool (S i)))
          ∙ solves p lp k e le
      go (inr k) =
          moment_same f laws f.point B (λ i. uncoupled f q A i p) (q * t) e
          (uncoupled_steady A' A p lp (agree_turned s (suc (score q t S p)) A b A' turned (omega arith)))
          ∙ done p e lp le (omega arith)

  module _ (A b : ℕ → ℕ → E) (i p : ℕ) where
    pub turn_own : RowIsDigit i p → turn f q S A b i p ≡ b i p
    unfolding turn
    turn_own o = cond-true (eqb (row q i) (digit q p (column q i))) _ _ (eq-eqb (row q i) (digit q p (column q i)) o)

    pub turn_both : (RowIsDigit i p → ⊥) → S (companion_node q i p) ≡ true → turn f q S A b i p ≡ of_pair f (b i p) (b (companion_node q i p) (companion_place q i p))
    unfolding turn
    turn_both o k = cond-false (eqb (row q i) (digit q p (column q i))) _ _ (ne_eqb (row q i) (digit q p (column q i)) o) ∙ cond-true (S (companion_node q i p)) _ _ k

    pub turn_one : (RowIsDigit i p → ⊥) → S (companion_node q i p) ≡ false → turn f q S A b i p ≡ minus f (b i p) (u ⊗ A (companion_node q i p) (companion_place q i p))
    unfolding turn
    turn_one o k = cond-false (eqb (row q i) (digit q p (column q i))) _ _ (ne_eqb (row q i) (digit q p (column q i)) o) ∙ cond-false (S (companion_node q i p)) _ _ k

  -- an array made so is turned
  pub turned_by : (s : ℕ) (A b A' : ℕ → ℕ → E)
      → ((i p : ℕ) → i < q * t → p < q ^ t → (S i ≡ false) ⊎ (score q t S p ≢ s) → A' i p ≡ A i p)
      → ((i p : ℕ) → i < q * t → p < q ^ t → S i ≡ true → score q t S p ≡ s → A' i p ≡ turn f q S A b i p)
      → Turned s A b A'
  turned_by s A b A' kept made = record { kept = kept; uncouples = λ i p li lp x k. go i p li lp x k (cases_eq (row q i) (digit q p (column q i))) (cases_Bool (S (companion_node q i p))) }
    where
      go : (i p : ℕ) → i < q * t → p < q ^ t → S i ≡ true → score q t S p ≡ s
          → RowIsDigit i p ⊎ (RowIsDigit i p → ⊥) → (S (companion_node q i p) ≡ true) ⊎ (S (companion_node q i p) ≡ false) → uncoupled f q A' i p ≡ b i p
      go i p li lp x k (inl o) y = uncoupled_own f laws q A' i p o ∙ made i p li lp x k ∙ turn_own A b i p o
      go i p li lp x k (inr o) (inr y) =
          let c : ℕ = companion_node q i p in
          let d : ℕ = companion_place q i p in
          uncoupled_pair f laws q A' i p o
          ∙ ap₂ (λ v w. v ⊕ u ⊗ w) (made i p li lp x k ∙ turn_one A b i p o y)
          (kept c d (companion_bound q pos i p t li) (companion_place_bound q pos i p t li lp) (inl y))
          ∙ minus_back f laws (b i p) (u ⊗ A c d)
      go i p li lp x k (inr o) (inl y) =
          let c : ℕ = companion_node q i p in
          let d : ℕ = companion_place q i p in
          let back : turn f q S A b c d ≡ of_pair f (b c d) (b i p)
          = turn_both A b c d (companion_apart f laws q A i p pos o) (ap S (companion_back q pos i p) ∙ x)
          ∙ ap₂ (λ j r. of_pair f (b c d) (b j r)) (companion_back q pos i p) (companion_place_back q pos i p) in
          uncoupled_pair f laws q A' i p o
          ∙ ap₂ (λ v w. v ⊕ u ⊗ w) (made i p li lp x k ∙ turn_both A b i p o y)
          (made c d (companion_bound q pos i p t li) (companion_place_bound q pos i p t li lp) y (score_equal q t pos S i p li x y ∙ k) ∙ back)
          ∙ pair_back f laws (b i p) (b c d)

  module _ (fits : q * t ≤ 16) where
    pub solution_solves : (A : ℕ → ℕ → E) (p m : ℕ) → m ≤ count S (q * t) → Solves m A (solution f q t S A) p
    unfolding solution
    solution_solves A p m enough e le =
        moment_same f laws f.point (λ i. cond (S i) (solution f q t S A i p) (uncoupled f q A i p)) (λ i. solution f q t S A i p ⊕ known f q S A p i) (q * t) e (λ i li. parts i li (cases_Bool (S i)))
        ∙ moment_sum f laws f.point (λ i. solution f q t S A i p) (known f q S A p) (q * t) e
        ∙ ap (λ v. v ⊕ moment f f.point (known f q S A p) (q * t) e) (solves.1 e (omega arith))
        ∙ neg_sum f laws (moment f f.point (known f q S A p) (q * t) e)
      where
        solves : ((i : ℕ) → i < q * t → S i ≡ false → solution f q t S A i p ≡ 𝟎)
            × ((e : ℕ) → e < count S (q * t) → moment f f.point (λ i. solution f q t S A i p) (q * t) e ≡ ⊖ moment f f.point (known f q S A p) (q * t) e)
        solves = solved f laws f.point S (q * t) (λ e. ⊖ moment f f.point (known f q S A p) (q * t) e) (nodes_apart f laws q t pos fits)

        parts : (i : ℕ) → i < q * t → (S i ≡ true) ⊎ (S i ≡ false) → cond (S i) (solution f q t S A i p) (uncoupled f q A i p) ≡ solution f q t S A i p ⊕ known f q S A p i
        parts i li (inl x) = cond-true (S i) _ _ x ∙ sym (ap (λ v. solution f q t S A i p ⊕ v) (cond-true (S i) _ _ x) ∙ laws.sum_zero (solution f q t S A i p))
        parts i li (inr x) = cond-false (S i) _ _ x ∙ sym (ap₂ ◌⊕◌ (solves.0 i li x) (cond-false (S i) _ _ x) ∙ zero_sum f laws (uncoupled f q A i p))

    step_turned : (s : ℕ) (A : ℕ → ℕ → E) → Turned s A (solution f q t S A) (step f q t S s A)
    step_turned s A = turned_by s A (solution f q t S A) (step f q t S s A) kept made
      where
        off : (i p : ℕ) → score q t S p ≢ s → (S i ≡ true) ⊎ (S i ≡ false) → step f q t S s A i p ≡ A i p
        off i p ne (inl x) = unfold step in cond-true (S i) _ _ x ∙ cond-false (eqb (score q t S p) s) _ _ (ne_eqb (score q t S p) s ne)
        off i p ne (inr x) = unfold step in cond-false (S i) _ _ x

        kept : (i p : ℕ) → i < q * t → p < q ^ t → (S i ≡ false) ⊎ (score q t S p ≢ s) → step f q t S s A i p ≡ A i p
        kept i p li lp (inl x) = unfold step in cond-false (S i) _ _ x
        kept i p li lp (inr ne) = off i p ne (cases_Bool (S i))

        made : (i p : ℕ) → i < q * t → p < q ^ t → S i ≡ true → score q t S p ≡ s → step f q t S s A i p ≡ turn f q S A (solution f q t S A) i p
        made i p li lp x k = unfold step in cond-true (S i) _ _ x ∙ cond-true (eqb (score q t S p) s) _ _ (eq-eqb (score q t S p) s k)

    complete_done : (m s : ℕ) (A : ℕ → ℕ → E) → m ≤ count S (q * t) → Done m s (complete f q t S s A)
    unfolding complete
    complete_done m zero A enough = λ p e lp le ls. absurd (omega arith)
    complete_done m (suc s) A enough =
        done_more m s (complete f q t S s A) (solution f q t S (complete f q t S s A)) (complete f q t S (suc s) A) (complete_done m s A enough)
        (λ p lp k. solution_solves (complete f q t S s A) p m enough) (step_turned s (complete f q t S s A))

    complete_kept : (s : ℕ) (A : ℕ → ℕ → E) (i p : ℕ) → i < q * t → p < q ^ t → S i ≡ false → complete f q t S s A i p ≡ A i p
    unfolding complete
    complete_kept zero A i p li lp x = refl
    complete_kept (suc s) A i p li lp x = (step_turned s (complete f q t S s A)).kept i p li lp (inl x) ∙ complete_kept s A i p li lp x

    -- where every plane is done, all checks hold
    pub done_all : (m : ℕ) (A : ℕ → ℕ → E) → Done m (suc t) A → Checks f q t m A
    done_all m A done p e lp le = let k = score_bound q t S p in done p e lp le (omega arith)

    pub some_one : (m : ℕ) → m ≤ count S (q * t) → (A : ℕ → ℕ → E)
        → (A' : ℕ → ℕ → E) × ((i p : ℕ) → i < q * t → p < q ^ t → S i ≡ false → A' i p ≡ A i p) × Checks f q t m A'
    some_one m enough A = (complete f q t S (suc t) A, complete_kept (suc t) A, done_all m (complete f q t S (suc t) A) (complete_done m (suc t) A enough))
