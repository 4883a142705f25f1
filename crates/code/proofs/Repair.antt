-- Repair of one node, from the planes whose digit in the node's column is the node's row. Assumes nothing.
use Rattle.std.proofs.Common.{◌≡◌, ℕ, zero, suc, ◌+◌, ◌*◌, ◌^◌, ◌<◌, ◌≤◌, Bool, true, false, cond, eqb, ◌≢◌, ◌⊎◌, sym, refl, ap, ◌∙◌, ap₂, inl, inr, add-zero, add-suc, mul-zero, mul-suc, arith}
use lib.Arith.{digits_div}
use Rattle.std.proofs.lemmas.Bool.{cases_eq, cases_Bool, eqb-true, eqb-false, eq-eqb, ne_eqb, cond-true, cond-false}
use Rattle.field.specs.Field.{Arith, Laws}
use Rattle.shape.specs.Layout.{digit, node_at, row, column, companion_node, companion_place}
use Rattle.shape.specs.Outages.{count}
use Rattle.code.specs.Code.{uncoupled}
use Rattle.code.specs.Theorems.{Helps, HelpChecks, AgreeHelp}
use Rattle.shape.proofs.Digits.{row_bound, column_bound, node_own, row_companion, column_companion, digit_companion, digit_with_other, companion_bound, companion_place_bound, companion_back, companion_place_back}
use Rattle.code.proofs.Ring.{minus, zero_sum, minus_back, minus_self, same, factor_zero, inverse_back}
use Rattle.code.proofs.Sums.{moment_same}
use Rattle.shape.proofs.Counts.{count_all, count_none}
use Rattle.code.specs.Filling.{in_column, solution}
use Rattle.code.proofs.Vandermonde.{only_zero}
use Rattle.code.proofs.Uncoupling.{uncoupled_own, uncoupled_pair, uncoupled_companion, uncoupled_same, less, check_less}
use Rattle.code.proofs.OnlyOne.{nodes_apart, sum_none}
use Rattle.code.proofs.Completion.{Solves, solution_solves}

pub count_add : (g : ℕ → Bool) (a b : ℕ) → count g (a + b) ≡ count g a + count (λ j. g (a + j)) b
unfolding count
count_add g a zero = ap (count g) (add-zero a) ∙ sym (add-zero (count g a))
count_add g a (suc b) =
    let k = count_add g a b in
    ap (count g) (add-suc a b) ∙ omega arith

module _ (q y : ℕ) (pos : 0 < q) where
  column_block : (t j : ℕ) → j < q → column q (q * t + j) ≡ t
  unfolding column
  column_block t j l = rw (let k : q * t ≡ t * q = omega arith in k) (digits_div t l)

  block : (t : ℕ) → (t ≡ y → count (λ j. in_column q y (q * t + j)) q ≡ q) × ((t ≡ y → ⊥) → count (λ j. in_column q y (q * t + j)) q ≡ 0)
  unfolding in_column
  block t = (
    (λ e. count_all (λ j. eqb (column q (q * t + j)) y) q (λ j l. eq-eqb (column q (q * t + j)) y (column_block t j l ∙ e))),
    (λ ne. count_none (λ j. eqb (column q (q * t + j)) y) q (λ j l. ne_eqb (column q (q * t + j)) y (λ e. ne (sym (column_block t j l) ∙ e)))),
  )

  column_count : (t : ℕ) → (t ≤ y → count (in_column q y) (q * t) ≡ 0) × (y < t → count (in_column q y) (q * t) ≡ q)
  column_count zero = ((λ l. ap (count (in_column q y)) (mul-zero q) ∙ (unfold count in refl)), λ l. absurd (omega arith))
  column_count (suc t) = go (column_count t) (cases_eq t y)
    where
      more : count (in_column q y) (q * suc t) ≡ count (in_column q y) (q * t) + count (λ j. in_column q y (q * t + j)) q
      more = ap (count (in_column q y)) (mul-suc q t) ∙ count_add (in_column q y) (q * t) q

      go : (t ≤ y → count (in_column q y) (q * t) ≡ 0) × (y < t → count (in_column q y) (q * t) ≡ q) → (t ≡ y) ⊎ (t ≡ y → ⊥)
          → (suc t ≤ y → count (in_column q y) (q * suc t) ≡ 0) × (y < suc t → count (in_column q y) (q * suc t) ≡ q)
      go b (inl e) = ((λ l. absurd (omega arith)), λ l. let k = b.0 (omega arith) in let c = (block t).0 e in omega (arith, more))
      go b (inr ne) = (
        (λ l. let k = b.0 (omega arith) in let c = (block t).1 ne in omega (arith, more)),
        λ l. let k = b.1 (omega arith) in let c = (block t).1 ne in omega (arith, more),
      )

module _ {E : Type 0} (f : Arith E) (laws : Laws f) (q t : ℕ) (pos : 0 < q) (fits : q * t ≤ 16) (lost : ℕ) (within : lost < q * t) where
  open f use {sum as ◌⊕◌, product as ◌⊗◌, negative as ⊖◌, zero as 𝟎, coupling as u, inverse}

  infixl 60 ◌⊕◌
  infixl 70 ◌⊗◌
  infixr 80 ⊖◌
  abbrev Col : ℕ → Bool
  Col = in_column q (column q lost)

  column_size : count Col (q * t) ≡ q
  column_size = (column_count q (column q lost) pos t).1 (column_bound q pos lost t within)

  col_out : (i : ℕ) → Col i ≡ false → column q i ≢ column q lost
  unfolding in_column
  col_out i e = eqb-false (column q i) (column q lost) e

  col_in : (i : ℕ) → Col i ≡ true → column q i ≡ column q lost
  unfolding in_column
  col_in i e = eqb-true (column q i) (column q lost) e

  -- in another column, a node's companion in a plane that is read lies in a plane that is read
  other_read : (i p : ℕ) → column q i ≢ column q lost → Helps q lost p → Helps q lost (companion_place q i p)
  unfolding companion_place
  other_read i p ne r = digit_with_other q pos p (column q i) (row q i) (column q lost) (row_bound q pos i) ne ∙ r

  uncoupled_other : (A A' : ℕ → ℕ → E) → AgreeHelp f q t lost A A' → (i p : ℕ) → i < q * t → p < q ^ t → Helps q lost p → Col i ≡ false → uncoupled f q A i p ≡ uncoupled f q A' i p
  uncoupled_other A A' agree i p li lp r out =
      let ne : column q i ≢ column q lost = col_out i out in
      uncoupled_same f laws q A A' i p (agree i p li lp r (λ e. ne (ap (column q) e)))
      (λ o. agree (companion_node q i p) (companion_place q i p) (companion_bound q pos i p t li) (companion_place_bound q pos i p t li lp)
      (other_read i p ne r) (λ e. ne (sym (column_companion q pos i p) ∙ ap (column q) e)))

  -- the companions of the lost node
  lost_read : (p : ℕ) → Helps q lost (companion_place q lost p)
  lost_read p = digit_companion q pos lost p

  lost_apart : (p : ℕ) → (row q lost ≡ digit q p (column q lost) → ⊥) → companion_node q lost p ≢ lost
  lost_apart p ne e = ne (sym (ap (row q) e) ∙ row_companion q pos lost p)

  module _ (D : ℕ → ℕ → E) (checks : HelpChecks f q t lost D) (known : (i p : ℕ) → i < q * t → p < q ^ t → Helps q lost p → i ≢ lost → D i p ≡ 𝟎) where
    nothing : (i p : ℕ) → row q i ≡ digit q p (column q i) ⊎ (row q i ≡ digit q p (column q i) → ⊥) → uncoupled f q (λ i p. 𝟎) i p ≡ 𝟎
    nothing i p (inl o) = uncoupled_own f laws q (λ i p. 𝟎) i p o
    nothing i p (inr o) = uncoupled_pair f laws q (λ i p. 𝟎) i p o ∙ sum_none f laws q t pos fits 𝟎 𝟎 refl

    read_plane : (p : ℕ) → p < q ^ t → Helps q lost p → (i : ℕ) → i < q * t → uncoupled f q D i p ≡ 𝟎
    read_plane p lp r =
        let k = column_size in
        only_zero f laws f.point Col (q * t) q (λ i. uncoupled f q D i p) (nodes_apart f laws q t pos fits) (omega arith)
        (λ i li out. uncoupled_other D (λ i p. 𝟎) known i p li lp r out ∙ nothing i p (cases_eq (row q i) (digit q p (column q i))))
        (λ e le. checks p e lp le r)

    lost_zero : (p : ℕ) → p < q ^ t → D lost p ≡ 𝟎
    lost_zero p lp = go (cases_eq (row q lost) (digit q p (column q lost)))
      where
        c : ℕ
        c = companion_node q lost p

        d : ℕ
        d = companion_place q lost p

        lc : c < q * t
        lc = companion_bound q pos lost p t within

        ld : d < q ^ t
        ld = companion_place_bound q pos lost p t within lp

        go : (row q lost ≡ digit q p (column q lost)) ⊎ (row q lost ≡ digit q p (column q lost) → ⊥) → D lost p ≡ 𝟎
        go (inl o) = sym (uncoupled_own f laws q D lost p o) ∙ read_plane p lp (sym o) lost within
        go (inr o) =
            factor_zero f laws u (D lost p) laws.coupling_zero
            (sym (zero_sum f laws (u ⊗ D lost p)) ∙ ap (λ v. v ⊕ u ⊗ D lost p) (sym (known c d lc ld (lost_read p) (lost_apart p o)))
            ∙ sym (uncoupled_companion f laws q D lost p pos o) ∙ read_plane d ld (lost_read p) c lc)

  -- what the lost node held is settled by what is read
  pub repair_only_one : (A A' : ℕ → ℕ → E) → HelpChecks f q t lost A → HelpChecks f q t lost A' → AgreeHelp f q t lost A A' → (p : ℕ) → p < q ^ t → A lost p ≡ A' lost p
  repair_only_one A A' checks checks' agree p lp =
      same f laws (A lost p) (A' lost p)
      (lost_zero (less f laws A A') (λ p e lp le r. check_less f laws q A A' p (q * t) e (checks p e lp le r) (checks' p e lp le r))
      (λ i p li lp r ne. minus_self f laws (A i p) (A' i p) (agree i p li lp r ne)) p lp)

  -- the companion of a node of the column, in a plane that is read
  pub companion_lost : (i p : ℕ) → column q i ≡ column q lost → Helps q lost p → companion_node q i p ≡ lost
  unfolding companion_node
  companion_lost i p k r = ap₂ (node_at q) (ap (digit q p) k ∙ r) k ∙ node_own q pos lost

  -- b solves the planes that are read, and the lost node is made from b
  pub repaired_by : (A b A' : ℕ → ℕ → E)
      → ((p : ℕ) → p < q ^ t → Helps q lost p → Solves f laws q t pos Col q A b p)
      → AgreeHelp f q t lost A' A
      → ((p : ℕ) → p < q ^ t → Helps q lost p → A' lost p ≡ b lost p)
      → ((p : ℕ) → p < q ^ t → (Helps q lost p → ⊥) → A' lost p ≡ inverse u ⊗ minus f (b (companion_node q lost p) (companion_place q lost p)) (A (companion_node q lost p) (companion_place q lost p)))
      → HelpChecks f q t lost A'
  repaired_by A b A' solves agree own pair p e lp le r =
      moment_same f laws f.point (λ i. uncoupled f q A' i p) (λ i. cond (Col i) (b i p) (uncoupled f q A i p)) (q * t) e
      (λ i li. go i li (cases_Bool (Col i)) (cases_eq (row q i) (digit q p (column q i))))
      ∙ solves p lp r e le
    where
      in_col : (i : ℕ) → i < q * t → column q i ≡ column q lost → row q i ≡ digit q p (column q i) ⊎ (row q i ≡ digit q p (column q i) → ⊥) → uncoupled f q A' i p ≡ b i p
      in_col i li k (inl o) =
          let is : i ≡ lost = sym (node_own q pos i) ∙ ap₂ (node_at q) (o ∙ ap (digit q p) k ∙ r) k ∙ node_own q pos lost in
          uncoupled_own f laws q A' i p o ∙ ap (λ j. A' j p) is ∙ own p lp r ∙ ap (λ j. b j p) (sym is)
      in_col i li k (inr o) =
          let d : ℕ = companion_place q i p in
          let is : companion_node q i p ≡ lost = companion_lost i p k r in
          let back : companion_node q lost d ≡ i = ap (λ j. companion_node q j d) (sym is) ∙ companion_back q pos i p in
          let back_plane : companion_place q lost d ≡ p = ap (λ j. companion_place q j d) (sym is) ∙ companion_place_back q pos i p in
          let ne : row q i ≢ row q lost = λ e. o (e ∙ sym r ∙ ap (digit q p) (sym k)) in
          let unread : Helps q lost d → ⊥ = λ e. ne (sym (digit_companion q pos i p) ∙ ap (digit q d) k ∙ e) in
          uncoupled_pair f laws q A' i p o
          ∙ ap₂ (λ v w. v ⊕ u ⊗ w) (agree i p li lp r (λ e. ne (ap (row q) e)))
          (ap (λ j. A' j d) is ∙ pair d (companion_place_bound q pos i p t li lp) unread ∙ ap₂ (λ j s. inverse u ⊗ minus f (b j s) (A j s)) back back_plane)
          ∙ ap (λ v. A i p ⊕ v) (inverse_back f laws u (minus f (b i p) (A i p)) laws.coupling_zero)
          ∙ laws.sum_comm (A i p) (minus f (b i p) (A i p)) ∙ minus_back f laws (b i p) (A i p)

      go : (i : ℕ) → i < q * t → (Col i ≡ true) ⊎ (Col i ≡ false) → row q i ≡ digit q p (column q i) ⊎ (row q i ≡ digit q p (column q i) → ⊥)
          → uncoupled f q A' i p ≡ cond (Col i) (b i p) (uncoupled f q A i p)
      go i li (inr x) o = uncoupled_other A' A agree i p li lp r x ∙ sym (cond-false (Col i) _ _ x)
      go i li (inl x) o = in_col i li (col_in i x) o ∙ sym (cond-true (Col i) _ _ x)

  -- the repaired array
  pub repaired : (A : ℕ → ℕ → E) (i p : ℕ) → E
  repaired A i p =
      let b : ℕ → ℕ → E = solution f q t Col A in
      let c : ℕ = companion_node q lost p in
      let d : ℕ = companion_place q lost p in
      cond (eqb i lost) (cond (eqb (digit q p (column q lost)) (row q lost)) (b lost p) (inverse u ⊗ minus f (b c d) (A c d))) (A i p)

  pub repaired_kept : (A : ℕ → ℕ → E) (i p : ℕ) → i ≢ lost → repaired A i p ≡ A i p
  unfolding repaired
  repaired_kept A i p ne = cond-false (eqb i lost) _ _ (ne_eqb i lost ne)

  repaired_lost : (A : ℕ → ℕ → E) (p : ℕ) → Helps q lost p → repaired A lost p ≡ solution f q t Col A lost p
  unfolding repaired
  repaired_lost A p r = cond-true (eqb lost lost) _ _ (eq-eqb lost lost refl) ∙ cond-true (eqb (digit q p (column q lost)) (row q lost)) _ _ (eq-eqb (digit q p (column q lost)) (row q lost) r)

  repaired_other : (A : ℕ → ℕ → E) (p : ℕ) → (Helps q lost p → ⊥)
      → repaired A lost p ≡ inverse u ⊗ minus f (solution f q t Col A (companion_node q lost p) (companion_place q lost p)) (A (companion_node q lost p) (companion_place q lost p))
  unfolding repaired
  repaired_other A p r = cond-true (eqb lost lost) _ _ (eq-eqb lost lost refl) ∙ cond-false (eqb (digit q p (column q lost)) (row q lost)) _ _ (ne_eqb (digit q p (column q lost)) (row q lost) r)

  pub repair_some_one : (A : ℕ → ℕ → E) → HelpChecks f q t lost (repaired A)
  repair_some_one A =
      let k = column_size in
      repaired_by A (solution f q t Col A) (repaired A)
      (λ p lp r. solution_solves f laws q t pos Col fits A p q (omega arith)) (λ i p li lp r ne. repaired_kept A i p ne)
      (λ p lp r. repaired_lost A p r) (λ p lp r. repaired_other A p r)
