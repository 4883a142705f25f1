-- The solution of one plane, on the list of its erased nodes. Assumes nothing.
use Rattle.std.proofs.Common.{◌≡◌, ℕ, ◌+◌, ◌*◌, ◌^◌, ◌<◌, Bool, true, false, cond, ◌≢◌, ◌⊎◌, List, length, get_or, sym, refl, ap, ◌∙◌, subst, inl, inr, arith}
use Rattle.std.proofs.lemmas.Bool.{both_ways, cases_Bool, cond-true, cond-false}
use Rattle.field.specs.Field.{Arith, Laws}
use Rattle.shape.specs.Outages.{among, rising}
use Rattle.shape.proofs.Bounds.{Shaped, rows_positive}
use Rattle.shape.proofs.Rising.{rising_distinct, rising_count, rising_order}
use Rattle.shape.proofs.Among.{among_at, among_found}
use Rattle.code.specs.Code.{moment}
use Rattle.code.specs.Filling.{solution}
use Rattle.code.specs.Solving.{points, reads}
use Rattle.code.specs.Steps.{lacks, HoldsSolution, PlaneSolved, Wrote}
use Rattle.code.specs.Theorems.{Solves}
use Rattle.code.proofs.Gather.{moment_parts}
use Rattle.code.proofs.InPlace.{below_next, listed_apart}
use Rattle.code.proofs.Main.{only_solution}
use Rattle.code.proofs.OnlyOne.{nodes_apart}
use Rattle.code.proofs.Sums.{moment_same, moment_zero}
use Rattle.code.proofs.Vandermonde.{solved}

module _ {E : Type 0} (f : Arith E) (laws : Laws f) {q t : ℕ} (s : Shaped q t) (nodes : List ℕ) (rises : rising (q * t) nodes ≡ true) (A : ℕ → ℕ → E) (p : ℕ) where
  S : ℕ → Bool
  S = among nodes

  b : ℕ → E
  b i = solution f q t S A i p

  facts : ((i : ℕ) → i < q * t → S i ≡ false → b i ≡ f.zero) × ((e : ℕ) → e < length nodes → moment f f.point b (q * t) e ≡ lacks f q t S A p e)
  unfolding b S solution
  facts =
      let r = solved f laws f.point (among nodes) (q * t) (lacks f q t (among nodes) A p) (nodes_apart f laws q t (rows_positive s) s.few) in
      let c = rising_count (q * t) nodes rises in
      (r.0, λ e l. r.1 e (omega arith))

  gathered : (e : ℕ) → moment f f.point b (q * t) e ≡ moment f (points f nodes) (λ k. b (get_or nodes k 0)) (length nodes) e
  unfolding S
  gathered e =
      let z : ℕ → E = λ i. f.zero in
      moment_same f laws f.point b (λ i. cond (among nodes i) (b i) f.zero) (q * t) e (λ i l. outside i l (cases_Bool (among nodes i)))
      ∙ moment_parts f laws f.point b z nodes (q * t) e (rising_distinct (q * t) nodes rises)
      ∙ ap (λ v. f.sum (moment f (points f nodes) (λ k. b (get_or nodes k 0)) (length nodes) e) v)
      (moment_zero f laws f.point (λ i. cond (among nodes i) f.zero f.zero) (q * t) e (λ i l. both i (cases_Bool (among nodes i))))
      ∙ laws.sum_zero _
    where
      outside : (i : ℕ) → i < q * t → (among nodes i ≡ true) ⊎ (among nodes i ≡ false) → b i ≡ cond (among nodes i) (b i) f.zero
      outside i l (inl x) = sym (cond-true (among nodes i) (b i) f.zero x)
      outside i l (inr x) = (unfold S in facts.0 i l x) ∙ sym (cond-false (among nodes i) (b i) f.zero x)

      both : (i : ℕ) → (among nodes i ≡ true) ⊎ (among nodes i ≡ false) → cond (among nodes i) f.zero f.zero ≡ f.zero
      both i (inl x) = cond-true (among nodes i) f.zero f.zero x
      both i (inr x) = cond-false (among nodes i) f.zero f.zero x

  -- words that solve what the plane lacks are its solution
  pub plane_solved : (before after : List ℕ) → ((e : ℕ) → e < length nodes → reads f before e ≡ lacks f q t (among nodes) A p e)
      → Solves f (points f nodes) (reads f after) (reads f before) (length nodes) → HoldsSolution f q t (among nodes) A p nodes after (length nodes)
  unfolding b S
  plane_solved before after sides solves k l =
      only_solution f laws (length nodes) (points f nodes) (lacks f q t (among nodes) A p) (reads f after) (λ j. b (get_or nodes j 0))
      (listed_apart f laws (q * t) nodes s.few rises) (λ e le. solves e le ∙ sides e le) (λ e le. sym (gathered e) ∙ facts.1 e le) k l

-- the solutions xs of the first k nodes are written into plane `place`
pub record WrittenTo {E : Type 0} (q t : ℕ) (nodes : List ℕ) (place : ℕ) (x : ℕ → E) (k : ℕ) (A A' : ℕ → ℕ → E) : Type 0 where
  pub made : (j : ℕ) → j < k → A' (get_or nodes j 0) place ≡ x j
  pub kept : (i p : ℕ) → i < q * t → p < q ^ t → (p ≢ place) ⊎ ((j : ℕ) → j < k → get_or nodes j 0 ≢ i) → A' i p ≡ A i p

module _ {E : Type 0} (q t : ℕ) (nodes : List ℕ) (rises : rising (q * t) nodes ≡ true) (place : ℕ) (lp : place < q ^ t) (x : ℕ → E) where
  pub written_none : (A : ℕ → ℕ → E) → WrittenTo q t nodes place x 0 A A
  written_none A = record { made = λ j l. absurd (omega arith); kept = λ i p li lq h. refl }

  -- one more is written
  pub written_more : (k : ℕ) → k < length nodes → (A A' A'' : ℕ → ℕ → E) → WrittenTo q t nodes place x k A A'
      → (node : ℕ) (a : E) → node ≡ get_or nodes k 0 → a ≡ x k → Wrote (q ^ t) node place a A' A''
      → WrittenTo q t nodes place x (k + 1) A A''
  written_more k lk A A' A'' inv node a node_is a_is wrote = record {
    made = below_next (λ j. A'' (get_or nodes j 0) place ≡ x j) k
        (λ j l. wrote.other (get_or nodes j 0) place lp (inl (let r = rising_order (q * t) nodes rises j k l lk in λ e. omega arith)) ∙ inv.made j l)
        (ap (λ i. A'' i place) (sym node_is) ∙ wrote.here ∙ a_is);
    kept = λ i p li lq h. go i p li lq h;
  }
    where
      go : (i p : ℕ) → i < q * t → p < q ^ t → (p ≢ place) ⊎ ((j : ℕ) → j < k + 1 → get_or nodes j 0 ≢ i) → A'' i p ≡ A i p
      go i p li lq (inl ne) = wrote.other i p lq (inr ne) ∙ inv.kept i p li lq (inl ne)
      go i p li lq (inr ne) = wrote.other i p lq (inl (λ e. ne k (omega arith) (sym node_is ∙ sym e))) ∙ inv.kept i p li lq (inr (λ j l. ne j (omega arith)))

-- when all are written, the plane is solved
pub written_all : {E : Type 0} (f : Arith E) (q t : ℕ) (nodes : List ℕ) (place : ℕ) → place < q ^ t → (xs : List ℕ) (A A' : ℕ → ℕ → E)
    → HoldsSolution f q t (among nodes) A place nodes xs (length nodes) → WrittenTo q t nodes place (reads f xs) (length nodes) A A'
    → PlaneSolved f q t (among nodes) place A A'
written_all f q t nodes place lp xs A A' holds inv = record {
  made = λ i li «in». let r = among_found nodes i «in» in
      subst (λ j. A' j place ≡ solution f q t (among nodes) A j place) r.2 (inv.made r.0 r.1 ∙ holds r.0 r.1);
  kept = λ i p li lq h. go i p li lq h;
}
  where
    go : (i p : ℕ) → i < q * t → p < q ^ t → (among nodes i ≡ false) ⊎ (p ≢ place) → A' i p ≡ A i p
    go i p li lq (inl out) = inv.kept i p li lq (inr (λ j l e. both_ways (among nodes i) out (among_at nodes j i l e)))
    go i p li lq (inr ne) = inv.kept i p li lq (inl ne)
