-- The planes of one score, solved in place. Assumes nothing.
use Rattle.std.proofs.Common.{◌≡◌, ℕ, ◌+◌, ◌*◌, ◌^◌, ◌<◌, ◌≤◌, Bool, true, false, ◌≢◌, ◌⊎◌, sym, ap, ◌∙◌, inl, inr, arith}
use mathlib.Core.Path.{fun_ext}
use Rattle.std.proofs.lemmas.Bool.{cases_eq, cases_Bool, cond-true, cond-false}
use Rattle.field.specs.Field.{Arith, Laws}
use Rattle.shape.proofs.Bounds.{Shaped, rows_positive}
use Rattle.code.specs.Filling.{score, known, solution, solved_by}
use Rattle.code.specs.Steps.{lacks, PlaneSolved, ScoreSolved}
use Rattle.code.proofs.Completion.{AgreeBelow, known_steady}
use Rattle.code.proofs.Sums.{moment_same}

module _ {E : Type 0} (f : Arith E) (laws : Laws f) {q t : ℕ} (s : Shaped q t) (S : ℕ → Bool) where
  -- the solution of a plane sees only what is not erased, and the planes of lower score
  pub solution_steady : (A A' : ℕ → ℕ → E) (p : ℕ) → p < q ^ t → AgreeBelow f laws q t (rows_positive s) S (score q t S p) A A'
      → (i : ℕ) → solution f q t S A i p ≡ solution f q t S A' i p
  unfolding solution
  solution_steady A A' p lp agree i = ap (λ r. solved_by f f.point S (q * t) r i) (fun_ext sides)
    where
      same : (j : ℕ) → j < q * t → (S j ≡ true) ⊎ (S j ≡ false) → known f q S A p j ≡ known f q S A' p j
      same j l (inl x) = cond-true (S j) _ _ x ∙ sym (cond-true (S j) _ _ x)
      same j l (inr x) = cond-false (S j) _ _ x ∙ known_steady f laws q t (rows_positive s) S A A' p lp agree j l x ∙ sym (cond-false (S j) _ _ x)

      sides : (e : ℕ) → lacks f q t S A p e ≡ lacks f q t S A' p e
      sides e = ap f.negative (moment_same f laws f.point (known f q S A p) (known f q S A' p) (q * t) e (λ j l. same j l (cases_Bool (S j))))

  module _ (level : ℕ) where
    -- a plane of another score
    pub solved_skip : (place : ℕ) (A A' : ℕ → ℕ → E) → score q t S place ≢ level → ScoreSolved f q t S level place A A' → ScoreSolved f q t S level (place + 1) A A'
    solved_skip place A A' ne inv = record { made = λ i p li lp x k l. inv.made i p li lp x k (low p k l); kept = λ i p li lp h. inv.kept i p li lp (weaker p h) }
      where
        low : (p : ℕ) → score q t S p ≡ level → p < place + 1 → p < place
        low p k l = let m : p ≢ place = λ e. ne (ap (score q t S) (sym e) ∙ k) in omega arith

        weaker : {X : Type 0} (p : ℕ) → X ⊎ ((score q t S p ≢ level) ⊎ (place + 1 ≤ p)) → X ⊎ ((score q t S p ≢ level) ⊎ (place ≤ p))
        weaker p (inl x) = inl x
        weaker p (inr (inl x)) = inr (inl x)
        weaker p (inr (inr x)) = inr (inr (omega arith))

    -- a plane of the score
    pub solved_more : (place : ℕ) (A A' A'' : ℕ → ℕ → E) → place < q ^ t → score q t S place ≡ level → ScoreSolved f q t S level place A A'
        → PlaneSolved f q t S place A' A'' → ScoreSolved f q t S level (place + 1) A A''
    solved_more place A A' A'' lplace is inv plane = record {
      made = λ i p li lp x k l. at i p li lp x k l (cases_eq p place);
      kept = λ i p li lp h. stays i p li lp h;
    }
      where
        agree : AgreeBelow f laws q t (rows_positive s) S (score q t S place) A' A
        agree i p li lp (inl out) = inv.kept i p li lp (inl out)
        agree i p li lp (inr l) = inv.kept i p li lp (inr (inl (λ e. omega arith)))

        at : (i p : ℕ) → i < q * t → p < q ^ t → S i ≡ true → score q t S p ≡ level → p < place + 1 → (p ≡ place) ⊎ (p ≡ place → ⊥) → A'' i p ≡ solution f q t S A i p
        at i p li lp x k l (inl e) = ap (A'' i) e ∙ plane.made i li x ∙ solution_steady A' A place lplace agree i ∙ ap (solution f q t S A i) (sym e)
        at i p li lp x k l (inr ne) = plane.kept i p li lp (inr ne) ∙ inv.made i p li lp x k (omega arith)

        stays : (i p : ℕ) → i < q * t → p < q ^ t → (S i ≡ false) ⊎ ((score q t S p ≢ level) ⊎ (place + 1 ≤ p)) → A'' i p ≡ A i p
        stays i p li lp (inl out) = plane.kept i p li lp (inl out) ∙ inv.kept i p li lp (inl out)
        stays i p li lp (inr (inl ne)) = plane.kept i p li lp (inr (λ e. ne (ap (score q t S) e ∙ is))) ∙ inv.kept i p li lp (inr (inl ne))
        stays i p li lp (inr (inr l)) = plane.kept i p li lp (inr (λ e. omega arith)) ∙ inv.kept i p li lp (inr (inr (omega arith)))
