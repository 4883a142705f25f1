-- The planes of lower score, filled in place. Assumes nothing.
use Rattle.std.proofs.Common.{◌≡◌, ℕ, ◌+◌, ◌*◌, ◌^◌, ◌<◌, ◌≤◌, Bool, true, false, ◌≢◌, ◌⊎◌, sym, ◌∙◌, ap₂, inl, inr, arith}
use Rattle.std.proofs.lemmas.Bool.{cases_eq, cases_Bool}
use Rattle.field.specs.Field.{Arith, Laws}
use Rattle.shape.specs.Layout.{row, column, digit, companion_node, companion_place}
use Rattle.shape.specs.Outages.{count}
use Rattle.shape.proofs.Bounds.{Shaped, rows_positive}
use Rattle.shape.proofs.Digits.{companion_bound, companion_place_bound}
use Rattle.code.specs.Code.{minus, check, Checks}
use Rattle.code.specs.Filling.{score, of_pair, solution, turn}
use Rattle.code.specs.Steps.{ScoreSolved, ScoreTurned}
use Rattle.code.specs.Theorems.{Agree}
use Rattle.code.proofs.Completion.{turned_by, turn_own, turn_both, turn_one, done_more, solution_solves}
use Rattle.code.proofs.Scores.{score_equal, score_bound}

-- the first m checks hold in the planes of lower score, and A' is A at the nodes that are not erased
pub record FilledTo {E : Type 0} (f : Arith E) (q t : ℕ) (S : ℕ → Bool) (m level : ℕ) (A A' : ℕ → ℕ → E) : Type 0 where
  pub done : (p e : ℕ) → p < q ^ t → e < m → score q t S p < level → check f q t A' p e ≡ f.zero
  pub kept : Agree f q t S A' A

module _ {E : Type 0} (f : Arith E) (laws : Laws f) {q t : ℕ} (s : Shaped q t) (S : ℕ → Bool) (m : ℕ) where
  module _ (level : ℕ) (A B C : ℕ → ℕ → E) (solved : ScoreSolved f q t S level (q ^ t) A B) (turned : ScoreTurned f q t S level (q * t) B C) where
    made : (i p : ℕ) → i < q * t → p < q ^ t → S i ≡ true → score q t S p ≡ level → C i p ≡ turn f q S A (solution f q t S A) i p
    made i p li lp x k = turned.made i p li lp x k li ∙ go (cases_eq (row q i) (digit q p (column q i))) (cases_Bool (S c))
      where
        pos : 0 < q
        pos = rows_positive s

        b : ℕ → ℕ → E
        b = solution f q t S A

        c : ℕ
        c = companion_node q i p

        d : ℕ
        d = companion_place q i p

        lc : c < q * t
        lc = companion_bound q pos i p t li

        ld : d < q ^ t
        ld = companion_place_bound q pos i p t li lp

        own : B i p ≡ b i p
        own = solved.made i p li lp x k lp

        go : (row q i ≡ digit q p (column q i)) ⊎ (row q i ≡ digit q p (column q i) → ⊥) → (S c ≡ true) ⊎ (S c ≡ false) → turn f q S B B i p ≡ turn f q S A b i p
        go (inl o) y = turn_own f laws q t pos S B B i p o ∙ own ∙ sym (turn_own f laws q t pos S A b i p o)
        go (inr o) (inl y) =
            turn_both f laws q t pos S B B i p o y ∙ ap₂ (of_pair f) own (solved.made c d lc ld y (score_equal q t pos S i p li x y ∙ k) ld)
            ∙ sym (turn_both f laws q t pos S A b i p o y)
        go (inr o) (inr y) =
            turn_one f laws q t pos S B B i p o y ∙ ap₂ (λ v w. minus f v (f.product f.coupling w)) own (solved.kept c d lc ld (inl y))
            ∙ sym (turn_one f laws q t pos S A b i p o y)

    stays : (i p : ℕ) → i < q * t → p < q ^ t → (S i ≡ false) ⊎ (score q t S p ≢ level) → C i p ≡ A i p
    stays i p li lp (inl x) = turned.kept i p li lp (inl x) ∙ solved.kept i p li lp (inl x)
    stays i p li lp (inr ne) = turned.kept i p li lp (inr (inl ne)) ∙ solved.kept i p li lp (inr (inl ne))

    -- one score more
    pub filled_more : (A₀ : ℕ → ℕ → E) → m ≤ count S (q * t) → FilledTo f q t S m level A₀ A → FilledTo f q t S m (level + 1) A₀ C
    filled_more A₀ enough inv =
        let pos = rows_positive s in
        record {
          done = λ p e lp le l. done_more f laws q t pos S m level A (solution f q t S A) C inv.done
              (λ r lr k. solution_solves f laws q t pos S s.few A r m enough) (turned_by f laws q t pos S level A (solution f q t S A) C stays made) p e lp le (omega arith);
          kept = λ i p li lp x. stays i p li lp (inl x) ∙ inv.kept i p li lp x;
        }

  -- every plane has a score of at most t
  pub filled_all : (level : ℕ) (A A' : ℕ → ℕ → E) → t < level → FilledTo f q t S m level A A' → Checks f q t m A'
  filled_all level A A' l inv p e lp le = let b = score_bound q t S p in inv.done p e lp le (omega arith)
