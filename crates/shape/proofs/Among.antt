-- What is among the numbers of a list. Assumes nothing.
use Rattle.std.proofs.Common.{◌≡◌, ℕ, zero, suc, ◌<◌, true, false, cond, eqb, List, [], ◌∷◌, ◌++◌, length, get_or, sym, refl, ap, ◌∙◌, ⊎_elim, arith}
use Rattle.std.proofs.lemmas.List.{get_or_push, length_push}
use Rattle.std.specs.List.{list_any}
use Rattle.std.proofs.lemmas.Bool.{both_ways, cases_eq, false_from_ne_true, cond-true, cond-false, eq-eqb, ne_eqb}
use Rattle.shape.specs.Outages.{among}

pub among_first : (j : ℕ) (js : List ℕ) (i : ℕ) → i ≡ j → among (j ∷ js) i ≡ true
among_first j js i e = cond-true (eqb i j) true (among js i) (eq-eqb i j e)

pub among_rest : (j : ℕ) (js : List ℕ) (i : ℕ) → (i ≡ j → ⊥) → among (j ∷ js) i ≡ among js i
among_rest j js i ne = cond-false (eqb i j) true (among js i) (ne_eqb i j ne)

pub among_at : (js : List ℕ) (k i : ℕ) → k < length js → get_or js k 0 ≡ i → among js i ≡ true
among_at [] k i l e = absurd (omega arith)
among_at (j ∷ js) zero i l e = among_first j js i (sym e)
among_at (j ∷ js) (suc k) i l e =
    ⊎_elim (λ h. among_first j js i h) (λ ne. among_rest j js i ne ∙ among_at js k i (omega arith) e) (cases_eq i j)

pub among_found : (js : List ℕ) (i : ℕ) → among js i ≡ true → (k : ℕ) × (k < length js) × (get_or js k 0 ≡ i)
among_found [] i e = absurd (both_ways false refl e)
among_found (j ∷ js) i e =
    ⊎_elim (λ h. (0, omega arith, sym h)) (λ ne. let r = among_found js i (sym (among_rest j js i ne) ∙ e) in (suc r.0, omega arith, r.2)) (cases_eq i j)

pub among_none : (js : List ℕ) (i : ℕ) → ((k : ℕ) → k < length js → get_or js k 0 ≡ i → ⊥) → among js i ≡ false
among_none js i h = false_from_ne_true (among js i) (λ e. let r = among_found js i e in h r.0 r.1 r.2)

-- a search of the list finds what is among its numbers
pub list_any_among : (js : List ℕ) (i : ℕ) → list_any (λ j. eqb j i) js ≡ among js i
list_any_among [] i = refl
list_any_among (j ∷ js) i =
    ⊎_elim (λ e. rw (eq-eqb i j e, eq-eqb j i (sym e)))
    (λ ne. rw (ne_eqb i j ne, ne_eqb j i (λ e. ne (sym e))) (list_any_among js i)) (cases_eq i j)

-- one number more at the end
pub among_push_same : (js : List ℕ) (i : ℕ) → among (js ++ i ∷ []) i ≡ true
among_push_same js i = let l = length_push js i in among_at (js ++ i ∷ []) (length js) i (omega arith) (get_or_push js i 0 (length js) refl)

pub among_push_other : (js : List ℕ) (j i : ℕ) → (i ≡ j → ⊥) → among (js ++ j ∷ []) i ≡ among js i
among_push_other [] j i ne = among_rest j [] i ne
among_push_other (k ∷ js) j i ne = ap (λ b. cond (eqb i k) true b) (among_push_other js j i ne)
