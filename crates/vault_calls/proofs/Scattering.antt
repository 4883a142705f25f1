-- Words written from the space into the rack. Assumes nothing.
use Rattle.std.proofs.Common.{◌≡◌, ℕ, ◌+◌, ◌*◌, ◌<◌, ◌≤◌, Bool, true, false, cond, ◌&&◌, ltb, ◌⊎◌, List, length, sym, refl, ap, ◌∙◌, inl, inr, mul-le-mul_right, add-mul, one-mul, arith}
use Rattle.std.specs.List.{between}
use Rattle.std.proofs.lemmas.List.Edits.{length-between, get_or-between}
use Rattle.std.proofs.lemmas.Bool.{cases_eq, le-ltb, cond-true, cond-false, and_left, and_right}
use Rattle.code.specs.Code.{Words, laid}
use Rattle.rack.specs.Model.{Model, changed}
use Rattle.rack.specs.Filled.{filled, after_fill}
use Rattle.rack.proofs.Models.{same_model, changed_same, changed_other, both}
use Rattle.rack.proofs.Ends.{filled_by}
use Rattle.vault_calls.specs.Steps.{written_below}
use Rattle.vault_calls.proofs.Gathering.{ltb_none, ltb_more, ltb_last}

-- the words of a node lie inside a long enough space
pub row_room : (n P i len : ℕ) → i < n → n * P ≤ len → i * P + P ≤ len
row_room n P i len li l = let next : i + 1 ≤ n = omega arith in omega (arith, mul-le-mul_right P next, add-mul i 1 P, one-mul P)

-- a node filled from its part of the space
module _ (m : Model) (P i : ℕ) (s : List ℕ) (room : i * P + P ≤ length s) (within : i < m.nodes) (is : m.places ≡ P) where
  long : length (between (i * P) (i * P + P) s) ≡ m.places
  long = length-between s (i * P) (i * P + P) room ∙ omega arith

  pub row_filled : after_fill m i (between (i * P) (i * P + P) s) ≡ filled m i (laid P s i)
  row_filled = filled_by m i (between (i * P) (i * P + P) s) (laid P s i) within long (λ p lp. get_or-between s (i * P) (i * P + P) p 0 (omega arith))

-- before the first node nothing is written
pub written_none : (m : Model) (test : ℕ → Bool) (w : Words) → m ≡ written_below m test w 0
written_none m test w =
    same_model m (written_below m test w 0) refl refl (λ i. sym (cond-false (ltb i 0 && test i) true (m.flags i) (none i)))
    (λ i p. sym (cond-false (ltb i 0 && test i) (cond (ltb p m.places) (w i p) (m.words i p)) (m.words i p) (none i))) (λ i. refl)
  where
    none : (i : ℕ) → (ltb i 0 && test i) ≡ false
    none i = and_left (ltb i 0) (test i) (ltb_none i)

module _ (m0 m : Model) (test : ℕ → Bool) (w : Words) (n : ℕ) (so_far : m ≡ written_below m0 test w n) where
  -- a node that is not written
  pub written_skip : test n ≡ false → m ≡ written_below m0 test w (n + 1)
  written_skip off =
      so_far
      ∙ same_model (written_below m0 test w n) (written_below m0 test w (n + 1)) refl refl (λ i. ap (λ b. cond b true (m0.flags i)) (go i (cases_eq i n)))
      (λ i p. ap (λ b. cond b (cond (ltb p m0.places) (w i p) (m0.words i p)) (m0.words i p)) (go i (cases_eq i n))) (λ i. refl)
    where
      go : (i : ℕ) → (i ≡ n) ⊎ (i ≡ n → ⊥) → (ltb i n && test i) ≡ (ltb i (n + 1) && test i)
      go i (inl e) = let down : test i ≡ false = ap test e ∙ off in and_right (ltb i n) (test i) down ∙ sym (and_right (ltb i (n + 1)) (test i) down)
      go i (inr ne) = ap (λ b. b && test i) (sym (ltb_more i n ne))

  -- a node that is written
  pub written_more : test n ≡ true → (m' : Model) → m' ≡ filled m n (w n) → m' ≡ written_below m0 test w (n + 1)
  written_more on m' after =
      after ∙ ap (λ x. filled x n (w n)) so_far
      ∙ same_model (filled (written_below m0 test w n) n (w n)) (written_below m0 test w (n + 1)) refl refl (λ i. flag i (cases_eq i n)) (λ i p. word i p (cases_eq i n)) (λ i. refl)
    where
      old : ℕ → ℕ → ℕ
      old i p = cond (ltb i n && test i) (cond (ltb p m0.places) (w i p) (m0.words i p)) (m0.words i p)

      row : ℕ → ℕ
      row p = cond (ltb p m0.places) (w n p) (old n p)

      here : (p : ℕ) → old n p ≡ m0.words n p
      here p = cond-false (ltb n n && test n) (cond (ltb p m0.places) (w n p) (m0.words n p)) (m0.words n p) (and_left (ltb n n) (test n) (le-ltb n n (omega arith)))

      passes : (i : ℕ) → i ≡ n → (ltb i (n + 1) && test i) ≡ true
      passes i e = both (ltb i (n + 1)) (test i) (ap (λ x. ltb x (n + 1)) e ∙ ltb_last n) (ap test e ∙ on)

      flag : (i : ℕ) → (i ≡ n) ⊎ (i ≡ n → ⊥) → changed (λ k. cond (ltb k n && test k) true (m0.flags k)) n true i ≡ cond (ltb i (n + 1) && test i) true (m0.flags i)
      flag i (inl e) =
          ap (changed (λ k. cond (ltb k n && test k) true (m0.flags k)) n true) e ∙ changed_same (λ k. cond (ltb k n && test k) true (m0.flags k)) n true
          ∙ sym (cond-true (ltb i (n + 1) && test i) true (m0.flags i) (passes i e))
      flag i (inr ne) =
          changed_other (λ k. cond (ltb k n && test k) true (m0.flags k)) n i true ne ∙ ap (λ b. cond (b && test i) true (m0.flags i)) (sym (ltb_more i n ne))

      word : (i p : ℕ) → (i ≡ n) ⊎ (i ≡ n → ⊥) → changed old n row i p ≡ cond (ltb i (n + 1) && test i) (cond (ltb p m0.places) (w i p) (m0.words i p)) (m0.words i p)
      word i p (inl e) =
          ap (λ x. changed old n row x p) e ∙ ap (λ (g : ℕ → ℕ). g p) (changed_same old n row) ∙ ap (cond (ltb p m0.places) (w n p)) (here p)
          ∙ ap (λ x. cond (ltb p m0.places) (w x p) (m0.words x p)) (sym e)
          ∙ sym (cond-true (ltb i (n + 1) && test i) (cond (ltb p m0.places) (w i p) (m0.words i p)) (m0.words i p) (passes i e))
      word i p (inr ne) =
          ap (λ (g : ℕ → ℕ). g p) (changed_other old n i row ne)
          ∙ ap (λ b. cond (b && test i) (cond (ltb p m0.places) (w i p) (m0.words i p)) (m0.words i p)) (sym (ltb_more i n ne))
