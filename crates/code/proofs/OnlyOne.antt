-- Arrays that meet the checks and agree outside the erased nodes are the same. Assumes nothing.
use Rattle.std.proofs.Common.{◌≡◌, ℕ, zero, suc, ◌*◌, ◌^◌, ◌<◌, ◌≤◌, Bool, true, false, ◌⊎◌, sym, ap, ◌∙◌, inl, inr, arith}
use Rattle.std.proofs.lemmas.Bool.{cases_eq, cases_Bool}
use Rattle.field.specs.Field.{Arith, Laws}
use Rattle.shape.specs.Layout.{digit, row, column, companion_node, companion_place}
use Rattle.shape.specs.Outages.{count}
use Rattle.code.specs.Filling.{score}
use Rattle.code.specs.Code.{uncoupled, Checks}
use Rattle.shape.proofs.Digits.{companion_bound, companion_place_bound}
use Rattle.code.proofs.Ring.{product_zero, same, minus_self}
use Rattle.code.proofs.Scores.{score_lower, score_equal}
use Rattle.code.specs.Theorems.{Apart}
use Rattle.code.proofs.Vandermonde.{only_zero}
use Rattle.code.proofs.Uncoupling.{pair_zero, uncoupled_own, uncoupled_pair, uncoupled_companion, less, check_less}

module _ {E : Type 0} (f : Arith E) (laws : Laws f) (q t : ℕ) (pos : 0 < q) (fits : q * t ≤ 16) where
  open f use {sum as ◌⊕◌, product as ◌⊗◌, zero as 𝟎, coupling as u}

  infixl 60 ◌⊕◌
  infixl 70 ◌⊗◌
  pub nodes_apart : Apart f.point (q * t)
  nodes_apart i j li lj ne e = ne (laws.points_differ i j (omega arith) (omega arith) e)

  -- a ⊕ u ⊗ b with b zero
  pub sum_none : (a b : E) → b ≡ 𝟎 → a ⊕ u ⊗ b ≡ a
  sum_none a b e = ap (λ v. a ⊕ u ⊗ v) e ∙ ap (λ v. a ⊕ v) (product_zero f laws u) ∙ laws.sum_zero a

  -- an array that meets the checks and is zero outside the erased nodes
  module _ (S : ℕ → Bool) (m : ℕ) (few : count S (q * t) ≤ m) (D : ℕ → ℕ → E) (checks : Checks f q t m D)
      (known : (i p : ℕ) → i < q * t → p < q ^ t → S i ≡ false → D i p ≡ 𝟎) where
    -- it is zero in the planes of score below s
    abbrev Below : ℕ → Type 0
    Below s = (i p : ℕ) → i < q * t → p < q ^ t → score q t S p < s → D i p ≡ 𝟎

    abbrev RowIsDigit : ℕ → ℕ → Type 0
    RowIsDigit i p = row q i ≡ digit q p (column q i)

    companion_known : (s : ℕ) → Below s → (i p : ℕ) → i < q * t → p < q ^ t → score q t S p < suc s → S i ≡ false → D (companion_node q i p) (companion_place q i p) ≡ 𝟎
    companion_known s below i p li lp ls out = go (cases_Bool (S (companion_node q i p)))
      where
        lc : companion_node q i p < q * t
        lc = companion_bound q pos i p t li

        ld : companion_place q i p < q ^ t
        ld = companion_place_bound q pos i p t li lp

        go : (S (companion_node q i p) ≡ true) ⊎ (S (companion_node q i p) ≡ false) → D (companion_node q i p) (companion_place q i p) ≡ 𝟎
        go (inl e) = below (companion_node q i p) (companion_place q i p) lc ld (let k = score_lower q t pos S i p li out e in omega arith)
        go (inr e) = known (companion_node q i p) (companion_place q i p) lc ld e

    outside : (s : ℕ) → Below s → (i p : ℕ) → i < q * t → p < q ^ t → score q t S p < suc s → S i ≡ false → uncoupled f q D i p ≡ 𝟎
    outside s below i p li lp ls out = go (cases_eq (row q i) (digit q p (column q i)))
      where
        go : RowIsDigit i p ⊎ (RowIsDigit i p → ⊥) → uncoupled f q D i p ≡ 𝟎
        go (inl o) = uncoupled_own f laws q D i p o ∙ known i p li lp out
        go (inr o) =
            uncoupled_pair f laws q D i p o
            ∙ sum_none (D i p) (D (companion_node q i p) (companion_place q i p)) (companion_known s below i p li lp ls out)
            ∙ known i p li lp out

    -- then so are the uncoupled symbols in the planes of score s
    plane : (s : ℕ) → Below s → (p : ℕ) → p < q ^ t → score q t S p < suc s → (i : ℕ) → i < q * t → uncoupled f q D i p ≡ 𝟎
    plane s below p lp ls =
        only_zero f laws f.point S (q * t) m (λ i. uncoupled f q D i p) nodes_apart few
        (λ i li out. outside s below i p li lp ls out) (λ e le. checks p e lp le)

    -- and the symbols
    erased_zero : (s : ℕ) → Below s → (i p : ℕ) → i < q * t → p < q ^ t → score q t S p < suc s → S i ≡ true → D i p ≡ 𝟎
    erased_zero s below i p li lp ls «in» = go (cases_eq (row q i) (digit q p (column q i))) (cases_Bool (S c))
      where
        c : ℕ
        c = companion_node q i p

        d : ℕ
        d = companion_place q i p

        lc : c < q * t
        lc = companion_bound q pos i p t li

        ld : d < q ^ t
        ld = companion_place_bound q pos i p t li lp

        here : uncoupled f q D i p ≡ 𝟎
        here = plane s below p lp ls i li

        go : RowIsDigit i p ⊎ (RowIsDigit i p → ⊥) → (S c ≡ true) ⊎ (S c ≡ false) → D i p ≡ 𝟎
        go (inl o) b = sym (uncoupled_own f laws q D i p o) ∙ here
        go (inr o) (inr out) = sym (sum_none (D i p) (D c d) (known c d lc ld out)) ∙ sym (uncoupled_pair f laws q D i p o) ∙ here
        go (inr o) (inl both) =
            let k = score_equal q t pos S i p li «in» both in
            pair_zero f laws (D i p) (D c d) (sym (uncoupled_pair f laws q D i p o) ∙ here)
            (sym (uncoupled_companion f laws q D i p pos o) ∙ plane s below d ld (omega arith) c lc)

    below_more : (s : ℕ) → Below s → Below (suc s)
    below_more s below i p li lp ls = go (cases_Bool (S i))
      where
        go : (S i ≡ true) ⊎ (S i ≡ false) → D i p ≡ 𝟎
        go (inl e) = erased_zero s below i p li lp ls e
        go (inr e) = known i p li lp e

    all_below : (s : ℕ) → Below s
    all_below zero = λ i p li lp ls. absurd (omega arith)
    all_below (suc s) = below_more s (all_below s)

    pub is_zero : (i p : ℕ) → i < q * t → p < q ^ t → D i p ≡ 𝟎
    is_zero i p li lp = all_below (suc (score q t S p)) i p li lp (omega arith)

  pub only_one : (S : ℕ → Bool) (m : ℕ) → count S (q * t) ≤ m → (A A' : ℕ → ℕ → E) → Checks f q t m A → Checks f q t m A'
      → ((i p : ℕ) → i < q * t → p < q ^ t → S i ≡ false → A i p ≡ A' i p)
      → (i p : ℕ) → i < q * t → p < q ^ t → A i p ≡ A' i p
  only_one S m few A A' checks checks' agree i p li lp =
      same f laws (A i p) (A' i p)
      (is_zero S m few (less f laws A A') (λ p e lp le. check_less f laws q A A' p (q * t) e (checks p e lp le) (checks' p e lp le))
      (λ i p li lp out. minus_self f laws (A i p) (A' i p) (agree i p li lp out)) i p li lp)
