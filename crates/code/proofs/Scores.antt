-- Counts, and the score of a companion's plane. Assumes nothing.
use Rattle.std.proofs.Common.{◌≡◌, ℕ, ◌+◌, ◌*◌, ◌<◌, ◌≤◌, Bool, true, false, ap, ◌∙◌, arith}
use Rattle.std.proofs.lemmas.Bool.{cond-true, cond-false}
use Rattle.shape.specs.Layout.{digit, node_at, row, column, companion_node, companion_place}
use Rattle.shape.proofs.Counts.{bit, count_change, count_bound}
use Rattle.code.specs.Filling.{score}
use Rattle.shape.proofs.Digits.{row_bound, digit_companion, digit_with_other, node_own, column_bound}

module _ (q t : ℕ) (pos : 0 < q) (S : ℕ → Bool) (i p : ℕ) (within : i < q * t) where
  score_change : score q t S (companion_place q i p) + bit (S (companion_node q i p)) ≡ score q t S p + bit (S i)
  unfolding score companion_node companion_place
  score_change =
      let y : ℕ = column q i in
      let own : node_at q (digit q (companion_place q i p) y) y ≡ i = ap (λ x. node_at q x y) (digit_companion q pos i p) ∙ node_own q pos i in
      count_change (λ j. S (node_at q (digit q (companion_place q i p) j) j)) (λ j. S (node_at q (digit q p j) j)) y t (column_bound q pos i t within)
      (λ j l ne. ap (λ x. S (node_at q x j)) (digit_with_other q pos p y (row q i) j (row_bound q pos i) ne))
      ∙ ap (λ k. score q t S p + bit (S k)) own

  -- a node that is not erased, coupled with one that is: that one lies in a plane of lower score
  pub score_lower : S i ≡ false → S (companion_node q i p) ≡ true → score q t S (companion_place q i p) < score q t S p
  score_lower a b =
      let c = score_change in
      let d = cond-false {A = ℕ} (S i) 1 0 a in
      let e = cond-true {A = ℕ} (S (companion_node q i p)) 1 0 b in
      omega arith

  -- both erased: in planes of the same score
  pub score_equal : S i ≡ true → S (companion_node q i p) ≡ true → score q t S (companion_place q i p) ≡ score q t S p
  score_equal a b =
      let c = score_change in
      let d = cond-true {A = ℕ} (S i) 1 0 a in
      let e = cond-true {A = ℕ} (S (companion_node q i p)) 1 0 b in
      omega arith

pub score_bound : (q t : ℕ) (S : ℕ → Bool) (p : ℕ) → score q t S p ≤ t
unfolding score
score_bound q t S p = count_bound (λ y. S (node_at q (digit q p y) y)) t
