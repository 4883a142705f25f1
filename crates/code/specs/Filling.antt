-- How the symbols of erased nodes are found. `erased` tells the erased nodes. Assumes nothing.
use Rattle.std.specs.Prelude.{ℕ, zero, suc, ◌*◌, Bool, cond, ◌==◌}
use Rattle.field.specs.Field.{Arith}
use Rattle.shape.specs.Layout.{row, column, digit, node_at, companion_node, companion_place}
use Rattle.shape.specs.Outages.{count}
use Rattle.code.specs.Code.{minus, total, moment, uncoupled}

-- the score of plane p: in how many columns y the node in row z, where z is the plane's digit y, is erased
unfoldable pub score : (q t : ℕ) (erased : ℕ → Bool) (p : ℕ) → ℕ
score q t erased p = count (λ y. erased (node_at q (digit q p y) y)) t

-- whether node i is in column y
unfoldable pub in_column : (q y i : ℕ) → Bool
in_column q y i = column q i == y

module _ {E : Type 0} (f : Arith E) where
  -- the x that is zero outside the erased numbers below n and has the moments s: with the last point a erased,
  -- those of the right sides s (e + 1) - a × s e, divided by the differences from a
  unfoldable pub solved_by : (point : ℕ → E) (erased : ℕ → Bool) (n : ℕ) (s : ℕ → E) → ℕ → E
  solved_by point erased zero s i = f.zero
  solved_by point erased (suc n) s i =
      let y : ℕ → E = solved_by point erased n (λ e. minus f (s (suc e)) (f.product (point n) (s e))) in
      let x : ℕ → E = λ j. f.product (f.inverse (minus f (point j) (point n))) (y j) in
      cond (erased n) (cond (i == n) (minus f (s 0) (total f x n)) (x i)) (cond (i == n) f.zero (solved_by point erased n s i))

  -- what is known of plane p: the uncoupled symbols of the nodes that are not erased
  abbrev pub known : (q : ℕ) (erased : ℕ → Bool) (A : ℕ → ℕ → E) (p i : ℕ) → E
  known q erased A p i = cond (erased i) f.zero (uncoupled f q A i p)

  -- the uncoupled symbols of the erased nodes with which the checks of plane p hold
  unfoldable pub solution : (q t : ℕ) (erased : ℕ → Bool) (A : ℕ → ℕ → E) (i p : ℕ) → E
  solution q t erased A i p = solved_by f.point erased (q * t) (λ e. f.negative (moment f f.point (known q erased A p) (q * t) e)) i

  -- the first symbol of a pair, from the uncoupled symbols of both
  unfoldable pub of_pair : E → E → E
  of_pair a b = f.product (f.inverse (minus f f.one (f.product f.coupling f.coupling))) (minus f a (f.product f.coupling b))

  -- the symbol of an erased node from uncoupled symbols b
  unfoldable pub turn : (q : ℕ) (erased : ℕ → Bool) (A b : ℕ → ℕ → E) (i p : ℕ) → E
  turn q erased A b i p =
      cond (row q i == digit q p (column q i)) (b i p)
      (cond (erased (companion_node q i p)) (of_pair (b i p) (b (companion_node q i p) (companion_place q i p)))
      (minus f (b i p) (f.product f.coupling (A (companion_node q i p) (companion_place q i p)))))

  -- the symbol at place p of a lost node, whose column is erased: from the solution of the plane that helps it there
  unfoldable pub refill : (q t : ℕ) (erased : ℕ → Bool) (lost : ℕ) (A : ℕ → ℕ → E) (p : ℕ) → E
  refill q t erased lost A p =
      let b : ℕ → ℕ → E = solution q t erased A in
      let c : ℕ = companion_node q lost p in
      let d : ℕ = companion_place q lost p in
      cond (digit q p (column q lost) == row q lost) (b lost p) (f.product (f.inverse f.coupling) (minus f (b c d) (A c d)))
