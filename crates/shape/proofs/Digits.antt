-- Digits of a place, and companions. Assumes nothing.
use Rattle.std.proofs.Common.{◌≡◌, ℕ, zero, suc, ◌+◌, ◌*◌, ◌/◌, ◌%◌, ◌^◌, ◌<◌, ◌≤◌, ◌≢◌, min, sym, refl, ap, ◌∙◌, mul-le-mul_right, mod-lt, div-lt_iff_lt-mul, pow-suc, div-add-mod', div-mul-le_self, div-one, arith}
use native.Mathlib.Nat.{pow-zero, pow-succ', pow-le-pow_left, pow-le-pow_right, div-eq_of_lt, zero-mod, div-div-eq-div-mul, mod-le}
use lib.Arith.{digits_lt, digits_div, digits_mod}
use Rattle.shape.specs.Layout.{digit, with_digit, node_at, row, column, companion_node, companion_place}

module _ (q : ℕ) (pos : 0 < q) where
  digit_zero : (p : ℕ) → digit q p 0 ≡ p % q
  unfolding digit
  digit_zero p = rw (pow-zero, div-one)

  digit_suc : (p y : ℕ) → digit q p (suc y) ≡ digit q (p / q) y
  unfolding digit
  digit_suc p y = ap (λ x. x % q) (ap (λ x. p / x) (pow-succ' q y) ∙ sym (div-div-eq-div-mul p q (q ^ y)))

  pub digit_bound : (p y : ℕ) → digit q p y < q
  unfolding digit
  digit_bound p y = mod-lt (p / q ^ y) pos

  pub digit_fits : (p y : ℕ) → digit q p y * q ^ y ≤ p
  unfolding digit
  digit_fits p y =
      let a = mul-le-mul_right (q ^ y) (mod-le (p / q ^ y) q) in
      let b = div-mul-le_self p (q ^ y) in
      omega arith

  with_sum : (p y x : ℕ) → with_digit q p y x + digit q p y * q ^ y ≡ p + x * q ^ y
  unfolding with_digit
  with_sum p y x = let a = digit_fits p y in omega arith

  with_zero : (p x : ℕ) → with_digit q p 0 x ≡ p / q * q + x
  with_zero p x =
      let e = div-add-mod' p q in
      let w : with_digit q p 0 x + (p % q) * 1 ≡ p + x * 1 = rw (digit_zero, pow-zero) at (with_sum p 0 x) in
      omega arith

  with_suc : (p y x : ℕ) → with_digit q p (suc y) x ≡ with_digit q (p / q) y x * q + p % q
  with_suc p y x =
      let e = div-add-mod' p q in
      let w : with_digit q p (suc y) x + digit q (p / q) y * (q ^ y * q) ≡ p + x * (q ^ y * q) = rw (digit_suc, pow-suc) at (with_sum p (suc y) x) in
      let v : (with_digit q (p / q) y x + digit q (p / q) y * q ^ y) * q ≡ (p / q + x * q ^ y) * q = ap (λ a. a * q) (with_sum (p / q) y x) in
      omega arith

  pub digit_with : (p y x : ℕ) → x < q → digit q (with_digit q p y x) y ≡ x
  digit_with p zero x h = rw (digit_zero, with_zero) (digits_mod (p / q) h)
  digit_with p (suc y) x h = rw (digit_suc, with_suc, digits_div (with_digit q (p / q) y x) (mod-lt p pos)) (digit_with (p / q) y x h)

  pub digit_with_other : (p y x y' : ℕ) → x < q → y ≢ y' → digit q (with_digit q p y x) y' ≡ digit q p y'
  digit_with_other p zero x zero h ne = absurd (ne refl)
  digit_with_other p zero x (suc y') h ne = rw (digit_suc (with_digit q p zero x) y', digit_suc p y', with_zero, digits_div (p / q) h)
  digit_with_other p (suc y) x zero h ne = rw (digit_zero (with_digit q p (suc y) x), digit_zero p, with_suc) (digits_mod (with_digit q (p / q) y x) (mod-lt p pos))
  digit_with_other p (suc y) x (suc y') h ne =
      rw (digit_suc (with_digit q p (suc y) x) y', digit_suc p y', with_suc, digits_div (with_digit q (p / q) y x) (mod-lt p pos)) (digit_with_other (p / q) y x y' h (λ e. ne (ap suc e)))

  pub with_own : (p y : ℕ) → with_digit q p y (digit q p y) ≡ p
  with_own p y = let e = with_sum p y (digit q p y) in omega arith

  pub with_twice : (p y x x' : ℕ) → x < q → with_digit q (with_digit q p y x) y x' ≡ with_digit q p y x'
  with_twice p y x x' h =
      let a = with_sum p y x in
      let b = with_sum p y x' in
      let c : with_digit q (with_digit q p y x) y x' + x * q ^ y ≡ with_digit q p y x + x' * q ^ y = rw (digit_with p y x h) at (with_sum (with_digit q p y x) y x') in
      omega arith

  pub with_bound : (p y x t : ℕ) → x < q → y < t → p < q ^ t → with_digit q p y x < q ^ t
  with_bound p y x zero hx hy hp = absurd (omega arith)
  with_bound p zero x (suc t) hx hy hp = rw (with_zero, pow-suc) (digits_lt {m = q ^ t} ((div-lt_iff_lt-mul pos).1 (rw pow-suc at hp)) hx)
  with_bound p (suc y) x (suc t) hx hy hp =
      rw (with_suc, pow-suc) (digits_lt {m = q ^ t} (with_bound (p / q) y x t hx (omega arith) ((div-lt_iff_lt-mul pos).1 (rw pow-suc at hp))) (mod-lt p pos))

  -- a place has no digit in a column whose weight is above it
  digit_none : (p y : ℕ) → p < q ^ y → digit q p y ≡ 0
  unfolding digit
  digit_none p y h = ap (λ x. x % q) (div-eq_of_lt h) ∙ zero-mod q

  -- weights, as far as they are below 2 ^ 64
  pub weight_fits : (y : ℕ) → 2 ≤ q → q ^ min y 64 < 2 ^ 64 → min y 64 ≡ y
  weight_fits y wide h =
      let a : 64 ≤ y → ⊥ = λ l. let e : min y 64 ≡ 64 = omega arith in let b : q ^ 64 < 2 ^ 64 = rw e at h in let d = pow-le-pow_left wide 64 in omega arith in
      omega arith

  pub digit_high : (p y : ℕ) → p < 2 ^ 64 → (q ^ min y 64 < 2 ^ 64 → ⊥) → digit q p y ≡ 0
  digit_high p y low h = let a : q ^ min y 64 ≤ q ^ y = pow-le-pow_right pos (omega arith) in digit_none p y (omega arith)

  -- nodes
  pub row_bound : (i : ℕ) → row q i < q
  unfolding row
  row_bound i = mod-lt i pos

  pub column_bound : (i t : ℕ) → i < q * t → column q i < t
  unfolding column
  column_bound i t h = (div-lt_iff_lt-mul pos).1 (omega arith)

  pub node_bound : (x y t : ℕ) → x < q → y < t → node_at q x y < q * t
  unfolding node_at
  node_bound x y t hx hy = let a = digits_lt {q = y} {m = t} hy hx in omega arith

  pub row_node : (x y : ℕ) → x < q → row q (node_at q x y) ≡ x
  unfolding node_at row
  row_node x y h = digits_mod y h

  pub column_node : (x y : ℕ) → x < q → column q (node_at q x y) ≡ y
  unfolding node_at column
  column_node x y h = digits_div y h

  pub node_own : (i : ℕ) → node_at q (row q i) (column q i) ≡ i
  unfolding node_at row column
  node_own i = div-add-mod' i q

  -- companions
  pub column_companion : (i p : ℕ) → column q (companion_node q i p) ≡ column q i
  unfolding companion_node
  column_companion i p = column_node (digit q p (column q i)) (column q i) (digit_bound p (column q i))

  pub row_companion : (i p : ℕ) → row q (companion_node q i p) ≡ digit q p (column q i)
  unfolding companion_node
  row_companion i p = row_node (digit q p (column q i)) (column q i) (digit_bound p (column q i))

  pub digit_companion : (i p : ℕ) → digit q (companion_place q i p) (column q i) ≡ row q i
  unfolding companion_place
  digit_companion i p = digit_with p (column q i) (row q i) (row_bound i)

  pub companion_bound : (i p t : ℕ) → i < q * t → companion_node q i p < q * t
  unfolding companion_node
  companion_bound i p t h = node_bound (digit q p (column q i)) (column q i) t (digit_bound p (column q i)) (column_bound i t h)

  pub companion_place_bound : (i p t : ℕ) → i < q * t → p < q ^ t → companion_place q i p < q ^ t
  unfolding companion_place
  companion_place_bound i p t h hp = with_bound p (column q i) (row q i) t (row_bound i) (column_bound i t h) hp

  -- the companion's companion is the node itself
  pub companion_back : (i p : ℕ) → companion_node q (companion_node q i p) (companion_place q i p) ≡ i
  companion_back i p =
      unfold companion_node in
      rw (column_node (digit q p (column q i)) (column q i) (digit_bound p (column q i)), digit_companion i p) (node_own i)

  pub companion_place_back : (i p : ℕ) → companion_place q (companion_node q i p) (companion_place q i p) ≡ p
  unfolding companion_place
  companion_place_back i p =
      rw (column_companion i p, row_companion i p, with_twice p (column q i) (row q i) (digit q p (column q i)) (row_bound i)) (with_own p (column q i))
