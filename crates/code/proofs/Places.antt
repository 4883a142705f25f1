-- Where words lie, node by node, and bounds on companions. Assumes nothing.
use Rattle.std.proofs.Common.{◌≡◌, ℕ, ◌+◌, ◌-◌, ◌*◌, ◌^◌, ◌<◌, ◌≤◌, ap, mul-le-mul_right, mul-add, arith}
use lib.Arith.{digits_lt}
use Rattle.shape.specs.Layout.{companion_node, companion_place}
use Rattle.shape.proofs.Bounds.{Shaped, rows_positive}
use Rattle.shape.proofs.Digits.{companion_bound, companion_place_bound}

pub spot_within : (n places i p : ℕ) → i < n → p < places → i * places + p < n * places
spot_within n places i p li lp = digits_lt {q = i} {m = n} li lp

-- the words of a node are within
pub node_within : (n places i : ℕ) → i < n → i * places + places ≤ n * places
node_within n places i l = let h : i + 1 ≤ n = omega arith in let a = mul-le-mul_right places h in omega arith

-- a column's nodes are within
pub column_within : (q t y : ℕ) → y < t → y * q + q ≤ q * t
column_within q t y l = let h : y + 1 ≤ t = omega arith in let a = mul-le-mul_right q h in omega arith

module _ {q t : ℕ} (s : Shaped q t) (i p : ℕ) (li : i < q * t) (lp : p < q ^ t) where
  pub companion_node_within : (c : ℕ) → c ≡ companion_node q i p → c < q * t
  companion_node_within c e = let a = companion_bound q (rows_positive s) i p t li in omega arith

  pub companion_place_within : (d : ℕ) → d ≡ companion_place q i p → d < q ^ t
  companion_place_within d e = let a = companion_place_bound q (rows_positive s) i p t li lp in omega arith

-- the data nodes, and after them as many parity nodes as there are rows
module _ {q t : ℕ} (s : Shaped q t) where
  pub parity_after : q * (t - 1) + q ≡ q * t
  parity_after = let k : ℕ = t - 1 in let e : t ≡ k + 1 = omega arith in let a = ap (λ x. q * x) e in let b = mul-add q k 1 in omega arith

  pub message_within : q * (t - 1) * q ^ t ≤ q * t * q ^ t
  message_within = let a = parity_after in let h : q * (t - 1) ≤ q * t = omega arith in mul-le-mul_right (q ^ t) h
