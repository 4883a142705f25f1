-- How the nodes and the places of a shape are numbered. A shape has q rows and t columns of nodes, and q ^ t places in each node.
-- A place stands for a plane of the code; its digits in base q, one for each column, are the plane's coordinates. Assumes nothing.
use Rattle.std.specs.Prelude.{ℕ, ◌+◌, ◌-◌, ◌*◌, ◌/◌, ◌%◌, ◌^◌, Bool, ◌&&◌, ◌==◌, nat_le}

-- q rows and t columns are a shape: each at least 2, and at most 16 nodes
abbrev pub is_shape : ℕ → ℕ → Bool
is_shape q t = nat_le 2 q && nat_le 2 t && nat_le (q * t) 16

-- node i stands in column i / q, at row i % q
unfoldable pub column : (q i : ℕ) → ℕ
column q i = i / q

unfoldable pub row : (q i : ℕ) → ℕ
row q i = i % q

-- the node in row x of column y
unfoldable pub node_at : (q x y : ℕ) → ℕ
node_at q x y = y * q + x

-- digit y of place p, in base q
unfoldable pub digit : (q p y : ℕ) → ℕ
digit q p y = p / q ^ y % q

-- place p with x for its digit y
unfoldable pub with_digit : (q p y x : ℕ) → ℕ
with_digit q p y x = p - digit q p y * q ^ y + x * q ^ y

-- the companion of node i at place p: its node, and its place
unfoldable pub companion_node : (q i p : ℕ) → ℕ
companion_node q i p = node_at q (digit q p (column q i)) (column q i)

unfoldable pub companion_place : (q i p : ℕ) → ℕ
companion_place q i p = with_digit q p (column q i) (row q i)

-- place p helps to repair node i: its digit in the node's column is the node's row
abbrev pub helps : (q i p : ℕ) → Bool
helps q i p = digit q p (column q i) == row q i
