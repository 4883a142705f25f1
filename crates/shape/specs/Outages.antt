-- Lists of nodes that are out. Assumes nothing.
use Rattle.std.specs.Prelude.{◌≡◌, ℕ, zero, suc, ◌+◌, ◌-◌, ◌<◌, Bool, true, false, cond, ◌&&◌, List, [], ◌∷◌, ◌++◌, length, ◌==◌, nat_lt, slice_index}

-- how many of the numbers below n pass the test
unfoldable pub count : (ℕ → Bool) → ℕ → ℕ
count test zero = 0
count test (suc n) = count test n + cond (test n) 1 0

-- whether all of the numbers below n pass it
unfoldable pub every : (ℕ → Bool) → ℕ → Bool
every test zero = true
every test (suc n) = cond (every test n) (test n) false

-- the numbers below n that pass it, rising
unfoldable pub listed : (ℕ → Bool) → ℕ → List ℕ
listed test zero = []
listed test (suc n) = listed test n ++ cond (test n) (n ∷ []) []

-- strictly rising numbers below n
unfoldable pub rising : ℕ → List ℕ → Bool
rising n nodes = every (λ j. nat_lt (slice_index nodes j) n) (length nodes) && every (λ j. nat_lt (slice_index nodes j) (slice_index nodes (j + 1))) (length nodes - 1)

-- whether i is among the numbers
abbrev pub among : List ℕ → ℕ → Bool
among [] i = false
among (j ∷ js) i = cond (i == j) true (among js i)

-- the numbers are below n, and none comes twice
abbrev pub Distinct : List ℕ → ℕ → Type 0
Distinct [] n = Unit {0}
Distinct (j ∷ js) n = (j < n) × (among js j ≡ false) × Distinct js n
