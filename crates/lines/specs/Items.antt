-- The items of a line, which spaces part. Assumes nothing.
use Rattle.std.specs.Prelude.{ℕ, cond, List, [], ◌∷◌, ◌++◌, ◌==◌}

-- bytes put before the first of some items
abbrev pub before_first : List ℕ → List (List ℕ) → List (List ℕ)
before_first bytes [] = bytes ∷ []
before_first bytes (item ∷ more) = (bytes ++ item) ∷ more

-- the items of a line: it is cut at each space
unfoldable pub items : List ℕ → List (List ℕ)
items [] = [] ∷ []
items (b ∷ bs) = cond (b == 32) ([] ∷ items bs) (before_first (b ∷ []) (items bs))
