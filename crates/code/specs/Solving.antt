-- The steps by which a system of moments is solved in place, on words. Assumes nothing.
use Rattle.std.specs.Prelude.{◌≡◌, ℕ, suc, ◌<◌, ◌≤◌, List, slice_index}
use Rattle.field.specs.Field.{Arith}
use Rattle.code.specs.Code.{minus}
use Rattle.code.specs.Reading.{read}

-- the words from n on are as they were
abbrev pub KeptFrom : (before after : List ℕ) (n : ℕ) → Type 0
KeptFrom before after n = (k : ℕ) → n ≤ k → slice_index after k ≡ slice_index before k

module _ {E : Type 0} (f : Arith E) where
  -- the element that word k is read as
  abbrev pub reads : List ℕ → ℕ → E
  reads ws k = read f (slice_index ws k)

  -- the points of the nodes of a list
  abbrev pub points : List ℕ → ℕ → E
  points nodes k = f.point (slice_index nodes k)

  -- the first n words are codes
  abbrev pub Codes : List ℕ → ℕ → Type 0
  Codes ws n = (k : ℕ) → k < n → slice_index ws k < f.size

  -- each of the first n right sides, from it and the next one
  abbrev pub Reduced : (a : E) (before after : List ℕ) (n : ℕ) → Type 0
  Reduced a before after n = (e : ℕ) → e < n → reads after e ≡ minus f (reads before (suc e)) (f.product a (reads before e))

  -- each of the first n unknowns, divided by the difference of its point from a
  abbrev pub Divided : (a : E) (nodes before after : List ℕ) (n : ℕ) → Type 0
  Divided a nodes before after n = (k : ℕ) → k < n → reads after k ≡ f.product (f.inverse (minus f (points nodes k) a)) (reads before k)
