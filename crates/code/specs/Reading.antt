-- Words as elements, whatever they are. Assumes nothing.
use Rattle.std.specs.Prelude.{ℕ, cond, List, nat_lt}
use Rattle.field.specs.Field.{Arith}
use Rattle.code.specs.Code.{laid}

module _ {E : Type 0} (f : Arith E) where
  -- the element of a word, which is zero for a word that is no code
  unfoldable pub read : ℕ → E
  read w = cond (nat_lt w f.size) (f.of w) f.zero

  -- the array in a list of words
  abbrev pub symbols : (places : ℕ) → List ℕ → ℕ → ℕ → E
  symbols places ws i p = read (laid places ws i p)
