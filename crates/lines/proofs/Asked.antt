-- What a word asks for, found by comparing it with one name after another.
use Rattle.std.proofs.Common.{◌≡◌, ℕ, ◌<◌, ◌≤◌, Bool, true, false, cond, List, [], ◌∷◌, length, get_or, None, codes, Option, sym, refl, ap, ◌∙◌, arith}
use Rattle.std.proofs.lemmas.Slice.Eq.{bytes_eq-Decides}
use Rattle.std.specs.Str.{bytes_eq}
use Rattle.lines.specs.Items.{items}
use Rattle.lines.specs.Numbers.{numbers_in}
use Rattle.lines.specs.Requests.{Request, asked, asked_if, asked_by, request}

-- a word that is spelled as a name asks for what the name asks for
pub asked_named : (word name xs ns : List ℕ) → true ≡ bytes_eq word name → xs ≡ ns → asked name xs ≡ asked word ns
asked_named word name xs ns same e = let w = (bytes_eq-Decides word name).0 (sym same) in rw (w, e)

-- a slice of one number, of two and of three
pub of_one : (xs : List ℕ) → 1 ≤ length xs → length xs < 2 → get_or xs 0 0 ∷ [] ≡ xs
of_one [] h k = absurd (omega arith)
of_one (a ∷ []) h k = refl
of_one (a ∷ b ∷ xs) h k = absurd (omega arith)

pub of_two : (xs : List ℕ) → 2 ≤ length xs → length xs < 3 → get_or xs 0 0 ∷ get_or xs 1 0 ∷ [] ≡ xs
of_two [] h k = absurd (omega arith)
of_two (a ∷ []) h k = absurd (omega arith)
of_two (a ∷ b ∷ []) h k = refl
of_two (a ∷ b ∷ c ∷ xs) h k = absurd (omega arith)

pub of_three : (xs : List ℕ) → 3 ≤ length xs → length xs < 4 → get_or xs 0 0 ∷ get_or xs 1 0 ∷ get_or xs 2 0 ∷ [] ≡ xs
of_three [] h k = absurd (omega arith)
of_three (a ∷ []) h k = absurd (omega arith)
of_three (a ∷ b ∷ []) h k = absurd (omega arith)
of_three (a ∷ b ∷ c ∷ []) h k = refl
of_three (a ∷ b ∷ c ∷ d ∷ xs) h k = absurd (omega arith)

-- a name that asks for nothing, whether or not it is the word
skip : (b : Bool) (o : Option Request) → None ≡ o → None ≡ cond b None o
skip true o e = refl
skip false o e = e

-- a word that is no name, or a name that takes more numbers or fewer, asks for nothing
module _ (word : List ℕ) (store : false ≡ bytes_eq word (codes "store")) where
  pub other_none : (ns : List ℕ) → length ns < 1 → false ≡ bytes_eq word (codes "recover") → None ≡ asked word ns
  unfolding asked
  other_none [] h recover = rw (← store, ← recover) (search skip depth 9)
  other_none (a ∷ ns) h recover = absurd (omega arith)

  pub other_one : (ns : List ℕ) → 1 ≤ length ns → length ns < 2 → false ≡ bytes_eq word (codes "drop") → false ≡ bytes_eq word (codes "repair") → None ≡ asked word ns
  unfolding asked
  other_one [] h k drop repair = absurd (omega arith)
  other_one (a ∷ []) h k drop repair = rw (← store, ← drop, ← repair) (search skip depth 9)
  other_one (a ∷ b ∷ ns) h k drop repair = absurd (omega arith)

  pub other_two : (ns : List ℕ) → 2 ≤ length ns → length ns < 3 → false ≡ bytes_eq word (codes "byte") → false ≡ bytes_eq word (codes "prime") → false ≡ bytes_eq word (codes "read") → None ≡ asked word ns
  unfolding asked
  other_two [] h k byte prime read = absurd (omega arith)
  other_two (a ∷ []) h k byte prime read = absurd (omega arith)
  other_two (a ∷ b ∷ []) h k byte prime read = rw (← store, ← byte, ← prime, ← read) (search skip depth 9)
  other_two (a ∷ b ∷ c ∷ ns) h k byte prime read = absurd (omega arith)

  pub other_three : (ns : List ℕ) → 3 ≤ length ns → length ns < 4 → false ≡ bytes_eq word (codes "alter") → None ≡ asked word ns
  unfolding asked
  other_three [] h k alter = absurd (omega arith)
  other_three (a ∷ []) h k alter = absurd (omega arith)
  other_three (a ∷ b ∷ []) h k alter = absurd (omega arith)
  other_three (a ∷ b ∷ c ∷ []) h k alter = rw (← store, ← alter) (search skip depth 9)
  other_three (a ∷ b ∷ c ∷ d ∷ ns) h k alter = absurd (omega arith)

  pub other_more : (ns : List ℕ) → 4 ≤ length ns → None ≡ asked word ns
  unfolding asked
  other_more [] h = absurd (omega arith)
  other_more (a ∷ []) h = absurd (omega arith)
  other_more (a ∷ b ∷ []) h = absurd (omega arith)
  other_more (a ∷ b ∷ c ∷ []) h = absurd (omega arith)
  other_more (a ∷ b ∷ c ∷ d ∷ ns) h = rw (← store) (search skip depth 9)

-- what a line asks for, by its first item and the numbers after it
pub request_cut : (line word : List ℕ) (more : List (List ℕ)) (ns : Option (List ℕ)) → items line ≡ word ∷ more → ns ≡ numbers_in more → asked_if word ns ≡ request line
unfolding request
request_cut line word more ns cut e = ap (asked_if word) e ∙ sym (ap asked_by cut)
