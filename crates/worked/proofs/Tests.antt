-- Tests that are computed from the numbers of a row, and what they say. Assumes nothing.
use Rattle.std.proofs.Common.{◌≡◌, ℕ, ◌-◌, ◌*◌, ◌^◌, ◌<◌, Bool, true, false, cond, not, ◌||◌, eqb, ltb, leb, List, [], ◌∷◌, length, get_or, refl, ap₂}
use Rattle.code.specs.Calls.{good_help}
use Rattle.code.specs.Code.{Words, laid, helps, check, elements}
use Rattle.field.specs.Field.{Arith}
use Rattle.shape.specs.Layout.{is_shape}
use Rattle.shape.specs.Outages.{count, every, listed, among}
use Rattle.shape.proofs.Every.{every_at}
use Rattle.std.proofs.lemmas.Bool.{eqb-true, false≢true}
use Rattle.worked.specs.Racks.{altered}

-- all tests of a list are passed
abbrev pub all : List Bool → Bool
all [] = true
all (b ∷ bs) = cond b (all bs) false

abbrev pub Passed : List Bool → Type 0
Passed [] = Unit {0}
Passed (b ∷ bs) = (b ≡ true) × Passed bs

pub passed : (bs : List Bool) → all bs ≡ true → Passed bs
passed [] e = tt
passed (true ∷ bs) e = (refl, passed bs e)
passed (false ∷ bs) e = absurd (false≢true e)

-- the same numbers
abbrev pub same : List ℕ → List ℕ → Bool
same [] [] = true
same [] (y ∷ ys) = false
same (x ∷ xs) [] = false
same (x ∷ xs) (y ∷ ys) = all (eqb x y ∷ same xs ys ∷ [])

pub same_numbers : (xs ys : List ℕ) → same xs ys ≡ true → xs ≡ ys
same_numbers [] [] e = refl
same_numbers [] (y ∷ ys) e = absurd (false≢true e)
same_numbers (x ∷ xs) [] e = absurd (false≢true e)
same_numbers (x ∷ xs) (y ∷ ys) e = let h = passed (eqb x y ∷ same xs ys ∷ []) e in ap₂ (λ a rest. a ∷ rest) (eqb-true x y h.0) (same_numbers xs ys h.1.0)

-- a test at every place of the first n nodes
abbrev pub everywhere : (n places : ℕ) → (ℕ → ℕ → Bool) → Bool
everywhere n places test = every (λ i. every (test i) places) n

pub everywhere_at : (n places : ℕ) (test : ℕ → ℕ → Bool) → everywhere n places test ≡ true → (i p : ℕ) → i < n → p < places → test i p ≡ true
everywhere_at n places test e i p li lp = every_at (test i) places (every_at (λ j. every (test j) places) n e i li) p lp

module _ {E : Type 0} (f : Arith E) (q t : ℕ) where
  -- every word is a code
  abbrev pub are_codes : Words → Bool
  are_codes w = everywhere (q * t) (q ^ t) (λ i p. ltb (w i p) f.size)

  -- q and t are a shape, and the words are a codeword
  abbrev pub codeword_tests : Words → List Bool
  codeword_tests w = is_shape q t ∷ are_codes w ∷ everywhere (q ^ t) q (λ p e. eqb (f.code (check f q t (elements f w) p e)) 0) ∷ []

  -- a codeword whose data nodes have the words of the message, with at most q other nodes
  abbrev pub parity : ℕ → Bool
  parity i = not (ltb i (q * (t - 1)))

  abbrev pub encodes_tests : Words → List ℕ → List Bool
  encodes_tests w message =
      all (codeword_tests w) ∷ leb (count parity (q * t)) q ∷
      everywhere (q * (t - 1)) (q ^ t) (λ i p. eqb (w i p) (laid (q ^ t) message i p)) ∷ []

  -- the numbers of a repair of node i of a codeword
  abbrev pub repairs_tests : Words → ℕ → List ℕ → ℕ → List ℕ → List Bool
  repairs_tests w i places drawn refill =
      all (codeword_tests w) ∷ ltb i (q * t) ∷ eqb (count (among (i ∷ [])) (q * t)) 1 ∷ same (listed (helps q i) (q ^ t)) places ∷
      eqb (q ^ (t - 1)) (length places) ∷ eqb ((q * t - 1) * q ^ (t - 1)) drawn ∷ every (λ p. eqb (w i p) (get_or refill p 0)) (q ^ t) ∷ good_help f q t w i ∷ []

  -- the nodes that are out, and the one with the altered word
  abbrev pub at_fault : List ℕ → ℕ → ℕ → Bool
  at_fault out i j = among out j || eqb j i

  -- another code than the codeword's stands in node i, and at most q nodes are at fault
  abbrev pub refuses_tests : Words → (i p word : ℕ) → List ℕ → List Bool
  refuses_tests w i p word out =
      all (codeword_tests w) ∷ are_codes (altered w i p word) ∷ ltb i (q * t) ∷ ltb p (q ^ t) ∷ not (among out i) ∷ not (eqb word (w i p)) ∷
      leb (count (among out) (q * t)) q ∷ leb (count (at_fault out i) (q * t)) q ∷ []
