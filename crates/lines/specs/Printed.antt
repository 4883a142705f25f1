-- What is printed as the answer to a line. Assumes nothing.
use Rattle.std.specs.Prelude.{ℕ, zero, suc, ◌+◌, ◌/◌, ◌%◌, Bool, cond, List, [], ◌∷◌, ◌++◌, codes, nat_lt}

-- the last k decimal digits of a number; all of them where it has fewer
abbrev pub digits : ℕ → ℕ → List ℕ
digits zero n = []
digits (suc k) n = cond (nat_lt n 10) ((48 + n) ∷ []) (digits k (n / 10) ++ (48 + n % 10) ∷ [])

-- a number in decimal, without leading zeros: it has at most n + 1 digits
unfoldable pub decimal : ℕ → List ℕ
decimal n = digits (n + 1) n

-- numbers, each after one space
unfoldable pub spaced : List ℕ → List ℕ
spaced [] = []
spaced (w ∷ ws) = (32 ∷ decimal w) ++ spaced ws

-- the answer to a line that is no command, or not one that can come now
abbrev pub bad_line : List ℕ
bad_line = codes "bad" ++ 10 ∷ []

-- the answer to a call that was refused
abbrev pub no_line : ℕ → List ℕ
no_line n = codes "no" ++ (spaced (n ∷ []) ++ 10 ∷ [])

-- the answer to a call that was accepted; after a read, with the words
abbrev pub ok_line : ℕ → ℕ → List ℕ → List ℕ
ok_line filled drawn words = codes "ok" ++ (spaced (filled ∷ drawn ∷ words) ++ 10 ∷ [])

-- what has been printed after one more line; nothing is added where memory is wanting
abbrev pub printed : Bool → List ℕ → List ℕ → List ℕ
printed done before line = cond done (before ++ line) before
