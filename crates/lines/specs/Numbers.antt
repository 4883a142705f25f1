-- The numbers of a line. Assumes nothing.
use Rattle.std.specs.Prelude.{ℕ, ◌+◌, ◌-◌, ◌*◌, Bool, true, cond, ◌&&◌, List, [], ◌∷◌, length, Some, None, Option, nat_le}
use Rattle.std.specs.Option.{option_map}

-- whether all bytes are decimal digits
abbrev pub all_digits : List ℕ → Bool
all_digits [] = true
all_digits (b ∷ bs) = nat_le 48 b && nat_le b 57 && all_digits bs

-- what digits are worth after a number
abbrev pub value_after : ℕ → List ℕ → ℕ
value_after n [] = n
value_after n (b ∷ bs) = value_after (n * 10 + (b - 48)) bs

-- what digits are worth
abbrev pub digits_value : List ℕ → ℕ
digits_value bytes = value_after 0 bytes

-- what the digits of an item are worth; none where a byte is no digit
abbrev pub worth : List ℕ → Option ℕ
worth item = cond (all_digits item) (Some (digits_value item)) None

-- the number that an item is: one to five digits, at most 65,535
unfoldable pub number_in : List ℕ → Option ℕ
number_in item = cond (nat_le 1 (length item) && nat_le (length item) 5 && all_digits item && nat_le (digits_value item) 65535) (Some (digits_value item)) None

-- a number, and those that follow it
abbrev pub with_first : Option ℕ → Option (List ℕ) → Option (List ℕ)
with_first None rest = None
with_first (Some n) rest = option_map (λ ns. n ∷ ns) rest

-- the numbers that items are; none where one of them is no number
unfoldable pub numbers_in : List (List ℕ) → Option (List ℕ)
numbers_in [] = Some []
numbers_in (item ∷ more) = with_first (number_in item) (numbers_in more)
