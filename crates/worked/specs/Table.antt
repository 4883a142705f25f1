-- Worked examples in one table, and what each says by the definitions of fields, shapes, the code and the vault's calls. Assumes nothing.
use Rattle.std.specs.Prelude.{◌≡◌, ℕ, ◌^◌, ◌<◌, true, false, List, [], ◌∷◌, ◌++◌, length, Result, slice_index}
use Rattle.code.specs.Code.{Words, laid, helps, Encodes}
use Rattle.field.specs.ByteField.{Byte, byte_arith}
use Rattle.field.specs.Field.{Arith}
use Rattle.field.specs.PrimeField.{Residue, prime_arith}
use Rattle.rack.specs.Model.{Model}
use Rattle.refusal.specs.Numbers.{number_of}
use Rattle.refusal.specs.declared.reason.Refusal.{Refusal}
use Rattle.refusal.specs.declared.reason.Refusal.TheVariants as reason
use Rattle.shape.specs.Layout.{is_shape, digit, companion_node, companion_place}
use Rattle.shape.specs.Outages.{listed}
use Rattle.vault_calls.specs.Calls.{short, Repair, Recover}
use Rattle.vault_calls.specs.declared.answer.Answer.{Answer}
use Rattle.worked.specs.Racks.{altered, Holding, Repaired, Refused}

-- the two fields
pub data Kind : Type 0 where
  bytes : Kind
  residues : Kind

abbrev pub Element : Kind → Type 0
Element bytes = Byte
Element residues = Residue

abbrev pub field_of : (k : Kind) → Arith (Element k)
field_of bytes = byte_arith
field_of residues = prime_arith

-- a kind of example a constructor
pub data Row : Type 0 where
  -- a × b is c
  multiplies : (k : Kind) (a b c : ℕ) → Row
  -- the inverse of a is b
  inverts : (k : Kind) (a b : ℕ) → Row
  -- q rows and t columns are a shape
  shapes : (q t : ℕ) → Row
  -- they are none, which is refused by the number
  shapes_not : (q t number : ℕ) → Row
  -- place p has these digits
  has_digits : (q t p : ℕ) (digits : List ℕ) → Row
  -- the companion of node i at place p is node j at place r
  accompanies : (q i p j r : ℕ) → Row
  -- the codeword that carries the message has these words in its parity nodes
  encodes : (k : Kind) (q t : ℕ) (message parity : List ℕ) → Row
  -- with node i out of those words, repair gets the listed places of each other node and refills
  repairs : (k : Kind) (q t : ℕ) (message parity : List ℕ) (i : ℕ) (places : List ℕ) (drawn : ℕ) (refill : List ℕ) → Row
  -- with one of those words altered and the listed nodes out, recover is refused by the number
  refuses : (k : Kind) (q t : ℕ) (message parity : List ℕ) (i p word : ℕ) (out : List ℕ) (number : ℕ) → Row

-- the message in the data nodes, and the parity words after it
abbrev pub all_words : (q t : ℕ) (message parity : List ℕ) → Words
all_words q t message parity = laid (q ^ t) (message ++ parity)

-- what a row says
abbrev pub Holds : Row → Type 0
Holds (multiplies k a b c) = (a < (field_of k).size) × (b < (field_of k).size) × ((field_of k).code ((field_of k).product ((field_of k).of a) ((field_of k).of b)) ≡ c)
Holds (inverts k a b) = (a < (field_of k).size) × ((field_of k).code ((field_of k).inverse ((field_of k).of a)) ≡ b)
Holds (shapes q t) = is_shape q t ≡ true
Holds (shapes_not q t number) = (is_shape q t ≡ false) × (number_of reason.Shape ≡ number)
Holds (has_digits q t p digits) = (p < q ^ t) × (length digits ≡ t) × ((y : ℕ) → y < t → digit q p y ≡ slice_index digits y)
Holds (accompanies q i p j r) = (companion_node q i p ≡ j) × (companion_place q i p ≡ r)
Holds (encodes k q t message parity) = Encodes (field_of k) q t message (all_words q t message parity)
Holds (repairs k q t message parity i places drawn refill) =
    (listed (helps q i) (q ^ t) ≡ places)
    × ((m : Model) (space : ℕ) (r : Result Answer Refusal) (m' : Model) → Holding q t (all_words q t message parity) (i ∷ []) m → short q t space ≡ false
    → Repair (field_of k) q t m i space r m' → Repaired q t m i places drawn refill r m')
Holds (refuses k q t message parity i p word out number) =
    (m : Model) (space : ℕ) (r : Result Answer Refusal) (m' : Model) → Holding q t (altered (all_words q t message parity) i p word) out m → short q t space ≡ false
    → Recover (field_of k) q t m space r m' → Refused number r

-- every row of a list holds
abbrev pub AllHold : List Row → Type 0
AllHold [] = Unit {0}
AllHold (r ∷ rs) = Holds r × AllHold rs

-- 1 and seven zeros
abbrev pub message : List ℕ
message = 1 ∷ 0 ∷ 0 ∷ 0 ∷ 0 ∷ 0 ∷ 0 ∷ 0 ∷ []

-- nodes 2 and 3 of the codeword that carries it
abbrev pub byte_parity : List ℕ
byte_parity = 3 ∷ 0 ∷ 166 ∷ 0 ∷ 83 ∷ 0 ∷ 0 ∷ 0 ∷ []

abbrev pub prime_parity : List ℕ
prime_parity = 254 ∷ 0 ∷ 87 ∷ 0 ∷ 85 ∷ 0 ∷ 0 ∷ 0 ∷ []

abbrev pub table : List Row
table =
    multiplies bytes 2 128 29 ∷
    multiplies bytes 5 83 2 ∷
    multiplies residues 3 86 1 ∷
    inverts bytes 0 0 ∷
    inverts residues 0 0 ∷
    shapes 2 8 ∷
    shapes_not 3 6 1 ∷
    has_digits 2 2 2 (0 ∷ 1 ∷ []) ∷
    accompanies 2 3 0 2 2 ∷
    encodes bytes 2 2 message byte_parity ∷
    encodes residues 2 2 message prime_parity ∷
    repairs bytes 2 2 message byte_parity 0 (0 ∷ 2 ∷ []) 6 (1 ∷ 0 ∷ 0 ∷ 0 ∷ []) ∷
    refuses bytes 2 2 message byte_parity 3 0 84 [] 13 ∷
    refuses bytes 2 2 message byte_parity 3 0 84 (0 ∷ []) 13 ∷
    []
