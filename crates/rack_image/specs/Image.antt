-- A rack's flags and words as bytes. Assumes nothing.
use Rattle.std.specs.Prelude.{◌≡◌, ℕ, zero, suc, ◌+◌, ◌*◌, ◌/◌, ◌%◌, ◌^◌, ◌<◌, min, Bool, false, cond, ◌&&◌, ◌⊎◌, List, [], ◌∷◌, ◌++◌, length, replicate, Some, None, Option, ◌==◌, nat_le, nat_lt, slice_index}
use Rattle.refusal.specs.Numbers.{cause_number}
use Rattle.refusal.specs.declared.reason.Cause.{Cause}
use Rattle.refusal.specs.declared.reason.Fault.{Fault}
use Rattle.refusal.specs.declared.reason.Refusal.{Refusal}
use Rattle.refusal.specs.declared.reason.Refusal.TheVariants as reason
use Rattle.rack.specs.Model.{Model, fitting}
use Rattle.rack_image.specs.declared.image.ImageRack.{ImageRack}

-- the concatenation of g 0 to g (n - 1)
abbrev pub joined : ℕ → (ℕ → List ℕ) → List ℕ
joined zero g = []
joined (suc n) g = joined n g ++ g n

-- a word, low byte first
abbrev pub word_bytes : ℕ → List ℕ
word_bytes w = w % 256 ∷ w / 256 ∷ []

-- 1 for a node that stands, 0 for one that is out
abbrev pub flag_byte : Bool → ℕ
flag_byte b = cond b 1 0

-- the mark, the node's number, its flag, and its words
abbrev pub record_bytes : Model → ℕ → List ℕ
record_bytes m i = 0xC5 ∷ 0x9D ∷ i ∷ flag_byte (m.flags i) ∷ joined m.places (λ p. word_bytes (m.words i p))

-- the records of the nodes in order; the meters are not in it
abbrev pub image : Model → List ℕ
image m = joined m.nodes (record_bytes m)

-- the bytes of a record of so many places
abbrev pub record_length : ℕ → ℕ
record_length places = 4 + 2 * places

-- the number of the cause for which a byte at an offset of a record is wrong, or 0: 2 mark, 3 number, 4 flag
abbrev pub wrong : ℕ → ℕ → ℕ → ℕ
wrong number offset byte =
    cond (offset == 0) (cond (byte == 0xC5) 0 2)
    (cond (offset == 1) (cond (byte == 0x9D) 0 2)
    (cond (offset == 2) (cond (byte == number) 0 3)
    (cond (offset == 3) (cond (nat_lt byte 2) 0 4) 0)))

-- the number of the cause that was found, or 0
abbrev pub found_cause : Option Cause → ℕ
found_cause None = 0
found_cause (Some c) = cause_number c

-- the number of the cause for which byte b of an image is wrong, or 0
abbrev pub wrong_at : ℕ → List ℕ → ℕ → ℕ
wrong_at places bytes b = wrong (b / record_length places) (b % record_length places) (slice_index bytes b)

-- bytes that are the image of some rack of these counts
pub record Formed (nodes places : ℕ) (bytes : List ℕ) : Type 0 where
  pub long : length bytes ≡ nodes * record_length places
  pub right : (b : ℕ) → b < length bytes → wrong_at places bytes b ≡ 0
  pub small : (b : ℕ) → slice_index bytes b < 256

-- byte b is the first that is wrong
pub record FirstWrong (places : ℕ) (bytes : List ℕ) (b : ℕ) : Type 0 where
  pub inside : b < length bytes
  pub bad : wrong_at places bytes b ≡ 0 → ⊥
  pub before : (c : ℕ) → c < b → wrong_at places bytes c ≡ 0

-- why an image is refused: its length is looked at first, then the first wrong byte counts
abbrev pub Malformed : ℕ → ℕ → List ℕ → Fault → Type 0
Malformed nodes places bytes fault =
    cond (length bytes == nodes * record_length places)
    (FirstWrong places bytes fault.byte × (fault.record ≡ fault.byte / record_length places) × (cause_number fault.cause ≡ wrong_at places bytes fault.byte))
    ((fault.record ≡ 0) × (fault.byte ≡ 0) × (cause_number fault.cause ≡ 1))

-- why the image of one room is refused: the counts are looked at before the bytes
abbrev pub ImageRefused : ℕ → ℕ → List ℕ → Refusal → Type 0
ImageRefused nodes places bytes e =
    cond (fitting nodes places)
    ((fault : Fault) × (e ≡ reason.Image fault) × (fault.room ≡ 0) × Malformed nodes places bytes fault)
    (e ≡ reason.Size)

-- the counts that two rooms of a pair may have
abbrev pub rooms_fit : ℕ → ℕ → ℕ → Bool
rooms_fit n m places = (fitting n places && fitting m places) && nat_le (n + m) 16

-- the fault is in the first room, or the first room's image is formed and the fault is in the second
abbrev pub InRooms : ℕ → ℕ → ℕ → List ℕ → List ℕ → Fault → Type 0
InRooms n m places first second fault =
    ((fault.room ≡ 0) × Malformed n places first fault)
    ⊎ ((fault.room ≡ 1) × Formed n places first × Malformed m places second fault)

-- why the images of two rooms are refused
abbrev pub ImagesRefused : ℕ → ℕ → ℕ → List ℕ → List ℕ → Refusal → Type 0
ImagesRefused n m places first second e =
    cond (rooms_fit n m places)
    ((fault : Fault) × (e ≡ reason.Image fault) × InRooms n m places first second fault)
    (e ≡ reason.Size)

-- the rack that the first n records of some bytes stand for, with these meters
abbrev pub decoded : ℕ → ℕ → List ℕ → List ℕ → Model
decoded n places bytes meters = record {
  nodes = n;
  places = places;
  flags = λ i. cond (nat_lt i n) (slice_index bytes (i * record_length places + 3) == 1) false;
  words = λ i p. cond (nat_lt i n && nat_lt p places) (slice_index bytes (i * record_length places + (4 + 2 * p)) + 256 * slice_index bytes (i * record_length places + (5 + 2 * p))) 0;
  meters = λ i. slice_index meters i;
}

-- how many nodes any bytes have: as many as there are whole records, but no more than 16
abbrev pub record_count : ℕ → List ℕ → ℕ
record_count places bytes = min 16 (length bytes / record_length places)

-- the rack that an `ImageRack` is
abbrev pub image_model : ImageRack → Model
image_model s = decoded (record_count s.places s.bytes.now) s.places s.bytes.now s.meters

-- the rack on bytes that were just lent: each meter is 0
abbrev pub opened : ℕ → List ℕ → Model
opened places bytes = decoded (record_count places bytes) places bytes (replicate 16 0)

-- two racks of the same counts with the same flags and words at every node and place
pub record SameHeld (a b : Model) : Type 0 where
  pub nodes : b.nodes ≡ a.nodes
  pub places : b.places ≡ a.places
  pub flags : (i : ℕ) → i < a.nodes → b.flags i ≡ a.flags i
  pub words : (i p : ℕ) → i < a.nodes → p < a.places → b.words i p ≡ a.words i p

-- each word is one of 16 bits
abbrev pub Words16 : Model → Type 0
Words16 m = (i p : ℕ) → i < m.nodes → p < m.places → m.words i p < 2 ^ 16
