-- What each call of a vault answers and leaves. Assumes nothing.
use Rattle.std.specs.Prelude.{◌≡◌, ℕ, ◌+◌, ◌-◌, ◌*◌, ◌/◌, ◌%◌, ◌^◌, ◌<◌, Bool, true, false, cond, not, ◌&&◌, ◌||◌, List, length, drop, Some, None, Ok, Err, Option, Result, ◌==◌, nat_eq, nat_lt, slice_index}
use Rattle.field.specs.Field.{Arith}
use Rattle.shape.specs.Outages.{count, every, listed}
use Rattle.code.specs.Code.{Words, Agrees, OnlyAgrees, Encodes, OnlyRefill}
use Rattle.code.specs.Calls.{all_codes, good_standing, good_help}
use Rattle.refusal.specs.First.{first}
use Rattle.refusal.specs.Numbers.{number_of}
use Rattle.rack.specs.Model.{Model, changed, risen, with_flag, with_word, within, node_within}
use Rattle.refusal.specs.declared.reason.Refusal.{Refusal}
use Rattle.refusal.specs.declared.reason.Refusal.TheVariants.{Size, MessageLength, WorkSpace, NoCode, NoSuchPlace, NodeOut, NodeStands, AnotherOut, TooManyOut, BadWord, NoCodeword}
use Rattle.vault_calls.specs.declared.answer.Answer.{Answer}

abbrev pub answer : ℕ → ℕ → Answer
answer filled drawn = record { filled = filled; drawn = drawn }

-- the refusals that come after everything was drawn
abbrev pub drew : Refusal → Bool
drew e = number_of e == 12 || number_of e == 13

-- the work space after a call: its first words are free where the call was accepted or drew, and no other word changes
abbrev pub Space : ℕ → Result Answer Refusal → List ℕ → List ℕ → Type 0
Space used (Ok a) before after = drop used after ≡ drop used before
Space used (Err e) before after = cond (drew e) (drop used after ≡ drop used before) (after ≡ before)

module _ (q t : ℕ) where
  -- the rack's counts are not the shape's
  abbrev pub wrong_size : Model → Bool
  wrong_size m = not (m.nodes == q * t && m.places == q ^ t)

  -- a work space of so many words is too short
  abbrev pub short : ℕ → Bool
  short space = nat_lt space (q * t * q ^ t)

  -- the nodes that are out, rising, and how many
  abbrev pub out_nodes : Model → List ℕ
  out_nodes m = listed (λ i. not (m.flags i)) (q * t)

  abbrev pub out_count : Model → ℕ
  out_count m = count (λ i. not (m.flags i)) (q * t)

  -- the counts stay, and m' has these flags, words and meters at its nodes and places
  pub record Now (m : Model) (flags : ℕ → Bool) (words : Words) (meters : ℕ → ℕ) (m' : Model) : Type 0 where
    pub same_nodes : m'.nodes ≡ m.nodes
    pub same_places : m'.places ≡ m.places
    pub has_flags : (i : ℕ) → i < q * t → m'.flags i ≡ flags i
    pub has_words : (i p : ℕ) → i < q * t → p < q ^ t → m'.words i p ≡ words i p
    pub has_meters : (i : ℕ) → i < q * t → m'.meters i ≡ meters i

  -- ---- drop
  abbrev pub drop_refusal : Model → ℕ → Option Refusal
  drop_refusal m i = first (wrong_size m) Size (first (not (node_within m i)) NoSuchPlace (first (not (m.flags i)) NodeOut None))

  abbrev pub Drop : Model → ℕ → Result Answer Refusal → Model → Type 0
  Drop m i (Ok a) m' = (drop_refusal m i ≡ None) × (a ≡ answer 0 0) × (m' ≡ with_flag m i false)
  Drop m i (Err e) m' = (drop_refusal m i ≡ Some e) × (m' ≡ m)

  -- ---- read
  abbrev pub read_refusal : Model → ℕ → ℕ → Option Refusal
  read_refusal m start len =
      first (wrong_size m) Size
      (first (nat_lt (q * (t - 1) * q ^ t) (start + len)) NoSuchPlace
      (first (not (every (λ j. m.flags ((start + j) / q ^ t)) len)) NodeOut None))

  -- each word is got once from its node
  abbrev pub read_meters : Model → ℕ → ℕ → ℕ → ℕ
  read_meters m start len i = risen (m.meters i) (count (λ j. nat_eq ((start + j) / q ^ t) i) len)

  -- word j of the message as the data nodes hold it
  abbrev pub held : Model → ℕ → ℕ
  held m j = m.words (j / q ^ t) (j % q ^ t)

  abbrev pub Read : Model → ℕ → List ℕ → Result Answer Refusal → Model → List ℕ → Type 0
  Read m start buffer (Ok a) m' buffer' =
      (read_refusal m start (length buffer) ≡ None) × (a ≡ answer 0 (length buffer)) × Now m m.flags m.words (read_meters m start (length buffer)) m'
      × (length buffer' ≡ length buffer) × ((j : ℕ) → j < length buffer → slice_index buffer' j ≡ held m (start + j))
  Read m start buffer (Err e) m' buffer' = (read_refusal m start (length buffer) ≡ Some e) × (m' ≡ m) × (buffer' ≡ buffer)

module _ {E : Type 0} (f : Arith E) (q t : ℕ) where
  -- ---- alter
  abbrev pub alter_refusal : Model → ℕ → ℕ → ℕ → Option Refusal
  alter_refusal m i p w =
      first (wrong_size q t m) Size
      (first (not (nat_lt w f.size)) NoCode
      (first (not (within m i p)) NoSuchPlace
      (first (not (m.flags i)) NodeOut None)))

  abbrev pub Alter : Model → ℕ → ℕ → ℕ → Result Answer Refusal → Model → Type 0
  Alter m i p w (Ok a) m' = (alter_refusal m i p w ≡ None) × (a ≡ answer 0 0) × (m' ≡ with_word m i p w)
  Alter m i p w (Err e) m' = (alter_refusal m i p w ≡ Some e) × (m' ≡ m)

  -- ---- store: past the tests the only codeword that carries the message stands in every node
  abbrev pub store_refusal : Model → List ℕ → ℕ → Option Refusal
  store_refusal m message space =
      first (wrong_size q t m) Size
      (first (not (length message == q * (t - 1) * q ^ t)) MessageLength
      (first (short q t space) WorkSpace
      (first (not (all_codes f message)) NoCode None)))

  abbrev pub Store : Model → List ℕ → ℕ → Result Answer Refusal → Model → Type 0
  Store m message space (Ok a) m' =
      (store_refusal m message space ≡ None) × (a ≡ answer (q * t) 0) × ((w : Words) × (Encodes f q t message w × Now q t m (λ i. true) w m.meters m'))
  Store m message space (Err e) m' = (store_refusal m message space ≡ Some e) × (m' ≡ m)

  -- ---- repair of node i: it gets each place that helps from every other node
  abbrev pub repair_refusal : Model → ℕ → ℕ → Option Refusal
  repair_refusal m i space =
      first (wrong_size q t m) Size
      (first (short q t space) WorkSpace
      (first (not (node_within m i)) NoSuchPlace
      (first (m.flags i) NodeStands
      (first (nat_lt 1 (out_count q t m)) AnotherOut None))))

  abbrev pub repair_meters : Model → ℕ → ℕ → ℕ
  repair_meters m i j = cond (j == i) (m.meters j) (risen (m.meters j) (q ^ (t - 1)))

  -- a repair that was refused: by a test, which changes nothing, or after everything was drawn
  abbrev pub NotRepaired : Model → ℕ → Refusal → Model → Option Refusal → Type 0
  NotRepaired m i e m' (Some r) = (e ≡ r) × (m' ≡ m)
  NotRepaired m i e m' None = (e ≡ BadWord) × (good_help f q t m.words i ≡ false) × Now q t m m.flags m.words (repair_meters m i) m'

  abbrev pub Repair : Model → ℕ → ℕ → Result Answer Refusal → Model → Type 0
  Repair m i space (Ok a) m' =
      (repair_refusal m i space ≡ None) × (good_help f q t m.words i ≡ true) × (a ≡ answer 1 ((q * t - 1) * q ^ (t - 1)))
      × ((c : ℕ → ℕ) × (OnlyRefill f q t m.words i c × Now q t m (changed m.flags i true) (changed m.words i c) (repair_meters m i) m'))
  Repair m i space (Err e) m' = NotRepaired m i e m' (repair_refusal m i space)

  -- ---- recover: it gets every place of every standing node
  abbrev pub recover_refusal : Model → ℕ → Option Refusal
  recover_refusal m space = first (wrong_size q t m) Size (first (short q t space) WorkSpace (first (nat_lt q (out_count q t m)) TooManyOut None))

  abbrev pub recover_meters : Model → ℕ → ℕ
  recover_meters m i = cond (m.flags i) (risen (m.meters i) (q ^ t)) (m.meters i)

  -- why a recover was refused after everything was drawn, by whether every standing word is a code
  abbrev pub Unrecovered : Model → Refusal → Bool → Type 0
  Unrecovered m e true = (e ≡ NoCodeword) × ((w : Words) → Agrees f q t m.flags m.words w → ⊥)
  Unrecovered m e false = e ≡ BadWord

  -- a recover that was refused: by a test, which changes nothing, or after everything was drawn
  abbrev pub NotRecovered : Model → Refusal → Model → Option Refusal → Type 0
  NotRecovered m e m' (Some r) = (e ≡ r) × (m' ≡ m)
  NotRecovered m e m' None = Now q t m m.flags m.words (recover_meters m) m' × Unrecovered m e (good_standing f q t m.flags m.words)

  abbrev pub Recover : Model → ℕ → Result Answer Refusal → Model → Type 0
  Recover m space (Ok a) m' =
      (recover_refusal m space ≡ None) × (a ≡ answer (out_count q t m) ((q * t - out_count q t m) * q ^ t))
      × ((w : Words) × (OnlyAgrees f q t m.flags m.words w × Now q t m (λ i. true) w (recover_meters m) m'))
  Recover m space (Err e) m' = NotRecovered m e m' (recover_refusal m space)
