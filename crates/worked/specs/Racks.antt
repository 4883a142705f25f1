-- Racks that hold given words, before a call and after it. Assumes nothing.
use Rattle.std.specs.Prelude.{◌≡◌, ℕ, ◌*◌, ◌^◌, ◌<◌, true, false, not, List, length, Ok, Err, Result, ◌≢◌, slice_index}
use Rattle.code.specs.Code.{Words}
use Rattle.rack.specs.Model.{Model, changed, risen}
use Rattle.refusal.specs.Numbers.{number_of}
use Rattle.refusal.specs.declared.reason.Refusal.{Refusal}
use Rattle.shape.specs.Outages.{among}
use Rattle.vault_calls.specs.Calls.{wrong_size, answer}
use Rattle.vault_calls.specs.declared.answer.Answer.{Answer}

-- the array with one word altered
abbrev pub altered : Words → (i p word : ℕ) → Words
altered w i p word = changed w i (changed (w i) p word)

-- a rack of the shape's counts in which the listed nodes are out, and the others stand and hold these words
pub record Holding (q t : ℕ) (w : Words) (out : List ℕ) (m : Model) : Type 0 where
  pub sized : wrong_size q t m ≡ false
  pub flags : (i : ℕ) → i < q * t → m.flags i ≡ not (among out i)
  pub words : (i p : ℕ) → i < q * t → p < q ^ t → among out i ≡ false → m.words i p ≡ w i p

-- a repair of node i was accepted: the listed places of each other node were drawn, and the node stands with the words of the refill
pub record Repaired (q t : ℕ) (m : Model) (i : ℕ) (places : List ℕ) (drawn : ℕ) (refill : List ℕ) (r : Result Answer Refusal) (m' : Model) : Type 0 where
  pub accepted : r ≡ Ok (answer 1 drawn)
  pub stands : m'.flags i ≡ true
  pub refilled : (p : ℕ) → p < q ^ t → m'.words i p ≡ slice_index refill p
  pub others_rise : (j : ℕ) → j < q * t → (j ≢ i) → m'.meters j ≡ risen (m.meters j) (length places)
  pub own_stays : m'.meters i ≡ m.meters i

-- a call was refused by a number
abbrev pub Refused : ℕ → Result Answer Refusal → Type 0
Refused number r = (e : Refusal) × (r ≡ Err e) × (number_of e ≡ number)
