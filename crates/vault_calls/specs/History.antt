-- What holds after every list of calls on one vault. Assumes nothing.
use Rattle.std.specs.Prelude.{◌≡◌, ℕ, ◌+◌, ◌-◌, ◌*◌, ◌^◌, ◌<◌, ◌≤◌, Bool, true, false, cond, not, List, [], ◌∷◌, length, Some, None, Ok, Err, Option, Result, ◌≢◌, nat_eq, slice_index}
use Rattle.field.specs.Field.{Arith}
use Rattle.shape.specs.Outages.{count, every}
use Rattle.code.specs.Code.{Words, Encodes, helps}
use Rattle.rack.specs.Model.{Model, risen}
use Rattle.refusal.specs.declared.reason.Refusal.{Refusal}
use Rattle.vault_calls.specs.declared.answer.Answer.{Answer}
use Rattle.vault_calls.specs.Calls.{answer, wrong_size, short, out_count, Store, Drop, Alter, Repair, Recover, Read}

-- a call with its arguments; a work space counts by its length, an answer buffer by what it held
pub data Call : Type 0 where
  store : List ℕ → ℕ → Call
  drop : ℕ → Call
  alter : ℕ → ℕ → ℕ → Call
  repair : ℕ → ℕ → Call
  recover : ℕ → Call
  read : ℕ → List ℕ → Call

pub record Event : Type 0 where
  pub call : Call
  pub reply : Result Answer Refusal

-- the message after one more event
abbrev pub message_after : Call → Result Answer Refusal → Option (List ℕ) → Option (List ℕ)
message_after (store message space) (Ok a) before = Some message
message_after (store message space) (Err e) before = before
message_after (drop i) r before = before
message_after (alter i p w) r before = before
message_after (repair i space) r before = before
message_after (recover space) r before = before
message_after (read start buffer) r before = before

-- whether an alter was accepted, after one more event
abbrev pub altered_after : Call → Result Answer Refusal → Bool → Bool
altered_after (store message space) (Ok a) before = false
altered_after (store message space) (Err e) before = before
altered_after (drop i) r before = before
altered_after (alter i p w) (Ok a) before = true
altered_after (alter i p w) (Err e) before = before
altered_after (repair i space) r before = before
altered_after (recover space) r before = before
altered_after (read start buffer) r before = before

-- the message of the last accepted store; the newest event comes first
abbrev pub last_message : List Event → Option (List ℕ)
last_message [] = None
last_message (e ∷ es) = message_after e.call e.reply (last_message es)

-- whether an alter was accepted since that store
abbrev pub altered : List Event → Bool
altered [] = false
altered (e ∷ es) = altered_after e.call e.reply (altered es)

module _ {E : Type 0} (f : Arith E) (q t : ℕ) where
  -- what the contract of the call says
  abbrev pub Meets : Call → Model → Result Answer Refusal → Model → Type 0
  Meets (store message space) m r m' = Store f q t m message space r m'
  Meets (drop i) m r m' = Drop q t m i r m'
  Meets (alter i p w) m r m' = Alter f q t m i p w r m'
  Meets (repair i space) m r m' = Repair f q t m i space r m'
  Meets (recover space) m r m' = Recover f q t m space r m'
  Meets (read start buffer) m r m' = (buffer' : List ℕ) × Read q t m start buffer r m' buffer'

  -- the events lead from a vault just opened on a rack m0 to the rack m
  pub data Led (m0 : Model) : List Event → Model → Type 0 where
    opened : wrong_size q t m0 ≡ false → Led m0 [] m0
    then : {es : List Event} {e : Event} {m m' : Model} → Led m0 es m → Meets e.call m e.reply m' → Led m0 (e ∷ es) m'

  -- m was reached by calls of which an accepted store was one; message is the last such store's, and w the codeword that carries it
  pub record After (m : Model) (es : List Event) (message : List ℕ) (w : Words) : Type 0 where
    pub start : Model
    pub led : Led start es m
    pub stored : last_message es ≡ Some message
    pub encodes : Encodes f q t message w

  -- a node that stands and has a word that is not the store's
  abbrev pub differs : Model → Words → ℕ → Bool
  differs m w i = cond (m.flags i) (not (every (λ p. nat_eq (m.words i p) (w i p)) (q ^ t))) false

  abbrev pub differ_count : Model → Words → ℕ
  differ_count m w = count (differs m w) (q * t)

  pub record RecoverHolds (m : Model) (w : Words) (r : Result Answer Refusal) (m' : Model) : Type 0 where
    pub accepted : differ_count m w ≡ 0 → (a : Answer) × (r ≡ Ok a)
    pub none_differed : (a : Answer) → r ≡ Ok a → differ_count m w ≡ 0
    pub all_stand : (a : Answer) → r ≡ Ok a → out_count q t m' ≡ 0
    pub none_differs : (a : Answer) → r ≡ Ok a → differ_count m' w ≡ 0

  -- after any list of calls, if nodes out and nodes that differ come to q or fewer
  abbrev pub RecoverPromise : Model → ℕ → Result Answer Refusal → Model → Type 0
  RecoverPromise m space r m' =
      (es : List Event) (message : List ℕ) (w : Words) → After m es message w → short q t space ≡ false → out_count q t m + differ_count m w ≤ q → RecoverHolds m w r m'

  pub record RepairHolds (m : Model) (w : Words) (i : ℕ) (r : Result Answer Refusal) (m' : Model) : Type 0 where
    pub accepted : r ≡ Ok (answer 1 ((q * t - 1) * q ^ (t - 1)))
    pub others_rise : (j : ℕ) → j < q * t → (j ≢ i) → m'.meters j ≡ risen (m.meters j) (q ^ (t - 1))
    pub own_stays : m'.meters i ≡ m.meters i
    pub stands : m'.flags i ≡ true
    pub restored : ((j p : ℕ) → j < q * t → (j ≢ i) → p < q ^ t → helps q i p ≡ true → m.words j p ≡ w j p) → (p : ℕ) → p < q ^ t → m'.words i p ≡ w i p

  -- after any list of calls, if node i alone is out
  abbrev pub RepairPromise : Model → ℕ → ℕ → Result Answer Refusal → Model → Type 0
  RepairPromise m i space r m' =
      (es : List Event) (message : List ℕ) (w : Words) → After m es message w → short q t space ≡ false → i < q * t → m.flags i ≡ false → out_count q t m ≡ 1 → RepairHolds m w i r m'

  -- after any list of calls with no accepted alter since the last accepted store
  abbrev pub ReadPromise : Model → ℕ → Result Answer Refusal → List ℕ → Type 0
  ReadPromise m start r buffer' =
      (es : List Event) (message : List ℕ) (w : Words) → After m es message w → altered es ≡ false → (a : Answer) → r ≡ Ok a → (j : ℕ) → j < length buffer' → slice_index buffer' j ≡ slice_index message (start + j)
