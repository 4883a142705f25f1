-- What the console answers to a line, and the state that it leaves. Assumes nothing.
use Rattle.std.specs.Prelude.{◌≡◌, ℕ, ◌*◌, ◌^◌, false, cond, ◌⊎◌, List, [], length, Some, None, Ok, Err, vec_items, Option, Result}
use Rattle.field.specs.Field.{Arith}
use Rattle.field.specs.ByteField.{byte_arith}
use Rattle.field.specs.PrimeField.{prime_arith}
use Rattle.lines.specs.declared.command.Kind.{Kind}
use Rattle.lines.specs.declared.command.Kind.TheVariants as kind
use Rattle.lines.specs.Requests.{Request, opens, stores, drops, alters, repairs, recovers, reads, request}
use Rattle.lines.specs.Printed.{bad_line, no_line, ok_line}
use Rattle.rack.specs.Model.{Model, fresh}
use Rattle.rack.specs.Table.{table_model}
use Rattle.rack.specs.declared.table.TableRack.{TableRack}
use Rattle.rack.specs.declared.table_error.TableError.{TableError}
use Rattle.rack.specs.declared.table_error.TableError.TheVariants.{Refused, NoMemory}
use Rattle.refusal.specs.Numbers.{number_of}
use Rattle.refusal.specs.declared.reason.Refusal.{Refusal}
use Rattle.refusal.specs.declared.reason.Refusal.TheVariants as reason
use Rattle.shape.specs.Layout.{is_shape}
use Rattle.vault_calls.specs.Calls.{answer, Store, Drop, Alter, Repair, Recover, Read}
use Rattle.vault_calls.specs.declared.answer.Answer.{Answer}
use Rattle.vault.specs.declared.owner.Vault.{Vault}
use Rattle.console.specs.declared.calls.Reply.{Reply}
use Rattle.console.specs.declared.session.AnyVault.{AnyVault}
use Rattle.console.specs.declared.session.AnyVault.TheVariants as vault
use Rattle.console.specs.declared.session.Session.{Session}

-- no vault yet; or one over a field, of q rows and t columns, on a rack
pub data State : Type 0 where
  closed : State
  opened : Kind → ℕ → ℕ → Model → State

-- the state of a session
abbrev pub held : Option AnyVault → State
held None = closed
held (Some (vault.Byte v)) = opened kind.Byte v.shape.q v.shape.t (table_model v.rack)
held (Some (vault.Prime v)) = opened kind.Prime v.shape.q v.shape.t (table_model v.rack)

abbrev pub state_of : Session → State
state_of s = held s.vault

-- a call was made, and this holds of what it answered
abbrev pub Gives : (Result Answer Refusal → Type 0) → Option (Result Answer Refusal) → Type 0
Gives P None = ⊥
Gives P (Some r) = P r

module _ {E : Type 0} (f : Arith E) (q t : ℕ) where
  -- what a request to an open vault is answered, with the words read, and the rack after it; the work space has a word for each place of each node
  abbrev pub Made : Request → Model → Option (Result Answer Refusal) → List ℕ → Model → Type 0
  Made (opens k rows columns) m o words m' = (o ≡ None) × (m' ≡ m)
  Made (stores message) m o words m' = (words ≡ []) × Gives (λ r. Store f q t m message (q * t * q ^ t) r m') o
  Made (drops i) m o words m' = (words ≡ []) × Gives (λ r. Drop q t m i r m') o
  Made (alters i p w) m o words m' = (words ≡ []) × Gives (λ r. Alter f q t m i p w r m') o
  Made (repairs i) m o words m' = (words ≡ []) × Gives (λ r. Repair f q t m i (q * t * q ^ t) r m') o
  Made recovers m o words m' = (words ≡ []) × Gives (λ r. Recover f q t m (q * t * q ^ t) r m') o
  Made (reads start count) m o words m' = (buffer : List ℕ) × ((length buffer ≡ count) × Gives (λ r. Read q t m start buffer r m' words) o)

-- the same of a vault on a table
abbrev pub Served : {E F : Type 0} → Arith E → Request → Vault F TableRack → Reply → Vault F TableRack → Type 0
Served f asks v y v' =
    (v'.shape ≡ v.shape) × Made f v.shape.q v.shape.t asks (table_model v.rack) y.answer (vec_items y.words) (table_model v'.rack)

-- what opening answers, and the state after it
abbrev pub opening : ℕ → ℕ → Result Answer Refusal
opening q t = cond (is_shape q t) (Ok (answer 0 0)) (Err reason.Shape)

abbrev pub after_opening : Kind → ℕ → ℕ → State
after_opening k q t = cond (is_shape q t) (opened k q t (fresh (q * t) (q ^ t))) closed

-- why no vault was opened: the numbers are no shape, or memory is wanting
abbrev pub Unopened : ℕ → ℕ → TableError → Type 0
Unopened q t (Refused why) = (is_shape q t ≡ false) × (why ≡ reason.Shape)
Unopened q t NoMemory = Unit {0}

-- what a request is answered before there is a vault: only a shape is taken
abbrev pub Begun : Request → Option (Result Answer Refusal) → List ℕ → State → Type 0
Begun (opens k q t) o words s' = (o ≡ Some (opening q t)) × (words ≡ []) × (s' ≡ after_opening k q t)
Begun (stores message) o words s' = (o ≡ None) × (s' ≡ closed)
Begun (drops i) o words s' = (o ≡ None) × (s' ≡ closed)
Begun (alters i p w) o words s' = (o ≡ None) × (s' ≡ closed)
Begun (repairs i) o words s' = (o ≡ None) × (s' ≡ closed)
Begun recovers o words s' = (o ≡ None) × (s' ≡ closed)
Begun (reads start count) o words s' = (o ≡ None) × (s' ≡ closed)

-- what a request is answered in a state, with the words read, and the state after it; none where it cannot come now
abbrev pub Replied : Request → State → Option (Result Answer Refusal) → List ℕ → State → Type 0
Replied asks closed o words s' = Begun asks o words s'
Replied asks (opened kind.Byte q t m) o words s' = (m' : Model) × (Made byte_arith q t asks m o words m' × (s' ≡ opened kind.Byte q t m'))
Replied asks (opened kind.Prime q t m) o words s' = (m' : Model) × (Made prime_arith q t asks m o words m' × (s' ≡ opened kind.Prime q t m'))

-- what is printed for it
abbrev pub reply_line : Option (Result Answer Refusal) → List ℕ → List ℕ
reply_line None words = bad_line
reply_line (Some (Ok a)) words = ok_line a.filled a.drawn words
reply_line (Some (Err e)) words = no_line (number_of e)

-- what is printed for what a line asks, and the state after it
abbrev pub AnsweredTo : Option Request → State → List ℕ → State → Type 0
AnsweredTo None s bytes s' = (bytes ≡ bad_line) × (s' ≡ s)
AnsweredTo (Some asks) s bytes s' =
    (o : Option (Result Answer Refusal)) × ((words : List ℕ) × (Replied asks s o words s' × (bytes ≡ reply_line o words)))

-- what is printed for a line, and the state after it
abbrev pub Answered : State → List ℕ → List ℕ → State → Type 0
Answered s line bytes s' = AnsweredTo (request line) s bytes s'

-- where memory was wanting for a line, nothing is printed: it changed nothing, or it was answered whole and only the printing is missing
abbrev pub Unprinted : State → List ℕ → State → Type 0
Unprinted s line s' = (s' ≡ s) ⊎ ((bytes : List ℕ) × Answered s line bytes s')
