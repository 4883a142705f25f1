-- What a line asks for. Assumes nothing.
use Rattle.std.specs.Prelude.{ℕ, cond, List, [], ◌∷◌, Some, None, vec_items, codes, Option}
use Rattle.std.specs.Str.{bytes_eq}
use Rattle.lines.specs.declared.command.Command.{Command}
use Rattle.lines.specs.declared.command.Command.TheVariants as command
use Rattle.lines.specs.declared.command.Kind.{Kind}
use Rattle.lines.specs.declared.command.Kind.TheVariants as kind
use Rattle.lines.specs.Items.{items}
use Rattle.lines.specs.Numbers.{numbers_in}

-- what can be asked for
pub data Request : Type 0 where
  opens : Kind → ℕ → ℕ → Request
  stores : List ℕ → Request
  drops : ℕ → Request
  alters : ℕ → ℕ → ℕ → Request
  repairs : ℕ → Request
  recovers : Request
  reads : ℕ → ℕ → Request

-- what a command asks for
abbrev pub requested : Command → Request
requested (command.Open k q t) = opens k q t
requested (command.Store words) = stores (vec_items words)
requested (command.DropNode i) = drops i
requested (command.Alter i p w) = alters i p w
requested (command.Repair i) = repairs i
requested command.Recover = recovers
requested (command.Read start count) = reads start count

-- a request that takes no number, one, two or three, with these numbers; none where they are fewer or more
abbrev pub with_none : Request → List ℕ → Option Request
with_none r [] = Some r
with_none r (a ∷ more) = None

abbrev pub with_one : (ℕ → Request) → List ℕ → Option Request
with_one r [] = None
with_one r (a ∷ []) = Some (r a)
with_one r (a ∷ b ∷ more) = None

abbrev pub with_two : (ℕ → ℕ → Request) → List ℕ → Option Request
with_two r [] = None
with_two r (a ∷ []) = None
with_two r (a ∷ b ∷ []) = Some (r a b)
with_two r (a ∷ b ∷ c ∷ more) = None

abbrev pub with_three : (ℕ → ℕ → ℕ → Request) → List ℕ → Option Request
with_three r [] = None
with_three r (a ∷ []) = None
with_three r (a ∷ b ∷ []) = None
with_three r (a ∷ b ∷ c ∷ []) = Some (r a b c)
with_three r (a ∷ b ∷ c ∷ d ∷ more) = None

-- what a word asks for with the numbers after it
unfoldable pub asked : List ℕ → List ℕ → Option Request
asked word ns =
    cond (bytes_eq word (codes "store")) (Some (stores ns))
    (cond (bytes_eq word (codes "byte")) (with_two (opens kind.Byte) ns)
    (cond (bytes_eq word (codes "prime")) (with_two (opens kind.Prime) ns)
    (cond (bytes_eq word (codes "drop")) (with_one drops ns)
    (cond (bytes_eq word (codes "alter")) (with_three alters ns)
    (cond (bytes_eq word (codes "repair")) (with_one repairs ns)
    (cond (bytes_eq word (codes "recover")) (with_none recovers ns)
    (cond (bytes_eq word (codes "read")) (with_two reads ns)
    None)))))))

-- what a word asks for, with the numbers after it if they are numbers
abbrev pub asked_if : List ℕ → Option (List ℕ) → Option Request
asked_if word None = None
asked_if word (Some ns) = asked word ns

-- what items ask for: the first is the word
abbrev pub asked_by : List (List ℕ) → Option Request
asked_by [] = None
asked_by (word ∷ more) = asked_if word (numbers_in more)

-- what a line asks for
unfoldable pub request : List ℕ → Option Request
request line = asked_by (items line)
