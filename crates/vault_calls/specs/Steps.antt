-- What the steps of the calls leave: in the rack, and in a work space that holds the words of all nodes in a row. Assumes nothing.
use Rattle.std.specs.Borrow.{MutBor}
use Rattle.std.specs.Prelude.{◌≡◌, ℕ, ◌+◌, ◌/◌, ◌<◌, Bool, true, cond, ◌&&◌, List, nat_eq, nat_lt}
use Rattle.code.specs.Code.{Words, laid}
use Rattle.shape.specs.Outages.{count}
use Rattle.rack.specs.Filled.{filled, with_draws}
use Rattle.rack.specs.Model.{Model, risen}
use Rattle.shape.specs.declared.dimensions.Shape.{Shape}

-- at each place a test may be called, and decides as `takes` says
pub record Decides (pre : ℕ → Type 0) (post : ℕ → Bool → Type 0) (places : ℕ) (takes : ℕ → Bool) : Type 0 where
  pub callable : (p : ℕ) → p < places → pre p
  pub told : (p : ℕ) (b : Bool) → p < places → post p b → b ≡ takes p

-- node i was drawn from k times
abbrev pub drawn : Model → ℕ → ℕ → Model
drawn m i k = with_draws m i k

-- every standing node below n was drawn from k times
abbrev pub drawn_below : Model → ℕ → ℕ → Model
drawn_below m n k = record { nodes = m.nodes; places = m.places; flags = m.flags; words = m.words; meters = λ i. cond (nat_lt i n && m.flags i) (risen (m.meters i) k) (m.meters i) }

-- k words of the message were got from a start on, each from its node
abbrev pub read_drawn : Model → ℕ → ℕ → ℕ → Model
read_drawn m start places k = record { nodes = m.nodes; places = m.places; flags = m.flags; words = m.words; meters = λ i. risen (m.meters i) (count (λ j. nat_eq ((start + j) / places) i) k) }

-- node i was written whole and raised
abbrev pub written : Model → ℕ → (ℕ → ℕ) → Model
written m i c = filled m i c

-- the nodes below n that pass the test were written whole and raised
abbrev pub written_below : Model → (ℕ → Bool) → Words → ℕ → Model
written_below m test w n = record {
  nodes = m.nodes;
  places = m.places;
  flags = λ i. cond (nat_lt i n && test i) true (m.flags i);
  words = λ i p. cond (nat_lt i n && test i) (cond (nat_lt p m.places) (w i p) (m.words i p)) (m.words i p);
  meters = m.meters;
}

-- the space holds these words where the test holds, and otherwise what it held
abbrev pub Gathered : ℕ → (ℕ → ℕ → Bool) → Words → List ℕ → List ℕ → Type 0
Gathered places test words before after = (j p : ℕ) → p < places → laid places after j p ≡ cond (test j p) (words j p) (laid places before j p)

-- a shape and the rack that is lent beside it, at a later time: the same shape, and the same rack, kept as racks are
pub record StaysLent {S : Type 0} (kept : S → S → Type 0) (s : Shape) (r : MutBor S) (s' : Shape) (r' : MutBor S) : Type 0 where
  pub same_shape : s' ≡ s
  pub same_rack : r'.ghost_name ≡ r.ghost_name
  pub stays : kept r.now r'.now
