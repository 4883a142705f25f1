-- Two racks as one: the first room's nodes come first. Assumes nothing.
use Rattle.std.specs.Prelude.{◌≡◌, ℕ, ◌+◌, ◌-◌, ◌<◌, ◌≤◌, min, Bool, cond, ◌&&◌, ◌==◌, nat_le, nat_lt}
use Rattle.rack.specs.Model.{Model}
use Rattle.rack_pair.specs.declared.seat.Seat.{Seat}
use Rattle.rack_pair.specs.declared.seat.Seat.TheVariants.{First, Second}

-- f below n, and g, counted from n, above
abbrev pub followed : {X : Type 0} → ℕ → (ℕ → X) → (ℕ → X) → ℕ → X
followed n f g k = cond (nat_lt k n) (f k) (g (k - n))

-- no more than 16 nodes, and the places that both rooms have
abbrev pub paired : Model → Model → Model
paired a b = record {
  nodes = min 16 (a.nodes + b.nodes);
  places = min a.places b.places;
  flags = followed a.nodes a.flags b.flags;
  words = followed a.nodes a.words b.words;
  meters = followed a.nodes a.meters b.meters;
}

-- the two rooms have equally many places, and at most 16 nodes in all
abbrev pub matching : Model → Model → Bool
matching a b = a.places == b.places && nat_le (a.nodes + b.nodes) 16

-- where node i of the two is
abbrev pub Placed : Model → Model → ℕ → Seat → Type 0
Placed a b i (First k) = (i < (paired a b).nodes) × (i < a.nodes) × (k ≡ i)
Placed a b i (Second k) = (i < (paired a b).nodes) × (a.nodes ≤ i) × (k ≡ i - a.nodes)

-- the first n nodes of a rack, and the k nodes after them
abbrev pub first_room : ℕ → Model → Model
first_room n m = record { nodes = n; places = m.places; flags = m.flags; words = m.words; meters = m.meters }

abbrev pub second_room : ℕ → ℕ → Model → Model
second_room n k m = record {
  nodes = k;
  places = m.places;
  flags = λ i. m.flags (n + i);
  words = λ i. m.words (n + i);
  meters = λ i. m.meters (n + i);
}
