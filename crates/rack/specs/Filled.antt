-- What is left when the words of a whole node are written, copied or moved. Assumes nothing.
use Rattle.std.specs.Prelude.{ℕ, Bool, true, false, cond, ◌&&◌, List, map, length, Ok, Err, Result, ◌==◌, nat_lt, slice_index}
use Rattle.std.specs.List.{range_with_len}
use Rattle.refusal.specs.declared.reason.Refusal.{Refusal}
use Rattle.refusal.specs.declared.reason.Refusal.TheVariants.{NoSuchPlace, NodeOut}
use Rattle.rack.specs.Model.{Model, changed, risen, with_flag, node_within}

-- node i with the first n of the words f
abbrev pub with_words : Model → ℕ → (ℕ → ℕ) → ℕ → Model
with_words m i f n = record {
  nodes = m.nodes;
  places = m.places;
  flags = m.flags;
  words = changed m.words i (λ p. cond (nat_lt p n) (f p) (m.words i p));
  meters = m.meters;
}

-- node i with all its words from f, and standing
abbrev pub filled : Model → ℕ → (ℕ → ℕ) → Model
filled m i f = with_flag (with_words m i f m.places) i true

-- node i drawn n times
abbrev pub with_draws : Model → ℕ → ℕ → Model
with_draws m i n = record {
  nodes = m.nodes;
  places = m.places;
  flags = m.flags;
  words = m.words;
  meters = changed m.meters i (risen (m.meters i) n);
}

-- the word at each place of a list
abbrev pub listed : List ℕ → ℕ → ℕ
listed ws p = slice_index ws p

-- the words of node i
abbrev pub row : Model → ℕ → List ℕ
row m i = map (m.words i) (range_with_len 0 m.places)

-- there is such a node, and it has so many places
abbrev pub sized : Model → ℕ → ℕ → Bool
sized m i n = node_within m i && n == m.places

-- the rack after a node was filled from a list
abbrev pub after_fill : Model → ℕ → List ℕ → Model
after_fill m i ws = cond (sized m i (length ws)) (filled m i (listed ws)) m

-- what a call that draws a node's words answers: first whether all fits, then whether the node stands
abbrev pub drawn : Bool → Bool → Result (Unit {0}) Refusal
drawn fits stands = cond fits (cond stands (Ok tt) (Err NodeOut)) (Err NoSuchPlace)

-- the rack and the list after a node was copied to a list
abbrev pub after_copy : Model → ℕ → List ℕ → Model
after_copy m i out = cond (sized m i (length out) && m.flags i) (with_draws m i m.places) m

abbrev pub copied : Model → ℕ → List ℕ → List ℕ
copied m i out = cond (sized m i (length out) && m.flags i) (row m i) out

-- both nodes are there and have equally many places
abbrev pub movable : Model → ℕ → Model → ℕ → Bool
movable a i b j = (node_within a i && node_within b j) && a.places == b.places

-- the two racks after a node was moved: the words stand in the second, and the node of the first is out
abbrev pub moved_from : Model → ℕ → Model
moved_from a i = with_flag (with_draws a i a.places) i false

abbrev pub after_move_from : Model → ℕ → Model → ℕ → Model
after_move_from a i b j = cond (movable a i b j && a.flags i) (moved_from a i) a

abbrev pub after_move_to : Model → ℕ → Model → ℕ → Model
after_move_to a i b j = cond (movable a i b j && a.flags i) (filled b j (a.words i)) b
