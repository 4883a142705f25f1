-- The rack that a table of node records and a flat list of words stand for. Assumes nothing.
use Rattle.std.specs.Prelude.{ℕ, ◌+◌, ◌*◌, false, cond, ◌&&◌, List, vec_items, vec_len, nat_lt, slice_index, slice_index_or}
use Rattle.refusal.specs.declared.reason.Refusal.TheVariants.{Size}
use Rattle.rack.specs.Model.{Model, fitting}
use Rattle.rack.specs.declared.node.Node.{Node}
use Rattle.rack.specs.declared.table.TableRack.{TableRack}
use Rattle.rack.specs.declared.table_error.TableError.{TableError}
use Rattle.rack.specs.declared.table_error.TableError.TheVariants.{Refused, NoMemory}

-- a node that is out and was never read
abbrev pub blank : Node
blank = record { standing = false; meter = 0 }

-- node i has its words at i * places and on
abbrev pub table : ℕ → ℕ → List Node → List ℕ → Model
table n places ns ws = record {
  nodes = n;
  places = places;
  flags = λ i. (slice_index_or ns i blank).standing;
  words = λ i p. cond (nat_lt i n && nat_lt p places) (slice_index ws (i * places + p)) 0;
  meters = λ i. (slice_index_or ns i blank).meter;
}

-- the rack that a `TableRack` is
abbrev pub table_model : TableRack → Model
table_model s = table (vec_len s.nodes) s.places (vec_items s.nodes) (vec_items s.words)

-- why no table was made
abbrev pub not_made : ℕ → ℕ → TableError
not_made n places = cond (fitting n places) NoMemory (Refused Size)
