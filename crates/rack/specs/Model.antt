-- What a rack holds, and what its calls answer and leave. Assumes nothing.
use Rattle.std.specs.Prelude.{◌≡◌, ℕ, zero, suc, ◌+◌, ◌%◌, ◌^◌, Bool, false, cond, ◌&&◌, Ok, Err, Result, ◌==◌, nat_le, nat_lt}
use Rattle.refusal.specs.declared.reason.Refusal.{Refusal}
use Rattle.refusal.specs.declared.reason.Refusal.TheVariants.{NoSuchPlace, NodeOut}

-- the two counts, and for each node its flag (true: it stands), its words by place, and its meter
pub record Model : Type 0 where
  pub nodes : ℕ
  pub places : ℕ
  pub flags : ℕ → Bool
  pub words : ℕ → ℕ → ℕ
  pub meters : ℕ → ℕ

-- f with x at i
abbrev pub changed : {X : Type 0} → (ℕ → X) → ℕ → X → ℕ → X
changed f i x k = cond (k == i) x (f k)

-- there is such a node, and such a place in it
abbrev pub node_within : Model → ℕ → Bool
node_within m i = nat_lt i m.nodes

abbrev pub within : Model → ℕ → ℕ → Bool
within m i p = nat_lt i m.nodes && nat_lt p m.places

-- a meter after n rises
abbrev pub risen : ℕ → ℕ → ℕ
risen meter zero = meter
risen meter (suc n) = (risen meter n + 1) % 2 ^ 64

-- one flag set; one word set; one meter raised by one
abbrev pub with_flag : Model → ℕ → Bool → Model
with_flag m i b = record { nodes = m.nodes; places = m.places; flags = changed m.flags i b; words = m.words; meters = m.meters }

abbrev pub with_word : Model → ℕ → ℕ → ℕ → Model
with_word m i p w = record { nodes = m.nodes; places = m.places; flags = m.flags; words = changed m.words i (changed (m.words i) p w); meters = m.meters }

abbrev pub with_draw : Model → ℕ → Model
with_draw m i = record { nodes = m.nodes; places = m.places; flags = m.flags; words = m.words; meters = changed m.meters i (risen (m.meters i) 1) }

-- what stands and meter answer: no, and 0, for a node that does not exist
abbrev pub standing : Model → ℕ → Bool
standing m i = cond (node_within m i) (m.flags i) false

abbrev pub metered : Model → ℕ → ℕ
metered m i = cond (node_within m i) (m.meters i) 0

-- what get answers, and the rack after it
abbrev pub got : Model → ℕ → ℕ → Result ℕ Refusal
got m i p = cond (within m i p) (cond (m.flags i) (Ok (m.words i p)) (Err NodeOut)) (Err NoSuchPlace)

abbrev pub after_get : Model → ℕ → ℕ → Model
after_get m i p = cond (within m i p) (cond (m.flags i) (with_draw m i) m) m

-- what a call that only asks for the node or the place answers
abbrev pub done : Bool → Result (Unit {0}) Refusal
done b = cond b (Ok tt) (Err NoSuchPlace)

-- the rack after put, and after a flag is set
abbrev pub after_put : Model → ℕ → ℕ → ℕ → Model
after_put m i p w = cond (within m i p) (with_word m i p w) m

abbrev pub after_flag : Model → ℕ → Bool → Model
after_flag m i b = cond (node_within m i) (with_flag m i b) m

-- 'the same rack at another time': a relation that is reflexive and transitive, and under which the counts stay
pub record Keeping {S : Type 0} (model : S → Model) (kept : S → S → Type 0) : Type 0 where
  pub same : (x : S) → kept x x
  pub joined : (x y z : S) → kept x y → kept y z → kept x z
  pub same_nodes : (x y : S) → kept x y → (model y).nodes ≡ (model x).nodes
  pub same_places : (x y : S) → kept x y → (model y).places ≡ (model x).places

-- the counts that a table or an image may have
abbrev pub fitting : ℕ → ℕ → Bool
fitting nodes places = (nat_le 1 nodes && nat_le nodes 16) && (nat_le 1 places && nat_le places 256)

-- a new rack: each node is out, each word and each meter is 0
abbrev pub fresh : ℕ → ℕ → Model
fresh nodes places = record { nodes = nodes; places = places; flags = λ i. false; words = λ i p. 0; meters = λ i. 0 }
