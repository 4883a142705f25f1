-- The steps by which the symbols of erased nodes are filled in place. An array A becomes A'. Assumes nothing.
use Rattle.std.specs.Prelude.{◌≡◌, ℕ, ◌+◌, ◌*◌, ◌^◌, ◌<◌, ◌≤◌, Bool, true, false, cond, ◌≢◌, ◌⊎◌, List, length, ◌==◌, nat_lt, slice_index}
use Rattle.field.specs.Field.{Arith}
use Rattle.shape.specs.Layout.{row, column, digit, companion_node, companion_place}
use Rattle.shape.specs.Outages.{among, rising}
use Rattle.code.specs.Calls.{Rest, Others}
use Rattle.code.specs.Code.{Words, laid, minus, moment}
use Rattle.code.specs.Filling.{score, known, solution, of_pair, turn, refill}
use Rattle.code.specs.Reading.{symbols}
use Rattle.code.specs.Solving.{Codes, reads}

-- a list of n numbers that follow each other
abbrev pub Run : (first : ℕ) (nodes : List ℕ) (n : ℕ) → Type 0
Run first nodes n = (length nodes ≡ n) × ((k : ℕ) → k < n → slice_index nodes k ≡ first + k)

-- the words of one node are 0, up to a place
pub record NodeCleared (places node below : ℕ) (w w' : Words) : Type 0 where
  pub none : (p : ℕ) → p < places → p < below → w' node p ≡ 0
  pub kept : (i p : ℕ) → p < places → (i ≢ node) ⊎ (below ≤ p) → w' i p ≡ w i p

-- so are those of the erased nodes, up to a node
pub record Cleared (places : ℕ) (erased : ℕ → Bool) (below : ℕ) (w w' : Words) : Type 0 where
  pub none : (i p : ℕ) → p < places → erased i ≡ true → i < below → w' i p ≡ 0
  pub kept : (i p : ℕ) → p < places → (erased i ≡ false) ⊎ (below ≤ i) → w' i p ≡ w i p

-- one symbol is written
pub record Wrote {E : Type 0} (places node place : ℕ) (a : E) (A A' : ℕ → ℕ → E) : Type 0 where
  pub here : A' node place ≡ a
  pub other : (i p : ℕ) → p < places → (i ≢ node) ⊎ (p ≢ place) → A' i p ≡ A i p

module _ {E : Type 0} (f : Arith E) where
  -- the words past the used ones are as they were, and codes stay codes
  abbrev pub Sound : (used : ℕ) (before after : List ℕ) → Type 0
  Sound used before after = Rest used before after × (Codes f before used → Codes f after used)

  -- the right sides of plane p: what its checks lack
  abbrev pub lacks : (q t : ℕ) (erased : ℕ → Bool) (A : ℕ → ℕ → E) (p e : ℕ) → E
  lacks q t erased A p e = f.negative (moment f f.point (known f q erased A p) (q * t) e)

  -- word k of a list is the uncoupled symbol of the k-th of the nodes in plane p
  abbrev pub HoldsSolution : (q t : ℕ) (erased : ℕ → Bool) (A : ℕ → ℕ → E) (p : ℕ) (nodes ws : List ℕ) (n : ℕ) → Type 0
  HoldsSolution q t erased A p nodes ws n = (k : ℕ) → k < n → reads f ws k ≡ solution f q t erased A (slice_index nodes k) p

  module _ (q t : ℕ) (erased : ℕ → Bool) where
    -- in one plane the erased nodes have their uncoupled symbols
    pub record PlaneSolved (place : ℕ) (A A' : ℕ → ℕ → E) : Type 0 where
      pub made : (i : ℕ) → i < q * t → erased i ≡ true → A' i place ≡ solution f q t erased A i place
      pub kept : (i p : ℕ) → i < q * t → p < q ^ t → (erased i ≡ false) ⊎ (p ≢ place) → A' i p ≡ A i p

    -- so they have in the planes of a score, up to a place
    pub record ScoreSolved (level below : ℕ) (A A' : ℕ → ℕ → E) : Type 0 where
      pub made : (i p : ℕ) → i < q * t → p < q ^ t → erased i ≡ true → score q t erased p ≡ level → p < below → A' i p ≡ solution f q t erased A i p
      pub kept : (i p : ℕ) → i < q * t → p < q ^ t → (erased i ≡ false) ⊎ ((score q t erased p ≢ level) ⊎ (below ≤ p)) → A' i p ≡ A i p

    -- the symbol of an erased node, where those of the erased nodes before it are coupled already
    unfoldable pub turn_now : (A : ℕ → ℕ → E) (i p : ℕ) → E
    turn_now A i p =
        let other : E = A (companion_node q i p) (companion_place q i p) in
        cond (row q i == digit q p (column q i)) (A i p)
        (cond (nat_lt i (companion_node q i p)) (cond (erased (companion_node q i p)) (of_pair f (A i p) other) (minus f (A i p) (f.product f.coupling other)))
        (minus f (A i p) (f.product f.coupling other)))

    -- one node is coupled in the planes of a score, up to a place
    pub record NodeTurned (level node below : ℕ) (A A' : ℕ → ℕ → E) : Type 0 where
      pub made : (p : ℕ) → p < q ^ t → score q t erased p ≡ level → p < below → A' node p ≡ turn_now A node p
      pub kept : (i p : ℕ) → i < q * t → p < q ^ t → (i ≢ node) ⊎ ((score q t erased p ≢ level) ⊎ (below ≤ p)) → A' i p ≡ A i p

    -- so are the erased nodes, up to a node
    pub record ScoreTurned (level below : ℕ) (A A' : ℕ → ℕ → E) : Type 0 where
      pub made : (i p : ℕ) → i < q * t → p < q ^ t → erased i ≡ true → score q t erased p ≡ level → i < below → A' i p ≡ turn f q erased A A i p
      pub kept : (i p : ℕ) → i < q * t → p < q ^ t → (erased i ≡ false) ⊎ ((score q t erased p ≢ level) ⊎ (below ≤ i)) → A' i p ≡ A i p

  -- some words of one node are codes of what the planes that help it give, and the words of the other nodes are as they were
  pub record RefilledWhere (q t : ℕ) (erased : ℕ → Bool) (node : ℕ) (done : ℕ → Type 0) (before after : List ℕ) : Type 0 where
    pub made : (p : ℕ) → p < q ^ t → done p → symbols f (q ^ t) after node p ≡ refill f q t erased node (symbols f (q ^ t) before) p
    pub codes : (p : ℕ) → p < q ^ t → done p → laid (q ^ t) after node p < f.size
    pub others : Others q t node before after

  -- the symbol that a node of the column gives the lost one, by its own symbol a and its uncoupled symbol b
  unfoldable pub given : (node helper : ℕ) (a b : E) → E
  given node helper a b = cond (helper == node) b (f.product (f.inverse f.coupling) (minus f b a))

  -- one plane gives the words whose companions lie in it, up to a row; the other words are as they were
  pub record PlaneRefilled (q t : ℕ) (erased : ℕ → Bool) (node plane below : ℕ) (before after : List ℕ) : Type 0 where
    pub filled : RefilledWhere q t erased node (λ p. (companion_place q node p ≡ plane) × (digit q p (column q node) < below)) before after
    pub kept : (p : ℕ) → p < q ^ t → companion_place q node p ≢ plane → laid (q ^ t) after node p ≡ laid (q ^ t) before node p

  -- the erased nodes being those of its column
  pub record NodeRefilled (q t node : ℕ) (before after : List ℕ) : Type 0 where
    pub nodes : List ℕ
    pub rises : rising (q * t) nodes ≡ true
    pub run : Run (column q node * q) nodes q
    pub filled : RefilledWhere q t (among nodes) node (λ p. p < q ^ t) before after
