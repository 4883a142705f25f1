-- What is proved of the code, over any field. A code has q rows, t columns, q × t ≤ 16 nodes and q ^ t planes. Assumes nothing.
use Rattle.std.specs.Prelude.{◌≡◌, ℕ, ◌*◌, ◌^◌, ◌<◌, ◌≤◌, Bool, false, ◌≢◌}
use Rattle.field.specs.Field.{Arith}
use Rattle.shape.specs.Layout.{digit, row, column}
use Rattle.shape.specs.Outages.{count}
use Rattle.code.specs.Code.{moment, check, Checks}

-- the points below n are pairwise different
abbrev pub Apart : {E : Type 0} → (point : ℕ → E) (n : ℕ) → Type 0
Apart point n = (i j : ℕ) → i < n → j < n → i ≢ j → point i ≢ point j

-- a plane helps a node if its digit in the node's column is the node's row
abbrev pub Helps : (q lost p : ℕ) → Type 0
Helps q lost p = digit q p (column q lost) ≡ row q lost

module _ {E : Type 0} (f : Arith E) where
  -- x has the moments s, up to the n-th
  abbrev pub Solves : (point x s : ℕ → E) (n : ℕ) → Type 0
  Solves point x s n = (e : ℕ) → e < n → moment f point x n e ≡ s e

  -- with n points that differ, n moments have exactly one solution
  unfoldable pub VandermondeSome : Type 0
  VandermondeSome = (n : ℕ) (point s : ℕ → E) → Apart point n → (x : ℕ → E) × Solves point x s n

  unfoldable pub VandermondeOne : Type 0
  VandermondeOne = (n : ℕ) (point s x y : ℕ → E) → Apart point n → Solves point x s n → Solves point y s n → (i : ℕ) → i < n → x i ≡ y i

  -- two arrays agree at the nodes that are not erased
  abbrev pub Agree : (q t : ℕ) (erased : ℕ → Bool) (A A' : ℕ → ℕ → E) → Type 0
  Agree q t erased A A' = (i p : ℕ) → i < q * t → p < q ^ t → erased i ≡ false → A i p ≡ A' i p

  -- m checks a plane settle up to m erased nodes
  unfoldable pub OnlyOne : Type 0
  OnlyOne =
      (q t m : ℕ) (erased : ℕ → Bool) (A A' : ℕ → ℕ → E) → 0 < q → q * t ≤ 16 → count erased (q * t) ≤ m
      → Checks f q t m A → Checks f q t m A' → Agree q t erased A A' → (i p : ℕ) → i < q * t → p < q ^ t → A i p ≡ A' i p

  -- and at least m erased nodes can be filled so that m checks a plane hold
  unfoldable pub SomeOne : Type 0
  SomeOne =
      (q t m : ℕ) (erased : ℕ → Bool) (A : ℕ → ℕ → E) → 0 < q → q * t ≤ 16 → m ≤ count erased (q * t)
      → (A' : ℕ → ℕ → E) × Agree q t erased A' A × Checks f q t m A'

  -- the checks of the planes that help
  abbrev pub HelpChecks : (q t lost : ℕ) (A : ℕ → ℕ → E) → Type 0
  HelpChecks q t lost A = (p e : ℕ) → p < q ^ t → e < q → Helps q lost p → check f q t A p e ≡ f.zero

  -- two arrays agree at the other nodes, in the planes that help
  abbrev pub AgreeHelp : (q t lost : ℕ) (A A' : ℕ → ℕ → E) → Type 0
  AgreeHelp q t lost A A' = (i p : ℕ) → i < q * t → p < q ^ t → Helps q lost p → i ≢ lost → A i p ≡ A' i p

  -- the planes that help settle every symbol of the lost node
  unfoldable pub RepairOne : Type 0
  RepairOne =
      (q t lost : ℕ) (A A' : ℕ → ℕ → E) → 0 < q → q * t ≤ 16 → lost < q * t
      → HelpChecks q t lost A → HelpChecks q t lost A' → AgreeHelp q t lost A A' → (p : ℕ) → p < q ^ t → A lost p ≡ A' lost p

  -- and whatever the other nodes hold, it can be filled so that their checks hold
  unfoldable pub RepairSome : Type 0
  RepairSome =
      (q t lost : ℕ) (A : ℕ → ℕ → E) → 0 < q → q * t ≤ 16 → lost < q * t
      → (A' : ℕ → ℕ → E) × ((i p : ℕ) → i ≢ lost → A' i p ≡ A i p) × HelpChecks q t lost A'
