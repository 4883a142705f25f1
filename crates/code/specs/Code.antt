-- The coupled-layer code over a field. Assumes nothing.
use Rattle.std.specs.Prelude.{◌≡◌, ℕ, zero, suc, ◌+◌, ◌-◌, ◌*◌, ◌^◌, ◌<◌, Bool, true, cond, ◌≢◌, List, ◌==◌, slice_index}
use Rattle.field.specs.Field.{Arith}
use Rattle.shape.specs.Layout as Layout
use Rattle.shape.specs.Layout.{row, column, digit, companion_node, companion_place}

-- an array of words: node, place
abbrev pub Words : Type 0
Words = ℕ → ℕ → ℕ

-- the words in a list, node by node with places rising
abbrev pub laid : (places : ℕ) → List ℕ → Words
laid places ws i p = slice_index ws (i * places + p)

-- the array with c for the words of node i
abbrev pub with_node : Words → ℕ → (ℕ → ℕ) → Words
with_node w i c j = cond (j == i) c (w j)

-- place p helps node i, as the shape says
abbrev pub helps : (q i p : ℕ) → Bool
helps q i p = Layout.helps q i p

module _ {E : Type 0} (f : Arith E) where
  -- a - b
  abbrev pub minus : E → E → E
  minus a b = f.sum a (f.negative b)

  -- the e-th power; power 0 of any element is one
  unfoldable pub power : E → ℕ → E
  power a zero = f.one
  power a (suc e) = f.product a (power a e)

  -- the sum of g i over the numbers i below n
  unfoldable pub total : (g : ℕ → E) (n : ℕ) → E
  total g zero = f.zero
  total g (suc n) = f.sum (total g n) (g n)

  -- the sum of point i ^ e × x i over the numbers i below n
  unfoldable pub moment : (point x : ℕ → E) (n e : ℕ) → E
  moment point x n e = total (λ i. f.product (power (point i) e) (x i)) n

  -- the uncoupled symbol of node i at place p: a symbol whose row is its plane's digit stands alone, any other goes with its companion
  unfoldable pub uncoupled : (q : ℕ) (A : ℕ → ℕ → E) (i p : ℕ) → E
  uncoupled q A i p =
      cond (row q i == digit q p (column q i)) (A i p)
      (f.sum (A i p) (f.product f.coupling (A (companion_node q i p) (companion_place q i p))))

  -- check e of plane p: the sum of point i ^ e × the uncoupled symbol of node i, over all nodes
  abbrev pub check : (q t : ℕ) (A : ℕ → ℕ → E) (p e : ℕ) → E
  check q t A p e = moment f.point (λ i. uncoupled q A i p) (q * t) e

  -- the first m checks of every plane are zero
  abbrev pub Checks : (q t m : ℕ) (A : ℕ → ℕ → E) → Type 0
  Checks q t m A = (p e : ℕ) → p < q ^ t → e < m → check q t A p e ≡ f.zero

  -- the elements of words
  abbrev pub elements : Words → ℕ → ℕ → E
  elements w i p = f.of (w i p)

module _ {E : Type 0} (f : Arith E) (q t : ℕ) where
  -- all words are codes, and every check of every plane is zero
  pub record Codeword (w : Words) : Type 0 where
    pub codes : (i p : ℕ) → i < q * t → p < q ^ t → w i p < f.size
    pub checks : Checks f q t q (elements f w)

  -- the same words at every place of every node
  abbrev pub Same : Words → Words → Type 0
  Same w v = (i p : ℕ) → i < q * t → p < q ^ t → w i p ≡ v i p

  -- the same words at the nodes that pass the test
  abbrev pub SameAt : (ℕ → Bool) → Words → Words → Type 0
  SameAt test w v = (i p : ℕ) → i < q * t → p < q ^ t → test i ≡ true → w i p ≡ v i p

  -- the message stands in the data nodes, node by node with places rising
  abbrev pub Carries : Words → List ℕ → Type 0
  Carries w message = (i p : ℕ) → i < q * (t - 1) → p < q ^ t → w i p ≡ laid (q ^ t) message i p

  -- a codeword that agrees with every node that passes the test
  pub record Agrees (stands : ℕ → Bool) (words w : Words) : Type 0 where
    pub codeword : Codeword w
    pub same : SameAt stands w words

  -- the only one
  pub record OnlyAgrees (stands : ℕ → Bool) (words w : Words) : Type 0 where
    pub agrees : Agrees stands words w
    pub only : (v : Words) → Agrees stands words v → Same v w

  -- the codeword that carries the message
  pub record Encodes (message : List ℕ) (w : Words) : Type 0 where
    pub codeword : Codeword w
    pub carries : Carries w message
    pub only : (v : Words) → Codeword v → Carries v message → Same v w

  -- the same words in the other nodes, at the places that help node i
  abbrev pub SameHelp : ℕ → Words → Words → Type 0
  SameHelp i w v = (j p : ℕ) → j < q * t → p < q ^ t → helps q i p ≡ true → j ≢ i → w j p ≡ v j p

  -- the words of node i are codes with which the checks of the planes that help it hold
  pub record Refills (w : Words) (i : ℕ) : Type 0 where
    pub codes : (p : ℕ) → p < q ^ t → w i p < f.size
    pub checks : (p e : ℕ) → p < q ^ t → e < q → helps q i p ≡ true → check f q t (elements f w) p e ≡ f.zero

  -- c is the only list of words for node i that does so
  pub record OnlyRefill (w : Words) (i : ℕ) (c : ℕ → ℕ) : Type 0 where
    pub refills : Refills (with_node w i c) i
    pub only : (d : ℕ → ℕ) → Refills (with_node w i d) i → (p : ℕ) → p < q ^ t → d p ≡ c p
