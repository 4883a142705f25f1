-- What the public functions refuse, and what they leave. Assumes nothing.
use Rattle.std.specs.Prelude.{◌≡◌, ℕ, ◌+◌, ◌-◌, ◌*◌, ◌^◌, ◌<◌, ◌≤◌, Bool, true, false, cond, not, ◌⊎◌, List, length, drop, Some, None, Ok, Err, Option, Result, ◌==◌, nat_lt, slice_index}
use Rattle.field.specs.Field.{Arith}
use Rattle.refusal.specs.First.{first}
use Rattle.refusal.specs.declared.reason.Refusal.{Refusal}
use Rattle.refusal.specs.declared.reason.Refusal.TheVariants.{MessageLength, WorkSpace, NoCode, NoSuchPlace, TooManyOut, BadWord, NoCodeword}
use Rattle.shape.specs.Outages.{every, among}
use Rattle.code.specs.Code.{Words, laid, helps, Codeword, Agrees, OnlyAgrees, Encodes, SameHelp, OnlyRefill}
use Rattle.code.specs.Solving.{points, Codes}
use Rattle.code.specs.Theorems.{Solves}

-- the words from the n-th on are as they were
abbrev pub Rest : (n : ℕ) (before after : List ℕ) → Type 0
Rest n before after = drop n after ≡ drop n before

-- a test tells whether P holds
abbrev pub Tells : Bool → Type 0 → Type 0
Tells true P = P
Tells false P = P → ⊥

-- the nodes that are not listed stand
abbrev pub standing : (nodes : List ℕ) → ℕ → Bool
standing nodes i = not (among nodes i)

module _ (q t : ℕ) where
  -- whether there are too few words for all nodes
  abbrev pub short : List ℕ → Bool
  short ws = nat_lt (length ws) (q * t * q ^ t)

  -- why restore refuses at first: a list of `count` nodes is unfit, or has too many
  abbrev pub restore_refusal : (count : ℕ) (nodes ws : List ℕ) → Option Refusal
  restore_refusal count nodes ws = first (short ws) WorkSpace (first (not (count == q * t)) NoSuchPlace (first (nat_lt q (length nodes)) TooManyOut None))

  -- the words before those of node i, and those after them, are as they were
  abbrev pub Others : (i : ℕ) (before after : List ℕ) → Type 0
  Others i before after = (k : ℕ) → (k < i * q ^ t) ⊎ (i * q ^ t + q ^ t ≤ k) → slice_index after k ≡ slice_index before k

module _ {E : Type 0} (f : Arith E) where
  -- whether the first n words are codes
  abbrev pub first_codes : List ℕ → ℕ → Bool
  first_codes ws n = every (λ j. nat_lt (slice_index ws j) f.size) n

  -- whether every word is a code
  abbrev pub all_codes : List ℕ → Bool
  all_codes ws = first_codes ws (length ws)

  -- ---- solve: the nodes of a list, and right sides
  abbrev pub solve_refusal : (nodes sides : List ℕ) → Option Refusal
  solve_refusal nodes sides = first (nat_lt (length sides) (length nodes)) WorkSpace (first (not (first_codes sides (length nodes))) NoCode None)

  -- the first words became the only codes whose moments they were
  pub record Solution (nodes before after : List ℕ) : Type 0 where
    pub codes : Codes f after (length nodes)
    pub solves : Solves f (points f nodes) (λ k. f.of (slice_index after k)) (λ e. f.of (slice_index before e)) (length nodes)
    pub only : (x : List ℕ) → Codes f x (length nodes) → Solves f (points f nodes) (λ k. f.of (slice_index x k)) (λ e. f.of (slice_index before e)) (length nodes)
        → (k : ℕ) → k < length nodes → slice_index x k ≡ slice_index after k
    pub rest : Rest (length nodes) before after

  abbrev pub Solved : {X : Type 0} → (nodes before : List ℕ) → Result X Refusal → List ℕ → Type 0
  Solved nodes before (Ok x) after = (solve_refusal nodes before ≡ None) × Solution nodes before after
  Solved nodes before (Err e) after = (solve_refusal nodes before ≡ Some e) × (after ≡ before)

module _ {E : Type 0} (f : Arith E) (q t : ℕ) where
  -- ---- checks_hold
  abbrev pub Checked : List ℕ → Result Bool Refusal → Type 0
  Checked ws (Ok b) = (short q t ws ≡ false) × Tells b (Codeword f q t (laid (q ^ t) ws))
  Checked ws (Err e) = (short q t ws ≡ true) × (e ≡ WorkSpace)

  -- ---- restore
  -- every word of every standing node is a code
  abbrev pub good_standing : (stands : ℕ → Bool) → Words → Bool
  good_standing stands w = every (λ i. cond (stands i) (every (λ p. nat_lt (w i p) f.size) (q ^ t)) true) (q * t)

  -- past the first refusals: a word is no code, or no codeword agrees
  abbrev pub NoneAgrees : (stands : ℕ → Bool) → Words → Refusal → Type 0
  NoneAgrees stands words e =
      elim (good_standing stands words) [ true ↦ (e ≡ NoCodeword) × ((w : Words) → Agrees f q t stands words w → ⊥) | false ↦ e ≡ BadWord ]

  abbrev pub Restored : {X : Type 0} → (count : ℕ) (nodes before : List ℕ) → Result X Refusal → List ℕ → Type 0
  Restored count nodes before (Ok x) after =
      (restore_refusal q t count nodes before ≡ None) × OnlyAgrees f q t (standing nodes) (laid (q ^ t) before) (laid (q ^ t) after) × Rest (q * t * q ^ t) before after
  Restored count nodes before (Err e) after =
      elim (restore_refusal q t count nodes before) [ Some r ↦ (e ≡ r) × (after ≡ before) | None ↦ NoneAgrees (standing nodes) (laid (q ^ t) before) e × Rest (q * t * q ^ t) before after ]

  -- ---- encode
  abbrev pub encode_refusal : (message ws : List ℕ) → Option Refusal
  encode_refusal message ws =
      first (not (length message == q * (t - 1) * q ^ t)) MessageLength (first (short q t ws) WorkSpace (first (not (all_codes f message)) NoCode None))

  abbrev pub Encoded : {X : Type 0} → (message before : List ℕ) → Result X Refusal → List ℕ → Type 0
  Encoded message before (Ok x) after = (encode_refusal message before ≡ None) × Encodes f q t message (laid (q ^ t) after) × Rest (q * t * q ^ t) before after
  Encoded message before (Err e) after = (encode_refusal message before ≡ Some e) × (after ≡ before)

  -- ---- rebuild
  -- every word of node j at a place that helps is a code
  abbrev pub helper_codes : Words → (i j : ℕ) → Bool
  helper_codes w i j = every (λ p. cond (helps q i p) (nat_lt (w j p) f.size) true) (q ^ t)

  -- so it is of every other node
  abbrev pub good_help : Words → ℕ → Bool
  good_help w i = every (λ j. cond (j == i) true (helper_codes w i j)) (q * t)

  abbrev pub rebuild_refusal : (i : ℕ) (ws : List ℕ) → Option Refusal
  rebuild_refusal i ws = first (short q t ws) WorkSpace (first (not (nat_lt i (q * t))) NoSuchPlace (first (not (good_help (laid (q ^ t) ws) i)) BadWord None))

  -- the refill of node i, whatever the array holds but for the words that help
  abbrev pub HelpRefill : Words → ℕ → (ℕ → ℕ) → Type 0
  HelpRefill w i c = (v : Words) → SameHelp f q t i v w → OnlyRefill f q t v i c

  abbrev pub Rebuilt : {X : Type 0} → (i : ℕ) (before : List ℕ) → Result X Refusal → List ℕ → Type 0
  Rebuilt i before (Ok x) after =
      (rebuild_refusal i before ≡ None) × HelpRefill (laid (q ^ t) before) i (laid (q ^ t) after i) × Others q t i before after
  Rebuilt i before (Err e) after = (rebuild_refusal i before ≡ Some e) × (after ≡ before)
