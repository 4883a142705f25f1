-- The steps of a solution in place. Assumes nothing.
use Rattle.std.proofs.Common.{◌≡◌, ℕ, zero, suc, ◌+◌, ◌-◌, ◌++◌, ◌<◌, ◌≤◌, true, ◌≢◌, List, length, get_or, set, take, drop, sym, refl, ap, ◌∙◌, subst, ap₂, ⊎_elim, add-one, arith}
use Rattle.std.proofs.lemmas.List.{get_or-set_same, get_or-set_other, get_or-take, get_or-drop, get_or_append_left, get_or-append_right, length-take-le}
use Rattle.std.proofs.lemmas.Bool.{cases_lt, cases_order}
use Rattle.field.specs.Field.{Arith, Laws}
use Rattle.shape.specs.Outages.{rising}
use Rattle.shape.proofs.Rising.{rising_below, rising_order}
use Rattle.code.specs.Code.{minus, total}
use Rattle.code.specs.Reading.{read}
use Rattle.code.specs.Solving.{KeptFrom, reads, points, Codes, Reduced, Divided}
use Rattle.code.specs.Theorems.{Apart, Solves}
use Rattle.code.proofs.Ring.{minus_back, minus_apart, inverse_back}
use Rattle.code.proofs.Sums.{total_same, moment_same, moment_first}
use Rattle.code.proofs.Main.{each}
use Rattle.code.proofs.Vandermonde.{next, last_or}
use Rattle.code.proofs.Words.{read_written}

module _ {E : Type 0} (f : Arith E) (laws : Laws f) (pt s y x : ℕ → E) (n : ℕ) (apart : Apart pt (suc n))
    (below : Solves f pt y (λ e. minus f (s (suc e)) (f.product (pt n) (s e))) n)
    (others : (i : ℕ) → i < n → x i ≡ f.product (f.inverse (minus f (pt i) (pt n))) (y i))
    (last : x n ≡ minus f (s 0) (total f x n)) where
  multiplied : (i : ℕ) → i < n → f.product (minus f (pt i) (pt n)) (x i) ≡ y i
  multiplied i l =
      ap (λ w. f.product (minus f (pt i) (pt n)) w) (others i l)
      ∙ inverse_back f laws (minus f (pt i) (pt n)) (y i) (minus_apart f laws (pt i) (pt n) (apart i n (omega arith) (omega arith) (omega arith)))

  -- the solution of one point more
  solves_more : Solves f pt x s (suc n)
  unfolding total
  solves_more zero l =
      moment_first f laws pt x (suc n) ∙ ap (f.sum (total f x n)) last
      ∙ laws.sum_comm (total f x n) (minus f (s 0) (total f x n)) ∙ minus_back f laws (s 0) (total f x n)
  solves_more (suc e) l =
      sym (next f laws pt each x n e)
      ∙ ap₂ (λ v w. f.sum v (f.product (pt n) w))
      (moment_same f laws pt (λ i. f.product (minus f (pt i) (pt n)) (x i)) y n e multiplied ∙ below e (omega arith))
      (solves_more e (omega arith))
      ∙ minus_back f laws (s (suc e)) (f.product (pt n) (s e))

-- the words below k, and the one at k
pub kept_more : (before now : List ℕ) (k v : ℕ) → KeptFrom before now k → KeptFrom before (set now k v) (k + 1)
kept_more before now k v kept j l = get_or-set_other now k j v 0 (omega arith) ∙ kept j (omega arith)

pub below_next : (P : ℕ → Type 0) (n : ℕ) → ((i : ℕ) → i < n → P i) → P n → (i : ℕ) → i < n + 1 → P i
below_next P n below here i l = last_or P n here below i (omega arith)

module _ {E : Type 0} (f : Arith E) (laws : Laws f) where
  -- what a write gives
  pub written : (ws : List ℕ) (k : ℕ) (a : E) → k < length ws → reads f (set ws k (f.code a)) k ≡ a
  written ws k a l = ap (read f) (get_or-set_same ws k (f.code a) 0 l) ∙ read_written f laws a

  pub unwritten : (ws : List ℕ) (k j v : ℕ) → j ≢ k → reads f (set ws k v) j ≡ reads f ws j
  unwritten ws k j v ne = ap (read f) (get_or-set_other ws k j v 0 ne)

  -- a code more
  pub codes_more : (ws : List ℕ) (k v : ℕ) {a : E} → k < length ws → Codes f ws k → v ≡ f.code a → Codes f (set ws k v) (k + 1)
  codes_more ws k v {a} room codes is =
      below_next (λ j. get_or (set ws k v) j 0 < f.size) k (λ j l. rw (get_or-set_other ws k j v 0 (omega arith)) (codes j l))
      (let e = get_or-set_same ws k v 0 room in let b = laws.code_below a in omega arith)

  -- the points of a rising list of few nodes
  pub listed_apart : (n : ℕ) (nodes : List ℕ) → n ≤ 16 → rising n nodes ≡ true → Apart (points f nodes) (length nodes)
  listed_apart n nodes few e i j li lj ne same =
      let a = rising_below n nodes e i li in
      let b = rising_below n nodes e j lj in
      let k = laws.points_differ (get_or nodes i 0) (get_or nodes j 0) (omega arith) (omega arith) same in
      ⊎_elim ne (λ o. ⊎_elim (λ h. let r = rising_order n nodes e i j h lj in omega arith) (λ h. let r = rising_order n nodes e j i h li in omega arith) o) (cases_order i j)

  -- one right side more is reduced
  pub reduced_more : (a : E) (before now : List ℕ) (e v : ℕ) → e < length now → Reduced f a before now e × KeptFrom before now e
      → v ≡ f.code (minus f (reads f now (e + 1)) (f.product a (reads f now e)))
      → Reduced f a before (set now e v) (e + 1) × KeptFrom before (set now e v) (e + 1)
  reduced_more a before now e v room inv is = (
    below_next (λ j. reads f (set now e v) j ≡ minus f (reads f before (suc j)) (f.product a (reads f before j))) e
        (λ j l. unwritten now e j v (omega arith) ∙ inv.0 j l)
        (ap (λ w. reads f (set now e w) e) is ∙ written now e _ room
        ∙ ap₂ (λ v w. minus f v (f.product a w)) (ap (read f) (inv.1 (e + 1) (omega arith)) ∙ ap (reads f before) (add-one e)) (ap (read f) (inv.1 e (omega arith)))),
    kept_more before now e v inv.1,
  )

  -- one unknown more is divided
  pub divided_more : (a : E) (nodes before now : List ℕ) (k v : ℕ) → k < length now → Divided f a nodes before now k × Codes f now k × KeptFrom before now k
      → v ≡ f.code (f.product (f.inverse (minus f (points f nodes k) a)) (reads f now k))
      → Divided f a nodes before (set now k v) (k + 1) × Codes f (set now k v) (k + 1) × KeptFrom before (set now k v) (k + 1)
  divided_more a nodes before now k v room inv is = (
    below_next (λ j. reads f (set now k v) j ≡ f.product (f.inverse (minus f (points f nodes j) a)) (reads f before j)) k
        (λ j l. unwritten now k j v (omega arith) ∙ inv.0 j l)
        (ap (λ w. reads f (set now k w) k) is ∙ written now k _ room
        ∙ ap (f.product (f.inverse (minus f (points f nodes k) a))) (ap (read f) (inv.2 k (omega arith)))),
    codes_more now k v room inv.1 (is ∙ refl),
    kept_more before now k v inv.2,
  )

  -- what is said of the front of the words, whose rest stays
  pub reduced_front : (a : E) (before x : List ℕ) (n k : ℕ) → n ≤ length before → length x ≡ n → suc k ≡ n
      → Reduced f a (take n before) x (length (take n before) - 1) × KeptFrom (take n before) x (length (take n before) - 1)
      → Reduced f a before (x ++ drop n before) k × KeptFrom before (x ++ drop n before) k
  reduced_front a before x n k room long is h =
      let e : length (take n before) ≡ n = length-take-le n before room in
      let front : (i : ℕ) → i < n → get_or (take n before) i 0 ≡ get_or before i 0 = λ i l. get_or-take n before i 0 l in
      let left : (i : ℕ) → i < n → get_or (x ++ drop n before) i 0 ≡ get_or x i 0 = λ i l. get_or_append_left x (drop n before) 0 i (omega arith) in (
        λ i l. ap (read f) (left i (omega arith)) ∙ h.0 i (omega arith) ∙ ap₂ (λ v w. minus f (read f v) (f.product a (read f w))) (front (suc i) (omega arith)) (front i (omega arith)),
        λ i l. ⊎_elim
            (λ b. left i b ∙ h.1 i (omega arith) ∙ front i b)
            (λ b. get_or-append_right x (drop n before) n i 0 long b ∙ get_or-drop n before (i - n) 0 ∙ ap (λ j. get_or before j 0) (let m : n + (i - n) ≡ i = omega arith in m))
            (cases_lt i n),
      )

  -- what is said of the first nodes of a list
  pub divided_front : (a : E) (nodes before after : List ℕ) (k j : ℕ) → k ≤ length nodes → j ≡ k
      → Divided f a (take j nodes) before after (length (take j nodes)) × Codes f after (length (take j nodes)) × KeptFrom before after (length (take j nodes))
      → Divided f a nodes before after k × Codes f after k × KeptFrom before after k
  divided_front a nodes before after k j room is h =
      let e : length (take j nodes) ≡ k = length-take-le j nodes (omega arith) ∙ is in (
        λ i l. h.0 i (omega arith) ∙ ap (λ n. f.product (f.inverse (minus f (f.point n) a)) (reads f before i)) (get_or-take j nodes i 0 (omega arith)),
        λ i l. h.1 i (omega arith),
        λ i l. h.2 i (omega arith),
      )

  pub total_front : (ws : List ℕ) (k j : ℕ) → k ≤ length ws → j ≡ k → total f (reads f (take j ws)) (length (take j ws)) ≡ total f (reads f ws) k
  total_front ws k j room is =
      let e : length (take j ws) ≡ k = length-take-le j ws (omega arith) ∙ is in
      ap (total f (reads f (take j ws))) e ∙ total_same f laws (reads f (take j ws)) (reads f ws) k (λ i l. ap (read f) (get_or-take j ws i 0 (omega arith)))

  -- one call, with the last point a: the right sides v₀ are reduced to v₁, solved to v₂, divided to v₃, and the last unknown is written
  module _ (nodes v₀ v₁ v₂ v₃ : List ℕ) (k : ℕ) (a d : E) (a_is : a ≡ points f nodes k) (apart : Apart (points f nodes) (suc k)) (room : k < length v₃)
      (reduced : Reduced f a v₀ v₁ k) (solved : Solves f (points f nodes) (reads f v₂) (reads f v₁) k) (divided : Divided f a nodes v₂ v₃ k)
      (d_is : d ≡ minus f (reads f v₀ 0) (total f (reads f v₃) k)) where
    v₄ : List ℕ
    v₄ = set v₃ k (f.code d)

    other : (i : ℕ) → i < k → reads f v₄ i ≡ reads f v₃ i
    unfolding v₄
    other i l = unwritten v₃ k i (f.code d) (omega arith)

    pub solved_more : Solves f (points f nodes) (reads f (set v₃ k (f.code d))) (reads f v₀) (suc k)
    unfolding v₄
    solved_more =
        solves_more f laws (points f nodes) (reads f v₀) (reads f v₂) (reads f v₄) k apart
        (λ e l. solved e l ∙ reduced e l ∙ ap (λ w. minus f (reads f v₀ (suc e)) (f.product w (reads f v₀ e))) a_is)
        (λ i l. other i l ∙ divided i l ∙ ap (λ w. f.product (f.inverse (minus f (points f nodes i) w)) (reads f v₂ i)) a_is)
        (written v₃ k d room ∙ d_is ∙ ap (minus f (reads f v₀ 0)) (total_same f laws (reads f v₃) (reads f v₄) k (λ i l. sym (other i l))))

  -- the same, as the call has it: of n unknowns k are before the last
  pub solved_call : (nodes v₀ v₁ v₂ v₃ : List ℕ) (k n w : ℕ) (a first rest d : E) → suc k ≡ n → n ≤ length v₀ → length v₃ ≡ length v₀
      → a ≡ points f nodes k → Apart (points f nodes) n
      → Reduced f a v₀ v₁ k × KeptFrom v₀ v₁ k
      → Solves f (points f nodes) (reads f v₂) (reads f v₁) k × KeptFrom v₁ v₂ k
      → Divided f a nodes v₂ v₃ k × Codes f v₃ k × KeptFrom v₂ v₃ k
      → first ≡ reads f v₀ 0 → rest ≡ total f (reads f v₃) k → d ≡ minus f first rest → w ≡ f.code d
      → Solves f (points f nodes) (reads f (set v₃ k w)) (reads f v₀) n × Codes f (set v₃ k w) n × KeptFrom v₀ (set v₃ k w) n
  solved_call nodes v₀ v₁ v₂ v₃ k n w a first rest d is room same a_is apart reduced solved divided first_is rest_is d_is w_is =
      let r : k < length v₃ = omega arith in
      let e : k + 1 ≡ n = omega arith in (
        subst (λ m. Solves f (points f nodes) (reads f (set v₃ k w)) (reads f v₀) m) is
            (subst (λ v. Solves f (points f nodes) (reads f (set v₃ k v)) (reads f v₀) (suc k)) (sym w_is)
            (solved_more nodes v₀ v₁ v₂ v₃ k a d a_is (λ i j li lj. apart i j (omega arith) (omega arith)) r reduced.0 solved.0 divided.0 (d_is ∙ ap₂ (minus f) first_is rest_is))),
        subst (λ m. Codes f (set v₃ k w) m) e (codes_more v₃ k w r divided.1 w_is),
        λ j l. get_or-set_other v₃ k j w 0 (omega arith) ∙ divided.2 j (omega arith) ∙ solved.1 j (omega arith) ∙ reduced.1 j (omega arith),
      )
