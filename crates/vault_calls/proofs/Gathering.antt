-- Words drawn from the rack into the space. Assumes nothing.
use Rattle.std.proofs.Common.{◌≡◌, ℕ, ◌+◌, ◌*◌, ◌<◌, ◌≤◌, Bool, true, false, cond, ◌&&◌, eqb, ltb, ◌⊎◌, List, length, get_or, set, Err, sym, refl, ap, ◌∙◌, subst, ap₂, inl, inr, arith}
use Rattle.std.proofs.lemmas.List.{get_or-set_same, get_or-set_other}
use Rattle.std.proofs.lemmas.Bool.{cases_eq, cases_Bool, cases_lt, eq-eqb, ne_eqb, lt-ltb, le-ltb, cond-true, cond-false, and_left, and_right}
use Rattle.std.proofs.lemmas.Grind.{common_steps}
use borrow.Rule.Slice.PartMut.{mid_of, put_mid}
use Rattle.code.specs.Code.{Words, laid}
use Rattle.code.proofs.Clearing.{kept_outside}
use Rattle.code.proofs.Places.{node_within}
use Rattle.shape.specs.Outages.{count}
use Rattle.shape.proofs.Counts.{count_more}
use Rattle.rack.specs.Model.{Model, changed, risen, standing, got}
use Rattle.rack.specs.Filled.{with_draws}
use Rattle.rack.proofs.Models.{same_model, changed_same, changed_other, changed_to_same, got_was_err, both}
use Rattle.refusal.specs.declared.reason.Refusal.{Refusal}
use Rattle.vault_calls.proofs.Listing.{standing_flag}
use Rattle.vault_calls.specs.Steps.{drawn_below, Gathered}

-- one number more below a bound
pub ltb_more : (r p : ℕ) → (r ≡ p → ⊥) → ltb r (p + 1) ≡ ltb r p
ltb_more r p ne = go (cases_lt r p)
  where
    go : (r < p) ⊎ (p ≤ r) → ltb r (p + 1) ≡ ltb r p
    go (inl l) = lt-ltb r (p + 1) (omega arith) ∙ sym (lt-ltb r p l)
    go (inr l) = le-ltb r (p + 1) (omega arith) ∙ sym (le-ltb r p l)

pub ltb_last : (p : ℕ) → ltb p (p + 1) ≡ true
ltb_last p = lt-ltb p (p + 1) (omega arith)

pub ltb_none : (r : ℕ) → ltb r 0 ≡ false
ltb_none r = le-ltb r 0 (omega arith)

-- the same space by a test that agrees
pub gathered_same : (P : ℕ) (g h : ℕ → ℕ → Bool) (words : Words) (before ws : List ℕ) → ((j r : ℕ) → r < P → g j r ≡ h j r) → Gathered P g words before ws → Gathered P h words before ws
gathered_same P g h words before ws e gathered j r lr = gathered j r lr ∙ ap (λ b. cond b (words j r) (laid P before j r)) (e j r lr)

-- the words of a node where the places below p that pass the test were drawn
module _ (test : ℕ → Bool) (f : ℕ → ℕ) (before : List ℕ) where
  abbrev pub Taken : ℕ → List ℕ → Type 0
  Taken p ws = (r : ℕ) → get_or ws r 0 ≡ cond (ltb r p && test r) (f r) (get_or before r 0)

  -- no place yet
  pub taken_none : Taken 0 before
  taken_none r = sym (cond-false (ltb r 0 && test r) (f r) (get_or before r 0) (and_left (ltb r 0) (test r) (ltb_none r)))

  module _ (ws : List ℕ) (p : ℕ) (taken : Taken p ws) where
    -- a place that is passed over
    pub taken_skip : test p ≡ false → (ws' : List ℕ) → ws' ≡ ws → Taken (p + 1) ws'
    taken_skip off ws' after r = ap (λ x. get_or x r 0) after ∙ taken r ∙ ap (λ b. cond b (f r) (get_or before r 0)) (go (cases_eq r p))
      where
        go : (r ≡ p) ⊎ (r ≡ p → ⊥) → (ltb r p && test r) ≡ (ltb r (p + 1) && test r)
        go (inl e) = let down : test r ≡ false = ap test e ∙ off in and_right (ltb r p) (test r) down ∙ sym (and_right (ltb r (p + 1)) (test r) down)
        go (inr ne) = ap (λ b. b && test r) (sym (ltb_more r p ne))

    -- a place that is drawn
    pub taken_more : (w : ℕ) → p < length ws → test p ≡ true → w ≡ f p → (ws' : List ℕ) → ws' ≡ set ws p w → Taken (p + 1) ws'
    taken_more w room on is ws' after r = ap (λ x. get_or x r 0) after ∙ go (cases_eq r p)
      where
        go : (r ≡ p) ⊎ (r ≡ p → ⊥) → get_or (set ws p w) r 0 ≡ cond (ltb r (p + 1) && test r) (f r) (get_or before r 0)
        go (inl e) =
            ap (λ k. get_or (set ws p w) k 0) e ∙ get_or-set_same ws p w 0 room ∙ is ∙ ap f (sym e)
            ∙ sym (cond-true (ltb r (p + 1) && test r) (f r) (get_or before r 0) (both (ltb r (p + 1)) (test r) (ap (λ x. ltb x (p + 1)) e ∙ ltb_last p) (ap test e ∙ on)))
        go (inr ne) = get_or-set_other ws p r w 0 ne ∙ taken r ∙ ap (λ b. cond (b && test r) (f r) (get_or before r 0)) (sym (ltb_more r p ne))

  -- all places
  pub taken_all : (ws : List ℕ) (p r : ℕ) → Taken p ws → r < p → get_or ws r 0 ≡ cond (test r) (f r) (get_or before r 0)
  taken_all ws p r taken lr = taken r ∙ ap (λ b. cond (b && test r) (f r) (get_or before r 0)) (lt-ltb r p lr)

-- a part of a list and what is put in its place
pub put_inside : (ws us : List ℕ) (a k p : ℕ) → a + k ≤ length ws → length us ≡ k → p < k → get_or (put_mid a k ws us) (a + p) 0 ≡ get_or us p 0
put_inside ws us a k p room long lp = grind (arith, common_steps)

pub mid_inside : (ws : List ℕ) (a k p : ℕ) → p < k → get_or (mid_of a k ws) p 0 ≡ get_or ws (a + p) 0
mid_inside ws a k p lp = grind (arith, common_steps)

-- the space with the words of a node, k from a on, put back
module _ (P i a k : ℕ) (test : ℕ → Bool) (words : Words) (before us : List ℕ) (at : a ≡ i * P) (wide : k ≡ P) (room : a + k ≤ length before) (long : length us ≡ k) where
  pub gathered_node : ((p : ℕ) → p < P → get_or us p 0 ≡ cond (test p) (words i p) (get_or (mid_of a k before) p 0)) → Gathered P (λ j p. eqb j i && test p) words before (put_mid a k before us)
  gathered_node taken j p lp = go (cases_eq j i)
    where
      go : (j ≡ i) ⊎ (j ≡ i → ⊥) → laid P (put_mid a k before us) j p ≡ cond (eqb j i && test p) (words j p) (laid P before j p)
      go (inl e) =
          let here : j * P + p ≡ a + p = omega (arith, ap (λ x. x * P) e) in
          ap (λ x. get_or (put_mid a k before us) x 0) here ∙ put_inside before us a k p room long (omega arith) ∙ taken p lp
          ∙ ap (λ x. cond (test p) (words i p) x) (mid_inside before a k p (omega arith) ∙ ap (λ x. get_or before x 0) (sym here))
          ∙ ap₂ (λ b x. cond (b && test p) (words x p) (laid P before j p)) (sym (eq-eqb j i e)) (sym e)
      go (inr ne) =
          kept_outside before us a k (j * P + p) room long (apart (cases_lt j i))
          ∙ sym (cond-false (eqb j i && test p) (words j p) (laid P before j p) (and_left (eqb j i) (test p) (ne_eqb j i ne)))
        where
          apart : (j < i) ⊎ (i ≤ j) → (j * P + p < a) ⊎ (a + k ≤ j * P + p)
          apart (inl l) = inl (let w = node_within i P j l in omega arith)
          apart (inr l) = inr (let w = node_within j P i (omega arith) in omega arith)

-- as many draws of a node as places below p pass the test
module _ (m : Model) (i : ℕ) (test : ℕ → Bool) where
  pub drawn_start : m ≡ with_draws m i (count test 0)
  unfolding count
  drawn_start = same_model m (with_draws m i 0) refl refl (λ k. refl) (λ k q. refl) (λ k. sym (changed_to_same m.meters i (m.meters i) refl k))

  pub drawn_skip : (p : ℕ) → test p ≡ false → with_draws m i (count test p) ≡ with_draws m i (count test (p + 1))
  drawn_skip p off = ap (with_draws m i) (sym (count_more test p ∙ let b = cond-false {A = ℕ} (test p) 1 0 off in omega arith))

  pub drawn_step : (p : ℕ) → test p ≡ true → with_draws m i (count test p + 1) ≡ with_draws m i (count test (p + 1))
  drawn_step p on = ap (with_draws m i) (sym (count_more test p ∙ ap (λ b. count test p + cond b 1 0) on))

-- while a standing node is drawn, no place of it is refused
pub draw_not_refused : (m0 m : Model) (i p k : ℕ) (e : Refusal) → m ≡ with_draws m0 i k → i < m0.nodes → p < m0.places → m0.flags i ≡ true → Err e ≡ got m i p → ⊥
draw_not_refused m0 m i p k e so_far li lp up was =
    got_was_err m i p e was (omega (arith, ap (λ x. x.nodes) so_far)) (omega (arith, ap (λ x. x.places) so_far)) (ap (λ x. x.flags i) so_far ∙ up)

module _ (m0 m : Model) (n k : ℕ) (so_far : m ≡ drawn_below m0 n k) where
  -- a node that is out
  pub drawn_below_skip : m0.flags n ≡ false → m ≡ drawn_below m0 (n + 1) k
  drawn_below_skip out =
      so_far ∙ same_model (drawn_below m0 n k) (drawn_below m0 (n + 1) k) refl refl (λ i. refl) (λ i p. refl)
      (λ i. ap (λ b. cond b (risen (m0.meters i) k) (m0.meters i)) (go i (cases_eq i n)))
    where
      go : (i : ℕ) → (i ≡ n) ⊎ (i ≡ n → ⊥) → (ltb i n && m0.flags i) ≡ (ltb i (n + 1) && m0.flags i)
      go i (inl e) = let down : m0.flags i ≡ false = ap m0.flags e ∙ out in and_right (ltb i n) (m0.flags i) down ∙ sym (and_right (ltb i (n + 1)) (m0.flags i) down)
      go i (inr ne) = ap (λ b. b && m0.flags i) (sym (ltb_more i n ne))

  -- a node that stands
  pub drawn_below_more : m0.flags n ≡ true → (m' : Model) → m' ≡ with_draws m n k → m' ≡ drawn_below m0 (n + 1) k
  drawn_below_more up m' after =
      after ∙ ap (λ x. with_draws x n k) so_far
      ∙ same_model (with_draws (drawn_below m0 n k) n k) (drawn_below m0 (n + 1) k) refl refl (λ i. refl) (λ i p. refl) (λ i. go i (cases_eq i n))
    where
      old : ℕ → ℕ
      old i = cond (ltb i n && m0.flags i) (risen (m0.meters i) k) (m0.meters i)

      here : old n ≡ m0.meters n
      here = cond-false (ltb n n && m0.flags n) (risen (m0.meters n) k) (m0.meters n) (and_left (ltb n n) (m0.flags n) (le-ltb n n (omega arith)))

      go : (i : ℕ) → (i ≡ n) ⊎ (i ≡ n → ⊥)
          → changed (λ j. cond (ltb j n && m0.flags j) (risen (m0.meters j) k) (m0.meters j)) n (risen (cond (ltb n n && m0.flags n) (risen (m0.meters n) k) (m0.meters n)) k) i
          ≡ cond (ltb i (n + 1) && m0.flags i) (risen (m0.meters i) k) (m0.meters i)
      go i (inl e) =
          ap (changed (λ j. cond (ltb j n && m0.flags j) (risen (m0.meters j) k) (m0.meters j)) n (risen (cond (ltb n n && m0.flags n) (risen (m0.meters n) k) (m0.meters n)) k)) e
          ∙ changed_same (λ j. cond (ltb j n && m0.flags j) (risen (m0.meters j) k) (m0.meters j)) n (risen (cond (ltb n n && m0.flags n) (risen (m0.meters n) k) (m0.meters n)) k)
          ∙ ap (λ x. risen x k) here ∙ ap (λ j. risen (m0.meters j) k) (sym e)
          ∙ sym (cond-true (ltb i (n + 1) && m0.flags i) (risen (m0.meters i) k) (m0.meters i) (both (ltb i (n + 1)) (m0.flags i) (ap (λ x. ltb x (n + 1)) e ∙ ltb_last n) (ap m0.flags e ∙ up)))
      go i (inr ne) =
          changed_other (λ j. cond (ltb j n && m0.flags j) (risen (m0.meters j) k) (m0.meters j)) n i (risen (cond (ltb n n && m0.flags n) (risen (m0.meters n) k) (m0.meters n)) k) ne
          ∙ ap (λ b. cond (b && m0.flags i) (risen (m0.meters i) k) (m0.meters i)) (sym (ltb_more i n ne))

module _ (P : ℕ) (flags : ℕ → Bool) (test : ℕ → Bool) (words : Words) (before : List ℕ) where
  abbrev Below : ℕ → ℕ → ℕ → Bool
  Below n j p = (ltb j n && flags j) && test p

  module _ (n : ℕ) (ws : List ℕ) (gathered : Gathered P (Below n) words before ws) where
    pub nodes_skip : flags n ≡ false → (ws' : List ℕ) → ws' ≡ ws → Gathered P (Below (n + 1)) words before ws'
    nodes_skip out ws' after =
        subst (λ x. Gathered P (Below (n + 1)) words before x) (sym after) (gathered_same P (Below n) (Below (n + 1)) words before ws (λ j p lp. go j p (cases_eq j n)) gathered)
      where
        go : (j p : ℕ) → (j ≡ n) ⊎ (j ≡ n → ⊥) → Below n j p ≡ Below (n + 1) j p
        go j p (inl e) =
            let down : flags j ≡ false = ap flags e ∙ out in
            ap (λ b. b && test p) (and_right (ltb j n) (flags j) down ∙ sym (and_right (ltb j (n + 1)) (flags j) down))
        go j p (inr ne) = ap (λ b. (b && flags j) && test p) (sym (ltb_more j n ne))

    pub nodes_more : flags n ≡ true → (now : Words) → ((p : ℕ) → now n p ≡ words n p) → (ws' : List ℕ) → Gathered P (λ j p. eqb j n && test p) now ws ws' → Gathered P (Below (n + 1)) words before ws'
    nodes_more up now same ws' drawn j p lp = drawn j p lp ∙ go (cases_eq j n) (cases_Bool (test p))
      where
        go : (j ≡ n) ⊎ (j ≡ n → ⊥) → (test p ≡ true) ⊎ (test p ≡ false) → cond (eqb j n && test p) (now j p) (laid P ws j p) ≡ cond (Below (n + 1) j p) (words j p) (laid P before j p)
        go (inl e) (inl on) =
            cond-true (eqb j n && test p) (now j p) (laid P ws j p) (both (eqb j n) (test p) (eq-eqb j n e) on)
            ∙ ap (λ x. now x p) e ∙ same p ∙ ap (λ x. words x p) (sym e)
            ∙ sym (cond-true (Below (n + 1) j p) (words j p) (laid P before j p)
            (both (ltb j (n + 1) && flags j) (test p) (both (ltb j (n + 1)) (flags j) (ap (λ x. ltb x (n + 1)) e ∙ ltb_last n) (ap flags e ∙ up)) on))
        go (inl e) (inr off) =
            cond-false (eqb j n && test p) (now j p) (laid P ws j p) (and_right (eqb j n) (test p) off) ∙ gathered j p lp
            ∙ ap (λ b. cond b (words j p) (laid P before j p)) (and_right (ltb j n && flags j) (test p) off ∙ sym (and_right (ltb j (n + 1) && flags j) (test p) off))
        go (inr ne) on =
            cond-false (eqb j n && test p) (now j p) (laid P ws j p) (and_left (eqb j n) (test p) (ne_eqb j n ne)) ∙ gathered j p lp
            ∙ ap (λ b. cond ((b && flags j) && test p) (words j p) (laid P before j p)) (sym (ltb_more j n ne))

-- what `stands` tells while words are drawn
pub flag_drawn : (m0 m : Model) (n k i : ℕ) (b : Bool) → m ≡ drawn_below m0 n k → i < m0.nodes → b ≡ standing m i → m0.flags i ≡ b
flag_drawn m0 m n k i b so_far l is = sym (is ∙ ap (λ x. standing x i) so_far ∙ standing_flag (drawn_below m0 n k) i l)

-- before the first node nothing is drawn
pub drawn_below_none : (m : Model) (k : ℕ) → m ≡ drawn_below m 0 k
drawn_below_none m k =
    same_model m (drawn_below m 0 k) refl refl (λ j. refl) (λ j p. refl)
    (λ j. sym (cond-false (ltb j 0 && m.flags j) (risen (m.meters j) k) (m.meters j) (and_left (ltb j 0) (m.flags j) (ltb_none j))))

pub nodes_none : (P : ℕ) (flags test : ℕ → Bool) (words : Words) (before : List ℕ) → Gathered P (λ j p. (ltb j 0 && flags j) && test p) words before before
nodes_none P flags test words before j p lp =
    sym (cond-false ((ltb j 0 && flags j) && test p) (words j p) (laid P before j p) (and_left (ltb j 0 && flags j) (test p) (and_left (ltb j 0) (flags j) (ltb_none j))))
