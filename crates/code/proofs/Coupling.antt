-- Uncoupled symbols of one score, coupled in place. Assumes nothing.
use Rattle.std.proofs.Common.{◌≡◌, ℕ, ◌+◌, ◌*◌, ◌^◌, ◌<◌, ◌≤◌, Bool, true, false, cond, eqb, ltb, ◌≢◌, ◌⊎◌, sym, refl, ap, ◌∙◌, ap₂, inl, inr, arith}
use Rattle.std.proofs.lemmas.Bool.{both_ways, cases_eq, cases_Bool, cases_lt, cond-true, cond-false, eq-eqb, ne_eqb, lt-ltb, le-ltb}
use Rattle.field.specs.Field.{Arith, Laws}
use Rattle.shape.specs.Layout.{row, column, digit, companion_node, companion_place}
use Rattle.shape.proofs.Bounds.{Shaped, rows_positive}
use Rattle.shape.proofs.Digits.{row_companion, companion_bound, companion_place_bound, companion_back, companion_place_back}
use Rattle.code.specs.Code.{minus}
use Rattle.code.specs.Filling.{score, of_pair, turn}
use Rattle.code.specs.Steps.{Wrote, turn_now, NodeTurned, ScoreTurned}
use Rattle.code.proofs.Completion.{turn_own, turn_both, turn_one}
use Rattle.code.proofs.Ring.{add_back}
use Rattle.code.proofs.Scores.{score_equal}
use Rattle.code.proofs.Uncoupling.{pair_back, companion_apart}

module _ {E : Type 0} (f : Arith E) (laws : Laws f) {q t : ℕ} (s : Shaped q t) (S : ℕ → Bool) where
  open f use {sum as ◌⊕◌, product as ◌⊗◌, coupling as u}

  infixl 60 ◌⊕◌
  infixl 70 ◌⊗◌
  abbrev Own : ℕ → ℕ → Type 0
  Own i p = row q i ≡ digit q p (column q i)

  -- a coupled symbol is not its own companion
  companion_other : (i p : ℕ) → (Own i p → ⊥) → companion_node q i p ≢ i
  companion_other i p o e = o (sym (ap (row q) e) ∙ row_companion q (rows_positive s) i p)

  -- undoing a pair of which the other symbol is known
  pair_undone : (a b : E) → minus f a (u ⊗ of_pair f b a) ≡ of_pair f a b
  pair_undone a b = ap (λ v. minus f v (u ⊗ of_pair f b a)) (sym (pair_back f laws a b)) ∙ add_back f laws (of_pair f a b) (u ⊗ of_pair f b a)

  either : (b : Bool) (x : E) → cond b x x ≡ x
  either true x = refl
  either false x = refl

  module _ (A : ℕ → ℕ → E) (i p : ℕ) where
    pub now_own : Own i p → turn_now f q t S A i p ≡ A i p
    unfolding turn_now
    now_own o = cond-true (eqb (row q i) (digit q p (column q i))) _ _ (eq-eqb (row q i) (digit q p (column q i)) o)

    pub now_both : (Own i p → ⊥) → i < companion_node q i p → S (companion_node q i p) ≡ true
        → turn_now f q t S A i p ≡ of_pair f (A i p) (A (companion_node q i p) (companion_place q i p))
    unfolding turn_now
    now_both o l x =
        cond-false (eqb (row q i) (digit q p (column q i))) _ _ (ne_eqb (row q i) (digit q p (column q i)) o)
        ∙ cond-true (ltb i (companion_node q i p)) _ _ (lt-ltb i (companion_node q i p) l) ∙ cond-true (S (companion_node q i p)) _ _ x

    pub now_one : (Own i p → ⊥) → (companion_node q i p ≤ i) ⊎ (S (companion_node q i p) ≡ false)
        → turn_now f q t S A i p ≡ minus f (A i p) (u ⊗ A (companion_node q i p) (companion_place q i p))
    unfolding turn_now
    now_one o (inl l) =
        cond-false (eqb (row q i) (digit q p (column q i))) _ _ (ne_eqb (row q i) (digit q p (column q i)) o)
        ∙ cond-false (ltb i (companion_node q i p)) _ _ (le-ltb i (companion_node q i p) l)
    now_one o (inr x) =
        cond-false (eqb (row q i) (digit q p (column q i))) _ _ (ne_eqb (row q i) (digit q p (column q i)) o)
        ∙ ap (λ v. cond (ltb i (companion_node q i p)) v (minus f (A i p) (u ⊗ A (companion_node q i p) (companion_place q i p)))) (cond-false (S (companion_node q i p)) _ _ x)
        ∙ either (ltb i (companion_node q i p)) _

  -- it sees the symbol and its companion
  now_same : (A A' : ℕ → ℕ → E) (i p : ℕ) → A i p ≡ A' i p → ((Own i p → ⊥) → A (companion_node q i p) (companion_place q i p) ≡ A' (companion_node q i p) (companion_place q i p))
      → turn_now f q t S A i p ≡ turn_now f q t S A' i p
  now_same A A' i p own other = go (cases_eq (row q i) (digit q p (column q i)))
    where
      go : Own i p ⊎ (Own i p → ⊥) → turn_now f q t S A i p ≡ turn_now f q t S A' i p
      go (inl o) = now_own A i p o ∙ own ∙ sym (now_own A' i p o)
      go (inr o) =
          unfold turn_now in
          ap₂ (λ v w. cond (eqb (row q i) (digit q p (column q i))) v
          (cond (ltb i (companion_node q i p)) (cond (S (companion_node q i p)) (of_pair f v w) (minus f v (u ⊗ w))) (minus f v (u ⊗ w)))) own (other o)

  module _ (level node : ℕ) (ln : node < q * t) where
    -- a plane of another score
    pub node_skip : (place : ℕ) (A A' : ℕ → ℕ → E) → score q t S place ≢ level → NodeTurned f q t S level node place A A' → NodeTurned f q t S level node (place + 1) A A'
    node_skip place A A' ne inv = record {
      made = λ p lp k l. inv.made p lp k (let m : p ≢ place = λ e. ne (ap (score q t S) (sym e) ∙ k) in omega arith);
      kept = λ i p li lp h. inv.kept i p li lp (weaker p h);
    }
      where
        weaker : {X : Type 0} (p : ℕ) → X ⊎ ((score q t S p ≢ level) ⊎ (place + 1 ≤ p)) → X ⊎ ((score q t S p ≢ level) ⊎ (place ≤ p))
        weaker p (inl x) = inl x
        weaker p (inr (inl x)) = inr (inl x)
        weaker p (inr (inr x)) = inr (inr (omega arith))

    -- a plane of the score
    pub node_more : (place : ℕ) (A A' A'' : ℕ → ℕ → E) (a : E) → place < q ^ t → score q t S place ≡ level → NodeTurned f q t S level node place A A'
        → a ≡ turn_now f q t S A' node place → Wrote (q ^ t) node place a A' A'' → NodeTurned f q t S level node (place + 1) A A''
    node_more place A A' A'' a lplace is inv a_is wrote = record { made = λ p lp k l. at p lp k l (cases_eq p place); kept = λ i p li lp h. stays i p li lp h }
      where
        c : ℕ
        c = companion_node q node place

        d : ℕ
        d = companion_place q node place

        steady : turn_now f q t S A' node place ≡ turn_now f q t S A node place
        steady =
            now_same A' A node place (inv.kept node place ln lplace (inr (inr (omega arith))))
            (λ o. inv.kept c d (companion_bound q (rows_positive s) node place t ln) (companion_place_bound q (rows_positive s) node place t ln lplace) (inl (companion_other node place o)))

        at : (p : ℕ) → p < q ^ t → score q t S p ≡ level → p < place + 1 → (p ≡ place) ⊎ (p ≡ place → ⊥) → A'' node p ≡ turn_now f q t S A node p
        at p lp k l (inl e) = ap (A'' node) e ∙ wrote.here ∙ a_is ∙ steady ∙ ap (turn_now f q t S A node) (sym e)
        at p lp k l (inr ne) = wrote.other node p lp (inr ne) ∙ inv.made p lp k (omega arith)

        stays : (i p : ℕ) → i < q * t → p < q ^ t → (i ≢ node) ⊎ ((score q t S p ≢ level) ⊎ (place + 1 ≤ p)) → A'' i p ≡ A i p
        stays i p li lp (inl ne) = wrote.other i p lp (inl ne) ∙ inv.kept i p li lp (inl ne)
        stays i p li lp (inr (inl ne)) = wrote.other i p lp (inr (λ e. ne (ap (score q t S) e ∙ is))) ∙ inv.kept i p li lp (inr (inl ne))
        stays i p li lp (inr (inr l)) = wrote.other i p lp (inr (λ e. omega arith)) ∙ inv.kept i p li lp (inr (inr (omega arith)))

  module _ (level : ℕ) where
    -- a node that is not erased
    pub turned_skip : (node : ℕ) (A A' : ℕ → ℕ → E) → S node ≡ false → ScoreTurned f q t S level node A A' → ScoreTurned f q t S level (node + 1) A A'
    turned_skip node A A' out inv = record {
      made = λ i p li lp x k l. inv.made i p li lp x k (let m : i ≢ node = λ e. both_ways (S i) (ap S e ∙ out) x in omega arith);
      kept = λ i p li lp h. inv.kept i p li lp (weaker i p h);
    }
      where
        weaker : {X Y : Type 0} (i p : ℕ) → X ⊎ (Y ⊎ (node + 1 ≤ i)) → X ⊎ (Y ⊎ (node ≤ i))
        weaker i p (inl x) = inl x
        weaker i p (inr (inl x)) = inr (inl x)
        weaker i p (inr (inr x)) = inr (inr (omega arith))

    -- an erased node, coupled now: as from the uncoupled symbols alone
    now_turn : (node p : ℕ) (A A' : ℕ → ℕ → E) → node < q * t → p < q ^ t → S node ≡ true → score q t S p ≡ level → ScoreTurned f q t S level node A A'
        → turn_now f q t S A' node p ≡ turn f q S A A node p
    now_turn node p A A' ln lp x k inv = go (cases_eq (row q node) (digit q p (column q node))) (cases_Bool (S c)) (cases_lt node c)
      where
        pos : 0 < q
        pos = rows_positive s

        c : ℕ
        c = companion_node q node p

        d : ℕ
        d = companion_place q node p

        lc : c < q * t
        lc = companion_bound q pos node p t ln

        ld : d < q ^ t
        ld = companion_place_bound q pos node p t ln lp

        own : A' node p ≡ A node p
        own = inv.kept node p ln lp (inr (inr (omega arith)))

        back : (Own node p → ⊥) → S c ≡ true → turn f q S A A c d ≡ of_pair f (A c d) (A node p)
        back o y =
            turn_both f laws q t pos S A A c d (companion_apart f laws q A node p pos o) (ap S (companion_back q pos node p) ∙ x)
            ∙ ap₂ (λ j r. of_pair f (A c d) (A j r)) (companion_back q pos node p) (companion_place_back q pos node p)

        go : Own node p ⊎ (Own node p → ⊥) → (S c ≡ true) ⊎ (S c ≡ false) → (node < c) ⊎ (c ≤ node) → turn_now f q t S A' node p ≡ turn f q S A A node p
        go (inl o) y l = now_own A' node p o ∙ own ∙ sym (turn_own f laws q t pos S A A node p o)
        go (inr o) (inr y) l =
            now_one A' node p o (inr y) ∙ ap₂ (λ v w. minus f v (u ⊗ w)) own (inv.kept c d lc ld (inl y)) ∙ sym (turn_one f laws q t pos S A A node p o y)
        go (inr o) (inl y) (inl l) =
            now_both A' node p o l y ∙ ap₂ (of_pair f) own (inv.kept c d lc ld (inr (inr (omega arith)))) ∙ sym (turn_both f laws q t pos S A A node p o y)
        go (inr o) (inl y) (inr l) =
            let ne : c ≢ node = companion_other node p o in
            let r : score q t S d ≡ level = score_equal q t pos S node p ln x y ∙ k in
            now_one A' node p o (inl l)
            ∙ ap₂ (λ v w. minus f v (u ⊗ w)) own (inv.made c d lc ld y r (omega arith) ∙ back o y)
            ∙ pair_undone (A node p) (A c d) ∙ sym (turn_both f laws q t pos S A A node p o y)

    pub turned_more : (node : ℕ) (A A' A'' : ℕ → ℕ → E) → node < q * t → S node ≡ true → ScoreTurned f q t S level node A A'
        → NodeTurned f q t S level node (q ^ t) A' A'' → ScoreTurned f q t S level (node + 1) A A''
    turned_more node A A' A'' ln x inv turned = record {
      made = λ i p li lp y k l. at i p li lp y k l (cases_eq i node);
      kept = λ i p li lp h. stays i p li lp h;
    }
      where
        at : (i p : ℕ) → i < q * t → p < q ^ t → S i ≡ true → score q t S p ≡ level → i < node + 1 → (i ≡ node) ⊎ (i ≡ node → ⊥) → A'' i p ≡ turn f q S A A i p
        at i p li lp y k l (inl e) = ap (λ j. A'' j p) e ∙ turned.made p lp k lp ∙ now_turn node p A A' ln lp x k inv ∙ ap (λ j. turn f q S A A j p) (sym e)
        at i p li lp y k l (inr ne) = turned.kept i p li lp (inl ne) ∙ inv.made i p li lp y k (omega arith)

        stays : (i p : ℕ) → i < q * t → p < q ^ t → (S i ≡ false) ⊎ ((score q t S p ≢ level) ⊎ (node + 1 ≤ i)) → A'' i p ≡ A i p
        stays i p li lp (inl out) = turned.kept i p li lp (inl (λ e. both_ways (S i) out (ap S e ∙ x))) ∙ inv.kept i p li lp (inl out)
        stays i p li lp (inr (inl ne)) = turned.kept i p li lp (inr (inl ne)) ∙ inv.kept i p li lp (inr (inl ne))
        stays i p li lp (inr (inr l)) = turned.kept i p li lp (inl (λ e. omega arith)) ∙ inv.kept i p li lp (inr (inr (omega arith)))
