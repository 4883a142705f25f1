-- Words set to 0, node by node. Assumes nothing.
use Rattle.std.proofs.Common.{◌≡◌, ℕ, ◌+◌, ◌*◌, ◌<◌, ◌≤◌, Bool, true, false, ◌≢◌, ◌⊎◌, List, length, get_or, replicate, ap, ◌∙◌, inl, inr, arith}
use Rattle.std.proofs.lemmas.Grind.{common_steps}
use borrow.Rule.Slice.PartMut.{put_mid}
use Rattle.std.proofs.lemmas.Bool.{both_ways, cases_eq, cases_lt}
use Rattle.std.proofs.lemmas.List.{length-replicate}
use Rattle.std.proofs.lemmas.Slice.{drop-put_mid}
use Rattle.field.specs.Field.{Arith, Laws}
use Rattle.code.specs.Code.{Words, laid}
use Rattle.code.specs.Solving.{Codes}
use Rattle.code.specs.Steps.{NodeCleared, Cleared, Sound}
use Rattle.code.proofs.Places.{node_within}

-- a part of a list set to 0
pub zero_inside : (ws zs : List ℕ) (a k j : ℕ) → a + k ≤ length ws → zs ≡ replicate k 0 → a ≤ j → j < a + k → get_or (put_mid a k ws zs) j 0 ≡ 0
zero_inside ws zs a k j room is low high = grind (arith, common_steps)

pub kept_outside : (ws zs : List ℕ) (a k j : ℕ) → a + k ≤ length ws → length zs ≡ k → (j < a) ⊎ (a + k ≤ j) → get_or (put_mid a k ws zs) j 0 ≡ get_or ws j 0
kept_outside ws zs a k j room long (inl l) = grind (arith, common_steps)
kept_outside ws zs a k j room long (inr l) = grind (arith, common_steps)

-- the words of a node set to 0
module _ (n places node : ℕ) (ws zs : List ℕ) (within : node < n) (room : n * places ≤ length ws) (is : zs ≡ replicate places 0) where
  long : length zs ≡ places
  long = ap length is ∙ length-replicate places 0

  fits : node * places + places ≤ length ws
  fits = let w = node_within n places node within in omega arith

  at_other : (j : ℕ) → (j < node * places) ⊎ (node * places + places ≤ j) → get_or (put_mid (node * places) places ws zs) j 0 ≡ get_or ws j 0
  at_other j out = kept_outside ws zs (node * places) places j fits long out

  pub node_cleared : NodeCleared places node places (laid places ws) (laid places (put_mid (node * places) places ws zs))
  node_cleared = record {
    none = λ p lp l. zero_inside ws zs (node * places) places (node * places + p) fits is (omega arith) (omega arith);
    kept = λ i p lp h. at_other (i * places + p) (apart i p lp h (cases_lt i node));
  }
    where
      apart : (i p : ℕ) → p < places → (i ≢ node) ⊎ (places ≤ p) → (i < node) ⊎ (node ≤ i) → (i * places + p < node * places) ⊎ (node * places + places ≤ i * places + p)
      apart i p lp (inr l) o = absurd (omega arith)
      apart i p lp (inl ne) (inl l) = inl (let w = node_within node places i l in omega arith)
      apart i p lp (inl ne) (inr l) = inr (let w = node_within i places node (omega arith) in omega arith)

  pub clear_sound : {E : Type 0} (f : Arith E) → Laws f → Sound f (n * places) ws (put_mid (node * places) places ws zs)
  clear_sound f laws = (
    drop-put_mid (node * places) places ws zs (n * places) (node_within n places node within) (let l = fits in omega arith) long,
    λ codes j lj. code j lj codes (cases_lt j (node * places)) (cases_lt j (node * places + places)),
  )
    where
      code : (j : ℕ) → j < n * places → Codes f ws (n * places) → (j < node * places) ⊎ (node * places ≤ j) → (j < node * places + places) ⊎ (node * places + places ≤ j)
          → get_or (put_mid (node * places) places ws zs) j 0 < f.size
      code j lj codes (inl l) o = let e = at_other j (inl l) in let h = codes j lj in omega arith
      code j lj codes (inr l) (inr m) = let e = at_other j (inr m) in let h = codes j lj in omega arith
      code j lj codes (inr l) (inl m) = let e = zero_inside ws zs (node * places) places j fits is l m in let z = laws.code_below f.zero in let y = laws.zero_code in omega arith

module _ (places : ℕ) (S : ℕ → Bool) where
  pub clear_skip : (node : ℕ) (w w' : Words) → S node ≡ false → Cleared places S node w w' → Cleared places S (node + 1) w w'
  clear_skip node w w' out inv = record {
    none = λ i p lp x l. inv.none i p lp x (let m : i ≢ node = λ e. both_ways (S i) (ap S e ∙ out) x in omega arith);
    kept = λ i p lp h. inv.kept i p lp (weaker i h);
  }
    where
      weaker : {X : Type 0} (i : ℕ) → X ⊎ (node + 1 ≤ i) → X ⊎ (node ≤ i)
      weaker i (inl x) = inl x
      weaker i (inr l) = inr (omega arith)

  pub clear_more : (node : ℕ) (w w' w'' : Words) → S node ≡ true → Cleared places S node w w' → NodeCleared places node places w' w'' → Cleared places S (node + 1) w w''
  clear_more node w w' w'' x inv cleared = record { none = λ i p lp y l. gone i p lp y l (cases_eq i node); kept = λ i p lp h. stays i p lp h }
    where
      gone : (i p : ℕ) → p < places → S i ≡ true → i < node + 1 → (i ≡ node) ⊎ (i ≡ node → ⊥) → w'' i p ≡ 0
      gone i p lp y l (inl e) = ap (λ j. w'' j p) e ∙ cleared.none p lp lp
      gone i p lp y l (inr ne) = cleared.kept i p lp (inl ne) ∙ inv.none i p lp y (omega arith)

      stays : (i p : ℕ) → p < places → (S i ≡ false) ⊎ (node + 1 ≤ i) → w'' i p ≡ w i p
      stays i p lp (inl out) = cleared.kept i p lp (inl (λ e. both_ways (S i) out (ap S e ∙ x))) ∙ inv.kept i p lp (inl out)
      stays i p lp (inr l) = cleared.kept i p lp (inl (λ e. omega arith)) ∙ inv.kept i p lp (inr (omega arith))
