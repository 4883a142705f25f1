-- From the words in the work space to the words of the rack. Assumes nothing.
use Rattle.std.proofs.Common.{◌≡◌, ℕ, ◌+◌, ◌*◌, ◌/◌, ◌%◌, ◌^◌, ◌<◌, ◌≤◌, Bool, true, false, cond, ◌&&◌, ltb, ◌⊎◌, List, length, get_or, drop, Some, None, Err, Option, sym, refl, ap, ◌∙◌, subst, inl, inr, mod-lt, div-add-mod', le-div_iff_mul-le}
use Rattle.std.proofs.lemmas.Bool.{cases_Bool, le-ltb, cond-true, cond-false, and_left}
use Rattle.field.specs.Field.{Arith}
use Rattle.shape.specs.Outages.{every}
use Rattle.code.specs.Code.{Words, laid, Agrees, OnlyAgrees}
use Rattle.code.specs.Calls.{NoneAgrees, Restored, restore_refusal, good_standing, standing, Rest}
use Rattle.code.proofs.Codes.{every_same}
use Rattle.code.proofs.Solutions.{rest_kept}
use Rattle.refusal.specs.declared.reason.Refusal.{Refusal}
use Rattle.vault_calls.specs.Calls.{drew, Space}
use Rattle.vault_calls.specs.Steps.{Gathered}

-- words past those of all nodes are as they were
pub gathered_rest : (n P : ℕ) (flags test : ℕ → Bool) (words : Words) (before after : List ℕ) → 0 < P → length after ≡ length before
    → Gathered P (λ j p. (ltb j n && flags j) && test p) words before after → Rest (n * P) before after
gathered_rest n P flags test words before after pos long gathered =
    rest_kept (n * P) before after long
    (λ k l.
    let j : ℕ = k / P in
    let p : ℕ = k % P in
    let past : n ≤ j = (le-div_iff_mul-le pos).1 l in
    let is : j * P + p ≡ k = div-add-mod' k P in
    let off : ((ltb j n && flags j) && test p) ≡ false = and_left (ltb j n && flags j) (test p) (and_left (ltb j n) (flags j) (le-ltb j n past)) in
    sym (ap (λ x. get_or after x 0) is) ∙ gathered j p (mod-lt k pos) ∙ cond-false ((ltb j n && flags j) && test p) (words j p) (laid P before j p) off
    ∙ ap (λ x. get_or before x 0) is)

module _ {E : Type 0} (f : Arith E) (q t : ℕ) (g h : ℕ → Bool) (v w : Words)
    (same_stands : (i : ℕ) → i < q * t → g i ≡ h i) (same_words : (i p : ℕ) → i < q * t → p < q ^ t → h i ≡ true → v i p ≡ w i p) where
  -- a codeword that agrees with the one agrees with the other
  pub agrees_too : (c : Words) → Agrees f q t g v c → Agrees f q t h w c
  agrees_too c a = record { codeword = a.codeword; same = λ i p li lp up. a.same i p li lp (same_stands i li ∙ up) ∙ same_words i p li lp up }

  pub agrees_back : (c : Words) → Agrees f q t h w c → Agrees f q t g v c
  agrees_back c a = record {
    codeword = a.codeword;
    same = λ i p li lp up. let stands = sym (same_stands i li) ∙ up in a.same i p li lp stands ∙ sym (same_words i p li lp stands);
  }

  pub only_too : (c : Words) → OnlyAgrees f q t g v c → OnlyAgrees f q t h w c
  only_too c o = record { agrees = agrees_too c o.agrees; only = λ d a. o.only d (agrees_back d a) }

  -- and their standing words are codes alike
  pub good_too : good_standing f q t g v ≡ good_standing f q t h w
  good_too = every_same (λ i. cond (g i) (every (λ p. ltb (v i p) f.size) (q ^ t)) true) (λ i. cond (h i) (every (λ p. ltb (w i p) f.size) (q ^ t)) true) (q * t) (λ i l. go i l (cases_Bool (h i)))
    where
      go : (i : ℕ) → i < q * t → (h i ≡ true) ⊎ (h i ≡ false) → cond (g i) (every (λ p. ltb (v i p) f.size) (q ^ t)) true ≡ cond (h i) (every (λ p. ltb (w i p) f.size) (q ^ t)) true
      go i l (inl up) =
          cond-true (g i) (every (λ p. ltb (v i p) f.size) (q ^ t)) true (same_stands i l ∙ up)
          ∙ every_same (λ p. ltb (v i p) f.size) (λ p. ltb (w i p) f.size) (q ^ t) (λ p lp. ap (λ x. ltb x f.size) (same_words i p l lp up))
          ∙ sym (cond-true (h i) (every (λ p. ltb (w i p) f.size) (q ^ t)) true up)
      go i l (inr down) =
          cond-false (g i) (every (λ p. ltb (v i p) f.size) (q ^ t)) true (same_stands i l ∙ down)
          ∙ sym (cond-false (h i) (every (λ p. ltb (w i p) f.size) (q ^ t)) true down)

-- a restore that was refused past its tests
module _ {E : Type 0} (f : Arith E) (q t count : ℕ) (nodes before after : List ℕ) (e : Refusal) where
  pub late_parts : restore_refusal q t count nodes before ≡ None → Restored f q t {X = Unit {0}} count nodes before (Err e) after
      → NoneAgrees f q t (standing nodes) (laid (q ^ t) before) e × Rest (q * t * q ^ t) before after
  late_parts is r =
      let P : Option Refusal → Type 0 = λ o. elim o [ Some x ↦ (e ≡ x) × (after ≡ before) | None ↦ NoneAgrees f q t (standing nodes) (laid (q ^ t) before) e × Rest (q * t * q ^ t) before after ] in
      subst P is r

-- the space after a refusal that drew
pub space_drew : (used : ℕ) (e : Refusal) (before after : List ℕ) → drew e ≡ true → Rest used before after → Space used (Err e) before after
space_drew used e before after yes' rest =
    let P : Bool → Type 0 = λ b. cond b (drop used after ≡ drop used before) (after ≡ before) in
    subst P (sym yes') rest

-- a work space that nothing touched is as any refusal leaves it
pub space_same : (used : ℕ) (e : Refusal) (ws : List ℕ) → Space used (Err e) ws ws
space_same used e ws = go (drew e)
  where
    go : (b : Bool) → cond b (drop used ws ≡ drop used ws) (ws ≡ ws)
    go true = refl
    go false = refl
