-- Tests that words are codes. Assumes nothing.
use Rattle.std.proofs.Common.{◌≡◌, ℕ, zero, suc, ◌<◌, ◌≤◌, Bool, true, false, cond, ltb, List, length, get_or, take, ◌↔◌, IsTrue, sym, refl, ap, ◌∙◌, ap₂, ⊎_elim, arith}
use Rattle.std.proofs.lemmas.List.{get_or-take, length-take-le}
use Rattle.std.proofs.lemmas.Bool.{lt-ltb, ltb-true, cases_Bool}
use Rattle.field.specs.Field.{Arith}
use Rattle.shape.specs.Outages.{every}
use Rattle.shape.proofs.Every.{every_at, every_from}
use Rattle.code.specs.Calls.{all_codes, first_codes}
use Rattle.code.specs.Solving.{Codes}

-- two tests that agree
pub every_same : (g h : ℕ → Bool) (n : ℕ) → ((i : ℕ) → i < n → g i ≡ h i) → every g n ≡ every h n
unfolding every
every_same g h zero e = refl
every_same g h (suc n) e = ap₂ (λ a b. cond a b false) (every_same g h n (λ i l. e i (omega arith))) (e n (omega arith))

module _ {E : Type 0} (f : Arith E) where
  -- the test of a front
  pub front_codes : (ws : List ℕ) (n k : ℕ) → n ≤ length ws → k ≡ n → all_codes f (take k ws) ≡ first_codes f ws n
  front_codes ws n k l e =
      let m = length-take-le k ws (omega arith) in
      ap (first_codes f (take k ws)) (m ∙ e)
      ∙ every_same (λ j. ltb (get_or (take k ws) j 0) f.size) (λ j. ltb (get_or ws j 0) f.size) n
      (λ j h. ap (λ w. ltb w f.size) (get_or-take k ws j 0 (omega arith)))

  pub codes_at : (ws : List ℕ) (n : ℕ) → first_codes f ws n ≡ true → Codes f ws n
  codes_at ws n e k l = ltb-true (get_or ws k 0) f.size (every_at (λ j. ltb (get_or ws j 0) f.size) n e k l)

  pub codes_from : (ws : List ℕ) (n : ℕ) → Codes f ws n → first_codes f ws n ≡ true
  codes_from ws n h = every_from (λ j. ltb (get_or ws j 0) f.size) n (λ k l. lt-ltb (get_or ws k 0) f.size (h k l))

  -- a test that tells whether all words are codes
  pub codes_told : (ws : List ℕ) (b : Bool) → (IsTrue b ↔ Codes f ws (length ws)) → b ≡ all_codes f ws
  codes_told ws true h = sym (codes_from ws (length ws) (h.0 refl))
  codes_told ws false h = ⊎_elim (λ e. let x = h.1 (codes_at ws (length ws) e) in cc) sym (cases_Bool (all_codes f ws))
