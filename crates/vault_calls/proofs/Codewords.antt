-- What settles a codeword, and a refill, as arrays of words. Assumes nothing.
use Rattle.std.proofs.Common.{◌≡◌, ℕ, ◌*◌, ◌^◌, ◌<◌, ◌≤◌, Bool, true, false, sym, ap, ◌∙◌}
use Rattle.field.specs.Field.{Arith, Laws}
use Rattle.shape.specs.Layout.{digit, row, column}
use Rattle.shape.specs.Outages.{count}
use Rattle.shape.proofs.Bounds.{Shaped, rows_positive}
use Rattle.std.proofs.lemmas.Bool.{eq-eqb}
use Rattle.code.specs.Code.{Words, Codeword, Refills, elements, helps}
use Rattle.code.specs.Theorems.{OnlyOne, RepairOne}
use Rattle.code.proofs.Main.{only_one_stands, repair_one_stands}

module _ {E : Type 0} (f : Arith E) (q t : ℕ) where
  -- two codewords that are alike outside at most q nodes are alike
  abbrev pub OnlyCodeword : Type 0
  OnlyCodeword =
      (v w : Words) (erased : ℕ → Bool) → count erased (q * t) ≤ q → Codeword f q t v → Codeword f q t w
      → ((i p : ℕ) → i < q * t → p < q ^ t → erased i ≡ false → v i p ≡ w i p) → (i p : ℕ) → i < q * t → p < q ^ t → v i p ≡ w i p

  -- two arrays that meet the checks of the planes that help, and are alike in the helper words, are alike in the node
  abbrev pub OnlyHelp : Type 0
  OnlyHelp =
      (v w : Words) (i : ℕ) → i < q * t → Refills f q t v i → Refills f q t w i
      → ((j p : ℕ) → j < q * t → p < q ^ t → helps q i p ≡ true → (j ≡ i → ⊥) → v j p ≡ w j p)
      → (p : ℕ) → p < q ^ t → v i p ≡ w i p

module _ {E : Type 0} (f : Arith E) (laws : Laws f) (q t : ℕ) (shape : Shaped q t) where
  -- codes of one element are one
  same_code : (a b : ℕ) → a < f.size → b < f.size → f.of a ≡ f.of b → a ≡ b
  same_code a b la lb e = sym (laws.code_of a la) ∙ ap f.code e ∙ laws.code_of b lb

  pub only_codeword : OnlyCodeword f q t
  unfolding OnlyOne
  only_codeword v w erased few cv cw alike i p li lp =
      same_code (v i p) (w i p) (cv.codes i p li lp) (cw.codes i p li lp)
      (only_one_stands f laws q t q erased (elements f v) (elements f w) (rows_positive shape) shape.few few cv.checks cw.checks
      (λ j r lj lr e. ap f.of (alike j r lj lr e)) i p li lp)

  pub only_help : OnlyHelp f q t
  unfolding RepairOne
  only_help v w i li rv rw' alike p lp =
      same_code (v i p) (w i p) (rv.codes p lp) (rw'.codes p lp)
      (repair_one_stands f laws q t i (elements f v) (elements f w) (rows_positive shape) shape.few li
      (λ r e lr le h. rv.checks r e lr le (eq-eqb (digit q r (column q i)) (row q i) h)) (λ r e lr le h. rw'.checks r e lr le (eq-eqb (digit q r (column q i)) (row q i) h))
      (λ j r lj lr h ne. ap f.of (alike j r lj lr (eq-eqb (digit q r (column q i)) (row q i) h) ne)) p lp)
