-- Arrays of symbols in lists of words. Assumes nothing.
use Rattle.std.proofs.Common.{◌≡◌, ℕ, ◌+◌, ◌*◌, ◌/◌, ◌%◌, ◌^◌, ◌<◌, List, [], get_or, sym, ap, ◌∙◌, subst, mod-lt, div-lt_iff_lt-mul, div-add-mod'}
use native.Mathlib.Nat.{one-le-pow}
use Rattle.field.specs.Field.{Arith, Laws}
use Rattle.shape.specs.Layout.{companion_node, companion_place}
use Rattle.shape.specs.Outages.{among}
use Rattle.shape.proofs.Bounds.{Shaped, rows_positive}
use Rattle.shape.proofs.Digits.{companion_bound, companion_place_bound}
use Rattle.code.specs.Code.{Words, laid, moment, uncoupled, check, Checks, elements, Codeword}
use Rattle.code.specs.Filling.{known}
use Rattle.code.specs.Reading.{symbols}
use Rattle.code.specs.Solving.{Codes}
use Rattle.code.proofs.Places.{spot_within}
use Rattle.code.proofs.Sums.{moment_same}
use Rattle.code.proofs.Uncoupling.{uncoupled_same}
use Rattle.code.proofs.Words.{read_code}

-- two arrays are the same at every place of every node
abbrev pub Alike : {X : Type 0} → (q t : ℕ) (A A' : ℕ → ℕ → X) → Type 0
Alike q t A A' = (i p : ℕ) → i < q * t → p < q ^ t → A i p ≡ A' i p

-- all words of all nodes are codes
abbrev pub AllCodes : {E : Type 0} → Arith E → (q t : ℕ) → Words → Type 0
AllCodes f q t w = (i p : ℕ) → i < q * t → p < q ^ t → w i p < f.size

module _ {E : Type 0} (f : Arith E) {q t : ℕ} (s : Shaped q t) where
  pub codes_laid : (ws : List ℕ) → Codes f ws (q * t * q ^ t) → AllCodes f q t (laid (q ^ t) ws)
  codes_laid ws codes i p li lp = codes (i * q ^ t + p) (spot_within (q * t) (q ^ t) i p li lp)

  pub laid_codes : (ws : List ℕ) → AllCodes f q t (laid (q ^ t) ws) → Codes f ws (q * t * q ^ t)
  laid_codes ws codes k l =
      let pos : 0 < q ^ t = one-le-pow t q (rows_positive s) in
      let is : k / q ^ t * q ^ t + k % q ^ t ≡ k = div-add-mod' k (q ^ t) in
      subst (λ j. get_or ws j 0 < f.size) is (codes (k / q ^ t) (k % q ^ t) ((div-lt_iff_lt-mul pos).1 l) (mod-lt k pos))

  pub symbols_elements : (ws : List ℕ) → AllCodes f q t (laid (q ^ t) ws) → Alike q t (symbols f (q ^ t) ws) (elements f (laid (q ^ t) ws))
  symbols_elements ws codes i p li lp = read_code f (laid (q ^ t) ws i p) (codes i p li lp)

  module _ (laws : Laws f) where
    -- checks see only the places of the nodes
    pub check_same : (A A' : ℕ → ℕ → E) → Alike q t A A' → (p e : ℕ) → p < q ^ t → check f q t A p e ≡ check f q t A' p e
    check_same A A' same p e lp =
        let pos = rows_positive s in
        moment_same f laws f.point (λ i. uncoupled f q A i p) (λ i. uncoupled f q A' i p) (q * t) e
        (λ i li. uncoupled_same f laws q A A' i p (same i p li lp)
        (λ o. same (companion_node q i p) (companion_place q i p) (companion_bound q pos i p t li) (companion_place_bound q pos i p t li lp)))

    pub checks_same : (m : ℕ) (A A' : ℕ → ℕ → E) → Alike q t A A' → Checks f q t m A → Checks f q t m A'
    checks_same m A A' same checks p e lp le = sym (check_same A A' same p e lp) ∙ checks p e lp le

    -- a codeword, by the symbols of its words
    pub codeword : (ws : List ℕ) → Codes f ws (q * t * q ^ t) → Checks f q t q (symbols f (q ^ t) ws) → Codeword f q t (laid (q ^ t) ws)
    codeword ws codes checks =
        let all = codes_laid ws codes in
        record { codes = all; checks = checks_same q (symbols f (q ^ t) ws) (elements f (laid (q ^ t) ws)) (symbols_elements ws all) checks }

    pub codeword_checks : (ws : List ℕ) → Codeword f q t (laid (q ^ t) ws) → Checks f q t q (symbols f (q ^ t) ws)
    codeword_checks ws c =
        checks_same q (elements f (laid (q ^ t) ws)) (symbols f (q ^ t) ws) (λ i p li lp. sym (symbols_elements ws c.codes i p li lp)) c.checks

    -- a check over all nodes, none being listed
    pub check_all : (nodes : List ℕ) → nodes ≡ [] → (A : ℕ → ℕ → E) (p e : ℕ) → moment f f.point (known f q (among nodes) A p) (q * t) e ≡ check f q t A p e
    check_all nodes is A p e = ap (λ js. moment f f.point (known f q (among js) A p) (q * t) e) is
