-- Words that pass the tests of a codeword are one, and the only one that carries its message. Assumes nothing.
use Rattle.std.proofs.Common.{◌≡◌, ℕ, ◌-◌, ◌*◌, ◌^◌, ◌<◌, true, eqb, ltb, List, sym, ◌∙◌}
use Rattle.code.specs.Code.{Words, laid, check, elements, Codeword, Carries, Encodes}
use Rattle.code.proofs.Words.{zero_from}
use Rattle.field.specs.Field.{Arith, Laws}
use Rattle.shape.specs.Outages.{count}
use Rattle.shape.proofs.Bounds.{Shaped, shape_parts}
use Rattle.std.proofs.lemmas.Bool.{eqb-true, leb-true, ltb-true, not-false}
use Rattle.vault_calls.proofs.Codewords.{only_codeword}
use Rattle.worked.proofs.Tests.{all, passed, everywhere_at, are_codes, codeword_tests, encodes_tests, parity}

module _ {E : Type 0} (f : Arith E) (laws : Laws f) (q t : ℕ) where
  pub code_at : (w : Words) → are_codes f q t w ≡ true → (i p : ℕ) → i < q * t → p < q ^ t → w i p < f.size
  code_at w e i p li lp = ltb-true (w i p) f.size (everywhere_at (q * t) (q ^ t) (λ i p. ltb (w i p) f.size) e i p li lp)

  module _ (w : Words) (e : all (codeword_tests f q t w) ≡ true) where
    pub shape_of : Shaped q t
    shape_of = shape_parts q t (passed (codeword_tests f q t w) e).0

    pub codeword_of : Codeword f q t w
    codeword_of =
        let h = passed (codeword_tests f q t w) e in
        record {
          codes = code_at w h.1.0;
          checks = λ p e lp le.
              zero_from f laws (check f q t (elements f w) p e)
              (eqb-true (f.code (check f q t (elements f w) p e)) 0 (everywhere_at (q ^ t) q (λ p e. eqb (f.code (check f q t (elements f w) p e)) 0) h.1.1.0 p e lp le));
        }

  pub encodes_from : (w : Words) (message : List ℕ) → all (encodes_tests f q t w message) ≡ true → Encodes f q t message w
  encodes_from w message e =
      let h = passed (encodes_tests f q t w message) e in
      let cw : Codeword f q t w = codeword_of w h.0 in
      let carries : Carries f q t w message
      = λ i p li lp. eqb-true (w i p) (laid (q ^ t) message i p) (everywhere_at (q * (t - 1)) (q ^ t) (λ i p. eqb (w i p) (laid (q ^ t) message i p)) h.1.1.0 i p li lp) in
      record {
        codeword = cw;
        carries = carries;
        only = λ v cv also.
            only_codeword f laws q t (shape_of w h.0) v w (parity f q t) (leb-true (count (parity f q t) (q * t)) q h.1.0) cv cw
            (λ i p li lp x. let l = ltb-true i (q * (t - 1)) (not-false (ltb i (q * (t - 1))) x) in also i p l lp ∙ sym (carries i p l lp));
      }
