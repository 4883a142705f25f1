-- One symbol written into a list of words. Assumes nothing.
use Rattle.std.proofs.Common.{ℕ, ◌+◌, ◌*◌, ◌/◌, ◌%◌, ◌<◌, ◌≤◌, ◌≢◌, ◌⊎◌, List, length, set, sym, ap, ◌∙◌, inl, inr, arith}
use lib.Arith.{digits_div, digits_mod}
use Rattle.std.proofs.lemmas.List.{get_or-set_same, get_or-set_other}
use Rattle.field.specs.Field.{Arith, Laws}
use Rattle.code.specs.Reading.{read, symbols}
use Rattle.code.specs.Steps.{Sound, Wrote}
use Rattle.code.proofs.Places.{spot_within}
use Rattle.code.proofs.Words.{read_written}

-- no two places of nodes are the same
pub spots_apart : (places i p j r : ℕ) → p < places → r < places → (j ≢ i) ⊎ (r ≢ p) → j * places + r ≢ i * places + p
spots_apart places i p j r lp lr (inl ne) e = ne (sym (digits_div j lr) ∙ ap (λ k. k / places) e ∙ digits_div i lp)
spots_apart places i p j r lp lr (inr ne) e = ne (sym (digits_mod j lr) ∙ ap (λ k. k % places) e ∙ digits_mod i lp)

module _ {E : Type 0} (f : Arith E) where
  pub sound_both : (used : ℕ) (ws ws' ws'' : List ℕ) → Sound f used ws ws' → Sound f used ws' ws'' → Sound f used ws ws''
  sound_both used ws ws' ws'' a b = (b.0 ∙ a.0, λ c. b.1 (a.1 c))

  module _ (laws : Laws f) where
    module _ (n places : ℕ) (ws : List ℕ) (room : n * places ≤ length ws) (i p : ℕ) (li : i < n) (lp : p < places) (a : E) where
      pub wrote : Wrote places i p a (symbols f places ws) (symbols f places (set ws (i * places + p) (f.code a)))
      wrote = record {
        here = ap (read f) (get_or-set_same ws (i * places + p) (f.code a) 0 (let l = spot_within n places i p li lp in omega arith)) ∙ read_written f laws a;
        other = λ j r lr ne. ap (read f) (get_or-set_other ws (i * places + p) (j * places + r) (f.code a) 0 (spots_apart places i p j r lp lr ne));
      }
