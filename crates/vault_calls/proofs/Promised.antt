-- What repair, recover and read answer, and with it what they promise after every list of calls. Assumes nothing.
use Rattle.std.proofs.Common.{◌≡◌, ℕ, List, length, Some, Err, Result, sym, refl, subst}
use Rattle.field.specs.Field.{Arith, Laws}
use Rattle.rack.specs.Model.{Model}
use Rattle.refusal.specs.declared.reason.Refusal.{Refusal}
use Rattle.shape.proofs.Bounds.{Shaped, places_positive}
use Rattle.vault_calls.specs.declared.answer.Answer.{Answer}
use Rattle.vault_calls.specs.Calls.{Repair, Recover, Read, NotRepaired, NotRecovered, repair_refusal, recover_refusal, read_refusal}
use Rattle.vault_calls.specs.History.{RecoverPromise, RepairPromise, ReadPromise}
use Rattle.vault_calls.proofs.Codewords.{only_codeword, only_help}
use Rattle.vault_calls.proofs.Promises.{recover_promise, repair_promise, read_promise}

module _ {E : Type 0} (f : Arith E) (laws : Laws f) (q t : ℕ) (s : Shaped q t) (m : Model) where
  module _ (i space : ℕ) where
    pub repaired : (r : Result Answer Refusal) (m' : Model) → Repair f q t m i space r m' → Repair f q t m i space r m' × RepairPromise f q t m i space r m'
    repaired r m' call = (call, repair_promise f q t (only_help f laws q t s) (only_codeword f laws q t s) m i space r m' call)

    -- a test that refuses a repair leaves the rack as it is
    pub repair_refused : (e : Refusal) → repair_refusal f q t m i space ≡ Some e → Repair f q t m i space (Err e) m × RepairPromise f q t m i space (Err e) m
    repair_refused e is = repaired (Err e) m (subst (λ o. NotRepaired f q t m i e m o) (sym is) (refl, refl))

  module _ (space : ℕ) where
    pub recovered : (r : Result Answer Refusal) (m' : Model) → Recover f q t m space r m' → Recover f q t m space r m' × RecoverPromise f q t m space r m'
    recovered r m' call = (call, recover_promise f q t (only_help f laws q t s) (only_codeword f laws q t s) m space r m' call)

    -- a test that refuses a recover leaves the rack as it is
    pub recover_refused : (e : Refusal) → recover_refusal f q t m space ≡ Some e → Recover f q t m space (Err e) m × RecoverPromise f q t m space (Err e) m
    recover_refused e is = recovered (Err e) m (subst (λ o. NotRecovered f q t m e m o) (sym is) (refl, refl))

  module _ (start : ℕ) (buffer : List ℕ) where
    pub has_read : (r : Result Answer Refusal) (m' : Model) (buffer' : List ℕ) → Read q t m start buffer r m' buffer' → Read q t m start buffer r m' buffer' × ReadPromise f q t m start r buffer'
    has_read r m' buffer' call = (call, read_promise f q t (only_help f laws q t s) (only_codeword f laws q t s) (places_positive s) m start buffer r m' buffer' call)

    -- a test that refuses a read leaves the rack and the buffer as they are
    pub read_refused : (e : Refusal) → read_refusal q t m start (length buffer) ≡ Some e → Read q t m start buffer (Err e) m buffer × ReadPromise f q t m start (Err e) buffer
    read_refused e is = has_read (Err e) m buffer (is, refl, refl)
