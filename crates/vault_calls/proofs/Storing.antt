-- What a store leaves, from what its steps leave. Assumes nothing.
use Rattle.std.proofs.Common.{◌≡◌, ℕ, ◌*◌, ◌^◌, ◌<◌, true, false, cond, ◌&&◌, ltb, List, length, Some, sym, ap, ◌∙◌, ap₂, arith}
use Rattle.std.proofs.lemmas.Bool.{lt-ltb}
use Rattle.shape.specs.Outages.{listed, among}
use Rattle.shape.proofs.Listed.{among_listed}
use Rattle.field.specs.Field.{Arith}
use Rattle.code.specs.Code.{laid}
use Rattle.code.specs.Calls.{encode_refusal}
use Rattle.rack.specs.Model.{Model}
use Rattle.rack.proofs.Models.{both}
use Rattle.refusal.specs.declared.reason.Refusal.{Refusal}
use Rattle.refusal.specs.declared.reason.Refusal.TheVariants.{Size}
use Rattle.vault_calls.specs.Calls.{wrong_size, Now, store_refusal}
use Rattle.vault_calls.specs.Steps.{written_below}
use Rattle.vault_calls.proofs.Refusing.{right_size, first_pass, first_here}

module _ (q t : ℕ) (m m' : Model) (nodes s : List ℕ) (size : wrong_size q t m ≡ false) (list : nodes ≡ listed (λ i. true) (q * t))
    (wrote : m' ≡ written_below m (among nodes) (laid (q ^ t) s) (q * t)) where
  every_one : (i : ℕ) → i < q * t → (ltb i (q * t) && among nodes i) ≡ true
  every_one i l = both (ltb i (q * t)) (among nodes i) (lt-ltb i (q * t) l) (ap (λ (x : List ℕ). among x i) list ∙ among_listed (λ i. true) (q * t) i l)

  -- every node stands with the words of the space
  pub stored_now : Now q t m (λ i. true) (laid (q ^ t) s) m.meters m'
  stored_now = record {
    same_nodes = ap (λ x. x.nodes) wrote;
    same_places = ap (λ x. x.places) wrote;
    has_flags = λ i l. ap (λ x. x.flags i) wrote ∙ ap (λ b. cond b true (m.flags i)) (every_one i l);
    has_words = λ i p l lp.
        ap (λ x. x.words i p) wrote
        ∙ ap₂ (λ b d. cond b (cond d (laid (q ^ t) s i p) (m.words i p)) (m.words i p)) (every_one i l) (lt-ltb p m.places (omega (arith, (right_size q t m size).1)));
    has_meters = λ i l. ap (λ x. x.meters i) wrote;
  }

-- why a store was refused
module _ {E : Type 0} (f : Arith E) (q t : ℕ) (m : Model) (message ws : List ℕ) (e : Refusal) where
  pub store_size : wrong_size q t m ≡ true → e ≡ Size → store_refusal f q t m message (length ws) ≡ Some e
  store_size bad is = first_here (wrong_size q t m) Size _ bad ∙ ap Some (sym is)

  pub store_encode : wrong_size q t m ≡ false → encode_refusal f q t message ws ≡ Some e → store_refusal f q t m message (length ws) ≡ Some e
  store_encode size refused = first_pass (wrong_size q t m) Size _ size ∙ refused
