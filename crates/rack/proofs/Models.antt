-- Facts on models that each rack's proof uses. Assumes nothing.
use Rattle.std.proofs.Common.{◌≡◌, ℕ, ◌+◌, ◌*◌, ◌<◌, ◌≤◌, Bool, true, false, ◌&&◌, Ok, Err, arith}
use Rattle.std.proofs.lemmas.Grind.{common_steps}
use Rattle.std.proofs.lemmas.Nat.{same_from_place, mul-add-lt}
use Rattle.refusal.specs.declared.reason.Refusal.{Refusal}
use Rattle.refusal.specs.declared.reason.Refusal.TheVariants.{NoSuchPlace}
use Rattle.rack.specs.Model.{Model, changed, within, with_flag, with_word, with_draw, got, after_get, after_put, after_flag, done, fitting}

-- models that agree everywhere are one
pub same_model : (m m' : Model) → m.nodes ≡ m'.nodes → m.places ≡ m'.places → ((k : ℕ) → m.flags k ≡ m'.flags k) → ((k q : ℕ) → m.words k q ≡ m'.words k q) → ((k : ℕ) → m.meters k ≡ m'.meters k) → m ≡ m'
same_model m m' a b f w e = λ j. record { nodes = a j; places = b j; flags = λ k. f k j; words = λ k q. w k q j; meters = λ k. e k j }

pub changed_same : {X : Type 0} (f : ℕ → X) (i : ℕ) (x : X) → changed f i x i ≡ x
changed_same f i x = grind (arith, common_steps)

pub changed_other : {X : Type 0} (f : ℕ → X) (i k : ℕ) (x : X) → (k ≡ i → ⊥) → changed f i x k ≡ f k
changed_other f i k x ne = grind (arith, common_steps)

-- setting what is there already changes nothing
pub changed_to_same : {X : Type 0} (f : ℕ → X) (i : ℕ) (x : X) → f i ≡ x → (k : ℕ) → changed f i x k ≡ f k
changed_to_same f i x e k = grind (arith, common_steps)

pub both : (a b : Bool) → a ≡ true → b ≡ true → (a && b) ≡ true
both a b p q = grind (arith, common_steps)

-- two places of a table of rows of w are one only if row and column are
pub place_row : (w i p k q : ℕ) → p < w → q < w → k * w + q ≡ i * w + p → k ≡ i
place_row w i p k q hp hq e = (same_from_place k q i p w hq hp e).0

pub place_column : (w i p k q : ℕ) → p < w → q < w → k * w + q ≡ i * w + p → q ≡ p
place_column w i p k q hp hq e = (same_from_place k q i p w hq hp e).1

pub place_below : (w n i p : ℕ) → i < n → p < w → i * w + p < n * w
place_below w n i p hi hp = omega (arith, mul-add-lt i w p n hi hp)

-- what the calls answer and leave where there is such a place
pub after_get_ok : (m : Model) (i p : ℕ) → i < m.nodes → p < m.places → m.flags i ≡ true → after_get m i p ≡ with_draw m i
after_get_ok m i p hi hp f = grind (arith, common_steps)

pub after_put_ok : (m : Model) (i p w : ℕ) → i < m.nodes → p < m.places → after_put m i p w ≡ with_word m i p w
after_put_ok m i p w hi hp = grind (arith, common_steps)

pub after_flag_ok : (m : Model) (i : ℕ) (b : Bool) → i < m.nodes → after_flag m i b ≡ with_flag m i b
after_flag_ok m i b hi = grind (arith, common_steps)

-- what counts that fit are below
pub fitting_parts : (n w : ℕ) → fitting n w ≡ true → (n ≤ 16) × (w ≤ 256)
fitting_parts n w e = (grind (arith, common_steps), grind (arith, common_steps))

-- what a read that went well says of the rack
pub got_was_ok : (m : Model) (i p w : ℕ) → Ok w ≡ got m i p → (i < m.nodes) × (p < m.places) × (m.flags i ≡ true) × (w ≡ m.words i p)
got_was_ok m i p w e = (grind (arith, common_steps), grind (arith, common_steps), grind (arith, common_steps), grind (arith, common_steps))

-- a read that was refused did not find a standing node and a place
pub got_was_err : (m : Model) (i p : ℕ) (e : Refusal) → Err e ≡ got m i p → i < m.nodes → p < m.places → m.flags i ≡ true → ⊥
got_was_err m i p e was hi hp up = grind (arith, common_steps)

pub done_was_ok : (b : Bool) → Ok tt ≡ done b → b ≡ true
done_was_ok b e = grind (arith, common_steps)

pub done_was_err : (b : Bool) (e : Refusal) → Err e ≡ done b → (b ≡ false) × (e ≡ NoSuchPlace)
done_was_err b e was = (grind (arith, common_steps), grind (arith, common_steps))
