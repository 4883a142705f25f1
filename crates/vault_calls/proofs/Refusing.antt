-- The first refusal that applies. Assumes nothing.
use Rattle.std.proofs.Common.{◌≡◌, ℕ, ◌*◌, ◌^◌, Bool, true, false, not, ◌&&◌, eqb, Some, None, Option, refl, ap, ap₂, arith}
use Rattle.std.proofs.lemmas.Bool.{and_parts, eqb-true, eq-eqb, not-false}
use Rattle.refusal.specs.First.{first}
use Rattle.refusal.specs.declared.reason.Refusal.{Refusal}
use Rattle.rack.specs.Model.{Model}
use Rattle.vault_calls.specs.Calls.{wrong_size}

-- where nothing is refused, no test applies
pub first_none : (b : Bool) (e : Refusal) (rest : Option Refusal) → first b e rest ≡ None → (b ≡ false) × (rest ≡ None)
first_none true e rest p = let z : ◌≡◌ {A = ℕ} 0 1 = cc in absurd (omega arith)
first_none false e rest p = (refl, p)

-- a test that does not apply is passed over
pub first_pass : (b : Bool) (e : Refusal) (rest : Option Refusal) → b ≡ false → first b e rest ≡ rest
first_pass b e rest p = ap (λ x. first x e rest) p

-- one that applies decides
pub first_here : (b : Bool) (e : Refusal) (rest : Option Refusal) → b ≡ true → first b e rest ≡ Some e
first_here b e rest p = ap (λ x. first x e rest) p

module _ (q t : ℕ) (m : Model) where
  -- the counts are the shape's
  pub right_size : wrong_size q t m ≡ false → (m.nodes ≡ q * t) × (m.places ≡ q ^ t)
  right_size e =
      let a = and_parts (eqb m.nodes (q * t)) (eqb m.places (q ^ t)) (not-false (eqb m.nodes (q * t) && eqb m.places (q ^ t)) e) in
      (eqb-true m.nodes (q * t) a.0, eqb-true m.places (q ^ t) a.1)

  pub sized : m.nodes ≡ q * t → m.places ≡ q ^ t → wrong_size q t m ≡ false
  sized a b = ap₂ (λ x y. not (x && y)) (eq-eqb m.nodes (q * t) a) (eq-eqb m.places (q ^ t) b)
