-- A lent rack at one time and at another. Assumes nothing.
use Rattle.std.proofs.Common.{◌≡◌, ℕ, ◌^◌, Bool, refl, sym, ◌∙◌, subst}
use Rattle.std.specs.Borrow.{MutBor}
use Rattle.rack.specs.Model.{Model, Keeping}
use Rattle.shape.specs.declared.dimensions.Shape.{Shape}
use Rattle.vault_calls.specs.Steps.{StaysLent, Decides}

module _ {S : Type 0} {model : S → Model} {kept : S → S → Type 0} (keeping : Keeping model kept) where
  -- at the same time it is the same
  pub lent_same : (s : Shape) (r : MutBor S) → StaysLent kept s r s r
  lent_same s r = record { same_shape = refl; same_rack = refl; stays = keeping.same r.now }

  -- and from one time over a second to a third
  pub lent_joined : {s s' s'' : Shape} {r r' r'' : MutBor S} → StaysLent kept s r s' r' → StaysLent kept s' r' s'' r'' → StaysLent kept s r s'' r''
  lent_joined p q = record { same_shape = q.same_shape ∙ p.same_shape; same_rack = q.same_rack ∙ p.same_rack; stays = keeping.joined _ _ _ p.stays q.stays }

-- what a test tells of a shape's places it tells of the same shape's
pub told_at : {pre : ℕ → Type 0} {post : ℕ → Bool → Type 0} {s s' : Shape} {takes : ℕ → Bool} → s' ≡ s → Decides pre post (s.q ^ s.t) takes → Decides pre post (s'.q ^ s'.t) takes
told_at {pre} {post} {s} {s'} {takes} e h = subst (λ x. Decides pre post (x.q ^ x.t) takes) (sym e) h
