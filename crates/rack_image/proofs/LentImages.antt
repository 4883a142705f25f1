-- What lent bytes hold when the rack over them has been used. Assumes nothing.
use Rattle.std.proofs.Common.{◌≡◌, ℕ, ◌*◌, ◌≤◌, true, List, length, sym, ap, ◌∙◌, subst, arith}
use Rattle.std.proofs.lemmas.Grind.{common_steps}
use Rattle.rack_image.specs.declared.image.ImageRack.{ImageRack}
use Rattle.rack_image.specs.Image.{image, image_model, record_length, opened, Formed, rooms_fit}
use Rattle.rack_image.proofs.Encoding.{formed_image}
use Rattle.rack_image.proofs.ImageCounts.{count_is}

-- s is the rack on an image of n nodes as it was lent
module _ (s : ImageRack) (n w : ℕ) (bs : List ℕ) (few : n ≤ 16) (formed : Formed n w bs) (lent : s.bytes.now ≡ bs) (held : image_model s ≡ opened w bs) where
  was_formed : Formed n s.places s.bytes.now
  was_formed = subst (λ x. Formed n x s.bytes.now) (sym (ap (λ m. m.places) held)) (subst (Formed n w) (sym lent) formed)

  pub lent_before : bs ≡ image (image_model s)
  lent_before = sym lent ∙ formed_image n s.places s.bytes.now s.meters few was_formed

  -- t is the same rack later
  module _ (t : ImageRack) where
    pub lent_after : ((k : ℕ) → Formed k s.places s.bytes.now → Formed k t.places t.bytes.now) → t.bytes.now ≡ image (image_model t)
    lent_after stays = formed_image n t.places t.bytes.now t.meters few (stays n was_formed)

    -- it has the counts that it was opened with
    pub lent_counts : length t.bytes.now ≡ length s.bytes.now → t.places ≡ s.places → ((image_model t).nodes ≡ n) × (t.places ≡ w)
    lent_counts long same =
        let p : t.places ≡ w = same ∙ ap (λ z. z.places) held in
        (count_is n t.places t.bytes.now few (long ∙ ap length lent ∙ formed.long ∙ ap (λ q. n * record_length q) (sym p)), p)

-- each room of two that fit has few nodes
pub few_first : (n m w : ℕ) → rooms_fit n m w ≡ true → n ≤ 16
few_first n m w fit = grind (arith, common_steps)

pub few_second : (n m w : ℕ) → rooms_fit n m w ≡ true → m ≤ 16
few_second n m w fit = grind (arith, common_steps)
