-- What two rooms hold is known from what they hold as one. Assumes nothing.
use Rattle.std.proofs.Common.{◌≡◌, ℕ, zero, suc, ◌+◌, ◌<◌, min, List, ◌∷◌, ◌++◌, sym, refl, ap, ◌∙◌, ap₂, arith}
use Rattle.rack.specs.Model.{Model}
use Rattle.rack_pair.specs.Pair.{paired, first_room, second_room}
use Rattle.rack_pair.proofs.Pairs.{front_is, back_at}
use Rattle.rack_image.specs.Image.{image, record_bytes, word_bytes, flag_byte, joined}

joined_same : (n : ℕ) (f g : ℕ → List ℕ) → ((k : ℕ) → k < n → f k ≡ g k) → joined n f ≡ joined n g
joined_same zero f g e = refl
joined_same (suc n) f g e = ap₂ (λ x y. x ++ y) (joined_same n f g (λ k h. e k (omega arith))) (e n (omega arith))

-- an image depends on the flags and words of the nodes alone
pub image_same : (m m' : Model) → m'.nodes ≡ m.nodes → m'.places ≡ m.places → ((k : ℕ) → k < m.nodes → m'.flags k ≡ m.flags k) → ((k : ℕ) → k < m.nodes → m'.words k ≡ m.words k) → image m' ≡ image m
image_same m m' a b f w =
    ap (λ k. joined k (record_bytes m')) a
    ∙ joined_same m.nodes (record_bytes m') (record_bytes m) (λ k h. λ j. 0xC5 ∷ 0x9D ∷ k ∷ flag_byte (f k h j) ∷ joined (b j) (λ p. word_bytes (w k h j p)))

-- the rooms of a and b as one are m
module _ (a b m : Model) (same : a.places ≡ b.places) (as_one : paired a b ≡ m) where
  places_are : m.places ≡ a.places
  places_are = let e : min a.places b.places ≡ a.places = omega arith in ap (λ z. z.places) (sym as_one) ∙ e

  pub first_image : image a ≡ image (first_room a.nodes m)
  first_image =
      image_same (first_room a.nodes m) a refl (sym places_are)
      (λ k h. sym (front_is a.nodes a.flags b.flags k h) ∙ ap (λ z. z.flags k) as_one)
      (λ k h. sym (front_is a.nodes a.words b.words k h) ∙ ap (λ z. z.words k) as_one)

  pub second_image : image b ≡ image (second_room a.nodes b.nodes m)
  second_image =
      image_same (second_room a.nodes b.nodes m) b refl (sym (places_are ∙ same))
      (λ k h. sym (back_at a.nodes a.flags b.flags k) ∙ ap (λ z. z.flags (a.nodes + k)) as_one)
      (λ k h. sym (back_at a.nodes a.words b.words k) ∙ ap (λ z. z.words (a.nodes + k)) as_one)
