-- What a call on the lent images of two rooms leaves in the bytes, and why it is refused. Assumes nothing.
use Rattle.std.specs.Prelude.{◌≡◌, ℕ, true, false, ◌⊎◌, List, length}
use Rattle.refusal.specs.declared.reason.Refusal.{Refusal}
use Rattle.refusal.specs.declared.reason.Refusal.TheVariants.{NoSuchPlace}
use Rattle.rack.specs.Model.{Model}
use Rattle.rack.specs.Filled.{sized, listed, filled}
use Rattle.rack_image.specs.Image.{Formed, ImagesRefused, image, opened, rooms_fit}
use Rattle.rack_pair.specs.Pair.{paired, first_room, second_room}

-- the rack that the images of two rooms are as one
abbrev pub opened_pair : ℕ → List ℕ → List ℕ → Model
opened_pair places first second = paired (opened places first) (opened places second)

-- the images of two rooms after a node of the two was filled: each holds its part of the rack
pub record RoomsFilled (n m places : ℕ) (first second : List ℕ) (node : ℕ) (words first' second' : List ℕ) : Type 0 where
  pub counts : rooms_fit n m places ≡ true
  pub formed : Formed n places first × Formed m places second
  pub fits : sized (opened_pair places first second) node (length words) ≡ true
  pub front : first' ≡ image (first_room n (filled (opened_pair places first second) node (listed words)))
  pub back : second' ≡ image (second_room n m (filled (opened_pair places first second) node (listed words)))

-- an image of two rooms is refused, or the node or the number of words does not fit the two
abbrev pub RoomsRefused : ℕ → ℕ → ℕ → List ℕ → List ℕ → ℕ → ℕ → Refusal → Type 0
RoomsRefused n m places first second node words e =
    ImagesRefused n m places first second e
    ⊎ ((rooms_fit n m places ≡ true) × (Formed n places first × Formed m places second) × (sized (opened_pair places first second) node words ≡ false) × (e ≡ NoSuchPlace))
