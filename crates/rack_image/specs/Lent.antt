-- What a call on lent images leaves in the bytes, and why it is refused. Assumes nothing.
use Rattle.std.specs.Prelude.{◌≡◌, ℕ, true, false, ◌⊎◌, List, length, Err}
use Rattle.refusal.specs.declared.reason.Refusal.{Refusal}
use Rattle.refusal.specs.declared.reason.Refusal.TheVariants.{NoSuchPlace}
use Rattle.rack.specs.Model.{fitting}
use Rattle.rack_image.specs.Image.{Formed, ImageRefused, ImagesRefused, image, opened, rooms_fit}
use Rattle.rack.specs.Filled.{sized, listed, filled, movable, moved_from, drawn}

-- bytes that were an image in which the words fit the node are afterwards the image with that node filled
pub record NodeFilled (nodes places : ℕ) (bytes : List ℕ) (node : ℕ) (words after : List ℕ) : Type 0 where
  pub counts : fitting nodes places ≡ true
  pub formed : Formed nodes places bytes
  pub fits : sized (opened places bytes) node (length words) ≡ true
  pub left : after ≡ image (filled (opened places bytes) node (listed words))

-- the image of a node to fill is refused, or the node or the number of words does not fit it
abbrev pub FillRefused : ℕ → ℕ → List ℕ → ℕ → ℕ → Refusal → Type 0
FillRefused nodes places bytes node words e =
    ImageRefused nodes places bytes e
    ⊎ ((fitting nodes places ≡ true) × Formed nodes places bytes × (sized (opened places bytes) node words ≡ false) × (e ≡ NoSuchPlace))

-- the images of two rooms after a standing node of the first was moved to a node of the second
pub record NodeMoved (n m places : ℕ) (first second : List ℕ) (node target : ℕ) (first' second' : List ℕ) : Type 0 where
  pub counts : rooms_fit n m places ≡ true
  pub formed : Formed n places first × Formed m places second
  pub fits : movable (opened places first) node (opened places second) target ≡ true
  pub stood : (opened places first).flags node ≡ true
  pub source : first' ≡ image (moved_from (opened places first) node)
  pub sink : second' ≡ image (filled (opened places second) target ((opened places first).words node))

-- an image of two rooms is refused, or a node does not exist, or the node to move is out
abbrev pub MoveRefused : ℕ → ℕ → ℕ → List ℕ → List ℕ → ℕ → ℕ → Refusal → Type 0
MoveRefused n m places first second node target e =
    ImagesRefused n m places first second e
    ⊎ ((rooms_fit n m places ≡ true) × Formed n places first × Formed m places second
    × (Err e ≡ drawn (movable (opened places first) node (opened places second) target) ((opened places first).flags node)))
