-- What the lent bytes of two rooms hold once the racks over them are let go. Assumes nothing.
use Rattle.std.proofs.Common.{◌≡◌, ℕ, true, cond, List, length, Ok, Err, Result, sym, refl, ap, ◌∙◌, ap₂, inr, MatchResult}
use Rattle.refusal.specs.declared.reason.Refusal.{Refusal}
use Rattle.rack.specs.Model.{Model, done}
use Rattle.rack.specs.Filled.{sized, listed, filled, after_fill}
use Rattle.rack.proofs.Models.{done_was_ok, done_was_err}
use Rattle.rack_image.specs.declared.image.ImageRack.{ImageRack}
use Rattle.rack_image.specs.Image.{image, image_model, opened, Formed, rooms_fit}
use Rattle.rack_image.proofs.ImageCounts.{count_is}
use Rattle.rack_image.proofs.LentImages.{lent_before, lent_after, lent_counts, few_first, few_second}
use Rattle.rack_pair.specs.Pair.{paired, first_room, second_room}
use Rattle.rack_pair.specs.LentRooms.{opened_pair, RoomsFilled, RoomsRefused}
use Rattle.rack_pair.proofs.PairImages.{first_image, second_image}

-- a node of the two rooms as one was filled, or not: a and b are the rooms as they were lent, a' and b' later
module _ (a a' b b' : Model) (xs xs' ys ys' ws : List ℕ) (n m w i : ℕ) (fit : rooms_fit n m w ≡ true) (formed : Formed n w xs × Formed m w ys) (was_a : a ≡ opened w xs) (was_b : b ≡ opened w ys) (na : a'.nodes ≡ n) (nb : b'.nodes ≡ m) (pa : a'.places ≡ w) (pb : b'.places ≡ w) (x : xs ≡ image a) (x' : xs' ≡ image a') (y : ys ≡ image b) (y' : ys' ≡ image b') (left : paired a' b' ≡ after_fill (paired a b) i ws) where
  as_opened : paired a b ≡ opened_pair w xs ys
  as_opened = ap₂ paired was_a was_b

  count_a : a.nodes ≡ n
  count_a = ap (λ z. z.nodes) was_a ∙ count_is n w xs (few_first n m w fit) formed.0.long

  count_b : b.nodes ≡ m
  count_b = ap (λ z. z.nodes) was_b ∙ count_is m w ys (few_second n m w fit) formed.1.long

  -- the images of the two rooms that are z as one
  front_of : (z : Model) → paired a' b' ≡ z → xs' ≡ image (first_room n z)
  front_of z e = x' ∙ first_image a' b' z (pa ∙ sym pb) e ∙ ap (λ k. image (first_room k z)) na

  back_of : (z : Model) → paired a' b' ≡ z → ys' ≡ image (second_room n m z)
  back_of z e = y' ∙ second_image a' b' z (pa ∙ sym pb) e ∙ ap₂ (λ k l. image (second_room k l z)) na nb

  same_places : a.places ≡ b.places
  same_places = ap (λ z. z.places) was_a ∙ ap (λ z. z.places) (sym was_b)

  pub rooms_cases : (r : Result (Unit {0}) Refusal) → r ≡ done (sized (paired a b) i (length ws))
      → MatchResult r (λ _. RoomsFilled n m w xs ys i ws xs' ys') (λ e. (xs' ≡ xs) × (ys' ≡ ys) × RoomsRefused n m w xs ys i (length ws) e)
  rooms_cases (Ok u) was =
      let yes' = done_was_ok (sized (paired a b) i (length ws)) was in
      let now' = left ∙ ap (λ t. cond t (filled (paired a b) i (listed ws)) (paired a b)) yes' ∙ ap (λ z. filled z i (listed ws)) as_opened in
      record {
        counts = fit;
        formed = formed;
        fits = ap (λ z. sized z i (length ws)) (sym as_opened) ∙ yes';
        front = front_of (filled (opened_pair w xs ys) i (listed ws)) now';
        back = back_of (filled (opened_pair w xs ys) i (listed ws)) now';
      }
  rooms_cases (Err e) was =
      let no' = done_was_err (sized (paired a b) i (length ws)) e was in
      let now' = left ∙ ap (λ t. cond t (filled (paired a b) i (listed ws)) (paired a b)) no'.0 in (
        front_of (paired a b) now' ∙ ap (λ k. image (first_room k (paired a b))) (sym count_a) ∙ sym (first_image a b (paired a b) same_places refl) ∙ sym x,
        back_of (paired a b) now' ∙ ap₂ (λ k l. image (second_room k l (paired a b))) (sym count_a) (sym count_b) ∙ sym (second_image a b (paired a b) same_places refl) ∙ sym y,
        inr (fit, formed, ap (λ z. sized z i (length ws)) (sym as_opened) ∙ no'.0, no'.1),
      )

-- the same of racks over the bytes
module _ (s t u v : ImageRack) (n m w : ℕ) (xs xs' ys ys' ws : List ℕ) (i : ℕ) (taken : (rooms_fit n m w ≡ true) × Formed n w xs × Formed m w ys) (lent_x : s.bytes.now ≡ xs) (held_x : image_model s ≡ opened w xs) (lent_y : u.bytes.now ≡ ys) (held_y : image_model u ≡ opened w ys) where
  pub lent_rooms : (length t.bytes.now ≡ length s.bytes.now) × (t.places ≡ s.places) × ((k : ℕ) → Formed k s.places s.bytes.now → Formed k t.places t.bytes.now) → (length v.bytes.now ≡ length u.bytes.now) × (v.places ≡ u.places) × ((k : ℕ) → Formed k u.places u.bytes.now → Formed k v.places v.bytes.now) → xs' ≡ t.bytes.now → ys' ≡ v.bytes.now → paired (image_model t) (image_model v) ≡ after_fill (paired (image_model s) (image_model u)) i ws
      → (r : Result (Unit {0}) Refusal) → r ≡ done (sized (paired (image_model s) (image_model u)) i (length ws))
      → MatchResult r (λ _. RoomsFilled n m w xs ys i ws xs' ys') (λ e. (xs' ≡ xs) × (ys' ≡ ys) × RoomsRefused n m w xs ys i (length ws) e)
  lent_rooms stays_x stays_y ends_x ends_y left r was =
      let few_x = few_first n m w taken.0 in
      let few_y = few_second n m w taken.0 in
      let counts_x = lent_counts s n w xs few_x taken.1 lent_x held_x t stays_x.0 stays_x.1 in
      let counts_y = lent_counts u m w ys few_y taken.2 lent_y held_y v stays_y.0 stays_y.1 in
      rooms_cases (image_model s) (image_model t) (image_model u) (image_model v) xs xs' ys ys' ws n m w i taken.0 (taken.1, taken.2) held_x held_y counts_x.0 counts_y.0 counts_x.1 counts_y.1
      (lent_before s n w xs few_x taken.1 lent_x held_x) (ends_x ∙ lent_after s n w xs few_x taken.1 lent_x held_x t stays_x.2)
      (lent_before u m w ys few_y taken.2 lent_y held_y) (ends_y ∙ lent_after u m w ys few_y taken.2 lent_y held_y v stays_y.2)
      left r was
