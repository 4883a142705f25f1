-- What lent bytes hold once the rack over them is let go. Assumes nothing.
use Rattle.std.proofs.Common.{◌≡◌, ℕ, Bool, true, false, cond, ◌&&◌, List, length, Ok, Err, Result, sym, ap, ◌∙◌, ap₂, inr, arith, MatchResult}
use Rattle.std.proofs.lemmas.Bool.{and_from}
use Rattle.std.proofs.lemmas.Grind.{common_steps}
use Rattle.refusal.specs.declared.reason.Refusal.{Refusal}
use Rattle.rack_image.specs.declared.image.ImageRack.{ImageRack}
use Rattle.rack.specs.Model.{Model, fitting, done}
use Rattle.rack_image.specs.Image.{image, image_model, opened, Formed, rooms_fit}
use Rattle.rack.proofs.Models.{done_was_ok, done_was_err, fitting_parts}
use Rattle.rack_image.proofs.LentImages.{lent_before, lent_after, few_first, few_second}
use Rattle.rack.specs.Filled.{sized, listed, filled, drawn, movable, moved_from, after_fill, after_move_from, after_move_to}
use Rattle.rack_image.specs.Lent.{NodeFilled, FillRefused, NodeMoved, MoveRefused}

-- a node of lent bytes was filled, or not
pub fill_cases : (m m' : Model) (bs bs' ws : List ℕ) (n w i : ℕ) (r : Result (Unit {0}) Refusal) → fitting n w ≡ true → Formed n w bs → m ≡ opened w bs → bs ≡ image m → bs' ≡ image m' → r ≡ done (sized m i (length ws)) → m' ≡ after_fill m i ws
    → MatchResult r (λ _. NodeFilled n w bs i ws bs') (λ e. (bs' ≡ bs) × FillRefused n w bs i (length ws) e)
fill_cases m m' bs bs' ws n w i (Ok u) fit formed held b b' was left =
    let yes' = done_was_ok (sized m i (length ws)) was in
    record {
      counts = fit;
      formed = formed;
      fits = ap (λ z. sized z i (length ws)) (sym held) ∙ yes';
      left = b' ∙ ap image (left ∙ ap (λ t. cond t (filled m i (listed ws)) m) yes' ∙ ap (λ z. filled z i (listed ws)) held);
    }
fill_cases m m' bs bs' ws n w i (Err e) fit formed held b b' was left =
    let no' = done_was_err (sized m i (length ws)) e was in (
      b' ∙ ap image (left ∙ ap (λ t. cond t (filled m i (listed ws)) m) no'.0) ∙ sym b,
      inr (fit, formed, ap (λ z. sized z i (length ws)) (sym held) ∙ no'.0, no'.1),
    )

drawn_was_ok : (fits stands : Bool) → Ok tt ≡ drawn fits stands → (fits ≡ true) × (stands ≡ true)
drawn_was_ok fits stands e = (grind (arith, common_steps), grind (arith, common_steps))

-- nothing goes where the answer is a refusal
drawn_was_err : (fits stands : Bool) (e : Refusal) → Err e ≡ drawn fits stands → (fits && stands) ≡ false
drawn_was_err fits stands e was = grind (arith, common_steps)

-- a node of one room was moved to the other, or not
module _ (a a' b b' : Model) (xs xs' ys ys' : List ℕ) (n m w i j : ℕ) (fit : rooms_fit n m w ≡ true) (first : Formed n w xs) (second : Formed m w ys) (was_a : a ≡ opened w xs) (was_b : b ≡ opened w ys) (x : xs ≡ image a) (x' : xs' ≡ image a') (y : ys ≡ image b) (y' : ys' ≡ image b') (source : a' ≡ after_move_from a i b j) (sink : b' ≡ after_move_to a i b j) where
  pub move_cases : (r : Result (Unit {0}) Refusal) → r ≡ drawn (movable a i b j) (a.flags i)
      → MatchResult r (λ _. NodeMoved n m w xs ys i j xs' ys')
      (λ e. (xs' ≡ xs) × (ys' ≡ ys) × MoveRefused n m w xs ys i j e)
  move_cases (Ok u) was =
      let both = drawn_was_ok (movable a i b j) (a.flags i) was in
      let go = and_from (movable a i b j) (a.flags i) both.0 both.1 in
      record {
        counts = fit;
        formed = (first, second);
        fits = ap₂ (λ u v. movable u i v j) (sym was_a) (sym was_b) ∙ both.0;
        stood = ap (λ u. u.flags i) (sym was_a) ∙ both.1;
        source = x' ∙ ap image (source ∙ ap (λ t. cond t (moved_from a i) a) go ∙ ap (λ u. moved_from u i) was_a);
        sink = y' ∙ ap image (sink ∙ ap (λ t. cond t (filled b j (a.words i)) b) go ∙ ap₂ (λ u v. filled v j (u.words i)) was_a was_b);
      }
  move_cases (Err e) was =
      let stop = drawn_was_err (movable a i b j) (a.flags i) e was in (
        x' ∙ ap image (source ∙ ap (λ t. cond t (moved_from a i) a) stop) ∙ sym x,
        y' ∙ ap image (sink ∙ ap (λ t. cond t (filled b j (a.words i)) b) stop) ∙ sym y,
        inr (fit, first, second, was ∙ ap₂ (λ u v. drawn (movable u i v j) (u.flags i)) was_a was_b),
      )

-- the same of racks over the bytes: s was opened on bs and is t later, u was opened on ys and is v later
pub lent_filled : (s t : ImageRack) (n w : ℕ) (bs bs' ws : List ℕ) (i : ℕ) (r : Result (Unit {0}) Refusal) → (fitting n w ≡ true) × Formed n w bs → s.bytes.now ≡ bs → image_model s ≡ opened w bs → ((k : ℕ) → Formed k s.places s.bytes.now → Formed k t.places t.bytes.now) → bs' ≡ t.bytes.now → r ≡ done (sized (image_model s) i (length ws)) → image_model t ≡ after_fill (image_model s) i ws
    → MatchResult r (λ _. NodeFilled n w bs i ws bs') (λ e. (bs' ≡ bs) × FillRefused n w bs i (length ws) e)
lent_filled s t n w bs bs' ws i r taken lent held stays ends was left =
    let few = (fitting_parts n w taken.0).0 in
    fill_cases (image_model s) (image_model t) bs bs' ws n w i r taken.0 taken.1 held (lent_before s n w bs few taken.1 lent held) (ends ∙ lent_after s n w bs few taken.1 lent held t stays) was left

-- a node was moved from the rack that was s to the one that was u
module _ (s t u v : ImageRack) (n m w : ℕ) (xs xs' ys ys' : List ℕ) (i j : ℕ) (taken : (rooms_fit n m w ≡ true) × Formed n w xs × Formed m w ys) (lent_x : s.bytes.now ≡ xs) (held_x : image_model s ≡ opened w xs) (lent_y : u.bytes.now ≡ ys) (held_y : image_model u ≡ opened w ys) where
  pub lent_moved : ((k : ℕ) → Formed k s.places s.bytes.now → Formed k t.places t.bytes.now) → ((k : ℕ) → Formed k u.places u.bytes.now → Formed k v.places v.bytes.now) → xs' ≡ t.bytes.now → ys' ≡ v.bytes.now → image_model t ≡ after_move_from (image_model s) i (image_model u) j → image_model v ≡ after_move_to (image_model s) i (image_model u) j
      → (r : Result (Unit {0}) Refusal) → r ≡ drawn (movable (image_model s) i (image_model u) j) ((image_model s).flags i)
      → MatchResult r (λ _. NodeMoved n m w xs ys i j xs' ys')
      (λ e. (xs' ≡ xs) × (ys' ≡ ys) × MoveRefused n m w xs ys i j e)
  lent_moved stays_x stays_y ends_x ends_y source sink r was =
      let few_x = few_first n m w taken.0 in
      let few_y = few_second n m w taken.0 in
      move_cases (image_model s) (image_model t) (image_model u) (image_model v) xs xs' ys ys' n m w i j taken.0 taken.1 taken.2 held_x held_y
      (lent_before s n w xs few_x taken.1 lent_x held_x) (ends_x ∙ lent_after s n w xs few_x taken.1 lent_x held_x t stays_x)
      (lent_before u m w ys few_y taken.2 lent_y held_y) (ends_y ∙ lent_after u m w ys few_y taken.2 lent_y held_y v stays_y)
      source sink r was
