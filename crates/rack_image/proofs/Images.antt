-- What a byte written to an image does to the rack that it stands for, and to an image as one. Assumes nothing.
use Rattle.std.proofs.Common.{◌≡◌, ℕ, ◌+◌, ◌*◌, ◌/◌, ◌%◌, ◌<◌, ◌≤◌, cond, ◌&&◌, eqb, List, length, get_or, set, refl, ap, ◌∙◌, ⊎_elim, arith}
use Rattle.std.proofs.lemmas.Grind.{common_steps}
use Rattle.std.proofs.lemmas.Nat.{div-mul-add, mod-mul-add, same_from_place}
use Rattle.std.proofs.lemmas.List.{get_or-set_same, get_or-set_other, length-set}
use Rattle.std.proofs.lemmas.Bool.{cases_eq}
use Rattle.rack.specs.Model.{with_flag, with_word}
use Rattle.rack.proofs.Models.{same_model, place_below}
use Rattle.rack_image.specs.Image.{decoded, record_length, wrong, wrong_at, Formed}

-- place j of record i is inside the image
pub inside : (n w i j : ℕ) (bs : List ℕ) → n * record_length w ≤ length bs → i < n → j < record_length w → i * record_length w + j < length bs
inside n w i j bs e hi hj = omega (arith, place_below (record_length w) n i j hi hj)

-- from place 4 on nothing is wrong
pub word_right : (i j b : ℕ) → 4 ≤ j → wrong i j b ≡ 0
word_right i j b h = grind (arith, common_steps)

module _ (n w : ℕ) (bs : List ℕ) (i j b : ℕ) (long : n * record_length w ≤ length bs) (hi : i < n) (hj : j < record_length w) where
  -- place q of record k once place j of record i was written
  pub byte_at : (k q : ℕ) → q < record_length w → get_or (set bs (i * record_length w + j) b) (k * record_length w + q) 0 ≡ cond (eqb k i && eqb q j) b (get_or bs (k * record_length w + q) 0)
  byte_at k q hq =
      let there = inside n w i j bs long hi hj in
      let same = same_from_place k q i j (record_length w) hq hj in
      grind (arith, common_steps)

  -- an image stays one if the byte written is right at its place
  pub formed_set : (m : ℕ) → Formed m w bs → wrong i j b ≡ 0 → b < 256 → Formed m w (set bs (i * record_length w + j) b)
  formed_set m f ok hb =
      let at = i * record_length w + j in
      let there = inside n w i j bs long hi hj in
      record {
        long = length-set bs at b ∙ f.long;
        right = λ k h.
            ⊎_elim
            (λ e. ap (wrong_at w (set bs at b)) e ∙ ap (λ x. wrong (at / record_length w) (at % record_length w) x) (get_or-set_same bs at b 0 there)
            ∙ ap (λ x. wrong x (at % record_length w) b) (div-mul-add i (record_length w) j hj) ∙ ap (λ x. wrong i x b) (mod-mul-add i (record_length w) j hj) ∙ ok)
            (λ ne. ap (λ x. wrong (k / record_length w) (k % record_length w) x) (get_or-set_other bs at k b 0 ne) ∙ f.right k (omega (arith, length-set bs at b)))
            (cases_eq k at);
        small = λ k. let s = f.small k in grind (arith, common_steps);
      }

module _ (n w : ℕ) (bs ms : List ℕ) (i : ℕ) (long : n * record_length w ≤ length bs) (hi : i < n) where
  -- a flag set
  pub image_flag : (b : ℕ) → decoded n w (set bs (i * record_length w + 3) b) ms ≡ with_flag (decoded n w bs ms) i (eqb b 1)
  image_flag b =
      let at = byte_at n w bs i 3 b long hi (omega arith) in
      same_model (decoded n w (set bs (i * record_length w + 3) b) ms) (with_flag (decoded n w bs ms) i (eqb b 1)) refl refl
      (λ k. let e = at k 3 (omega arith) in grind (arith, common_steps))
      (λ k q. let e = at k (4 + 2 * q) in let e' = at k (5 + 2 * q) in grind (arith, common_steps))
      (λ k. refl)

-- the bytes with a word written at a place
abbrev pub put_bytes : (w : ℕ) (bs : List ℕ) (i p low high : ℕ) → List ℕ
put_bytes w bs i p low high = set (set bs (i * record_length w + (4 + 2 * p)) low) (i * record_length w + (5 + 2 * p)) high

module _ (n w : ℕ) (bs ms : List ℕ) (i p low high : ℕ) (long : n * record_length w ≤ length bs) (hi : i < n) (hp : p < w) where
  long' : n * record_length w ≤ length (set bs (i * record_length w + (4 + 2 * p)) low)
  long' = omega (arith, length-set bs (i * record_length w + (4 + 2 * p)) low)

  put_at : (k q : ℕ) → q < record_length w → get_or (put_bytes w bs i p low high) (k * record_length w + q) 0 ≡ cond (eqb k i && eqb q (5 + 2 * p)) high (cond (eqb k i && eqb q (4 + 2 * p)) low (get_or bs (k * record_length w + q) 0))
  put_at k q hq =
      byte_at n w (set bs (i * record_length w + (4 + 2 * p)) low) i (5 + 2 * p) high long' hi (omega arith) k q hq
      ∙ ap (cond (eqb k i && eqb q (5 + 2 * p)) high) (byte_at n w bs i (4 + 2 * p) low long hi (omega arith) k q hq)

  -- a word set
  pub image_word : decoded n w (put_bytes w bs i p low high) ms ≡ with_word (decoded n w bs ms) i p (low + 256 * high)
  image_word =
      same_model (decoded n w (put_bytes w bs i p low high) ms) (with_word (decoded n w bs ms) i p (low + 256 * high)) refl refl
      (λ k. let e = put_at k 3 (omega arith) in grind (arith, common_steps))
      (λ k q. let e = put_at k (4 + 2 * q) in let e' = put_at k (5 + 2 * q) in grind (arith, common_steps))
      (λ k. refl)

  pub formed_word : (m : ℕ) → Formed m w bs → low < 256 → high < 256 → Formed m w (put_bytes w bs i p low high)
  formed_word m f hl hh =
      formed_set n w (set bs (i * record_length w + (4 + 2 * p)) low) i (5 + 2 * p) high long' hi (omega arith) m
      (formed_set n w bs i (4 + 2 * p) low long hi (omega arith) m f (word_right i (4 + 2 * p) low (omega arith)) hl)
      (word_right i (5 + 2 * p) high (omega arith)) hh
