-- What a call on an image rack leaves: the rack, and an image where there was one. Assumes nothing.
use mir.Val.{bool_byte}
use Rattle.std.proofs.Common.{◌≡◌, ℕ, ◌+◌, ◌*◌, ◌<◌, min, ◌/◌, Bool, true, false, eqb, List, set, sym, refl, ap, ◌∙◌, arith}
use Rattle.std.proofs.lemmas.Grind.{common_steps}
use Rattle.std.proofs.lemmas.List.{length-set}
use Rattle.rack.specs.Model.{after_put, after_flag}
use Rattle.rack.proofs.Models.{after_flag_ok, after_put_ok}
use Rattle.rack_image.specs.Image.{decoded, record_length, record_count, Formed}
use Rattle.rack_image.proofs.ImageCounts.{count_within}
use Rattle.rack_image.proofs.Images.{image_flag, image_word, put_bytes, formed_set, formed_word}

-- a byte written leaves the count
same_count : (w : ℕ) (bs : List ℕ) (k b : ℕ) → record_count w (set bs k b) ≡ record_count w bs
same_count w bs k b = ap (λ l. min 16 (l / record_length w)) (length-set bs k b)

-- a flag's byte tells the flag, and is 0 or 1
byte_tells : (b : Bool) → eqb (bool_byte b) 1 ≡ b
byte_tells true = refl
byte_tells false = refl

byte_small : (b : Bool) → bool_byte b < 2
byte_small true = omega arith
byte_small false = omega arith

module _ (w : ℕ) (bs ms : List ℕ) (i k : ℕ) (b : Bool) (hi : i < record_count w bs) (at : k ≡ i * record_length w + 3) where
  -- a flag is set, its byte at k
  pub flag_after : decoded (record_count w (set bs k (bool_byte b))) w (set bs k (bool_byte b)) ms ≡ after_flag (decoded (record_count w bs) w bs ms) i b
  flag_after =
      rw at
      (ap (λ n. decoded n w (set bs (i * record_length w + 3) (bool_byte b)) ms) (same_count w bs (i * record_length w + 3) (bool_byte b))
      ∙ image_flag (record_count w bs) w bs ms i (count_within w bs) hi (bool_byte b)
      ∙ sym (after_flag_ok (decoded (record_count w bs) w bs ms) i (eqb (bool_byte b) 1) hi)
      ∙ ap (after_flag (decoded (record_count w bs) w bs ms) i) (byte_tells b))

  pub flag_formed : (n : ℕ) → Formed n w bs → Formed n w (set bs k (bool_byte b))
  flag_formed n f =
      let h = byte_small b in
      rw at (formed_set (record_count w bs) w bs i 3 (bool_byte b) (count_within w bs) hi (omega arith) n f (grind (arith, common_steps)) (omega (arith, h)))

-- a word is set, its bytes at a and the place after it
module _ (w : ℕ) (bs ms : List ℕ) (i p a a' low high : ℕ) (hi : i < record_count w bs) (hp : p < w) (at : a ≡ i * record_length w + (4 + 2 * p)) (at' : a' ≡ i * record_length w + (5 + 2 * p)) where
  pub word_after : (v : ℕ) → v ≡ low + 256 * high → decoded (record_count w (set (set bs a low) a' high)) w (set (set bs a low) a' high) ms ≡ after_put (decoded (record_count w bs) w bs ms) i p v
  word_after v e =
      rw (at, at', e)
      (ap (λ n. decoded n w (put_bytes w bs i p low high) ms) (same_count w (set bs (i * record_length w + (4 + 2 * p)) low) (i * record_length w + (5 + 2 * p)) high ∙ same_count w bs (i * record_length w + (4 + 2 * p)) low)
      ∙ image_word (record_count w bs) w bs ms i p low high (count_within w bs) hi hp
      ∙ sym (after_put_ok (decoded (record_count w bs) w bs ms) i p (low + 256 * high) hi hp))

  pub word_formed : low < 256 → high < 256 → (n : ℕ) → Formed n w bs → Formed n w (set (set bs a low) a' high)
  word_formed hl hh n f = rw (at, at') (formed_word (record_count w bs) w bs ms i p low high (count_within w bs) hi hp n f hl hh)
