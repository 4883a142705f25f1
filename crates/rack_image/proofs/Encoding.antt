-- An image is the encoding of the rack that it stands for. Assumes nothing.
use Rattle.std.proofs.Common.{◌≡◌, ℕ, zero, suc, ◌+◌, ◌-◌, ◌*◌, ◌/◌, ◌%◌, ◌<◌, ◌≤◌, true, cond, List, [], ◌∷◌, ◌++◌, length, get_or, sym, refl, ap, ◌∙◌, subst, ⊎_elim, suc-mul, zero-mul, arith, Ok, Err, Result, MatchResult}
use Rattle.std.proofs.lemmas.Nat.{div-mul-add, mod-mul-add, div-add-mod', div_below, mod_below}
use Rattle.std.proofs.lemmas.List.{length-append, get_or_append_left, get_or-append-add, get_or_past, ext_get_or}
use Rattle.std.proofs.lemmas.Bool.{eq-eqb, cases_lt}
use Rattle.std.proofs.lemmas.Grind.{common_steps}
use Rattle.refusal.specs.Numbers.{cause_number}
use Rattle.refusal.specs.declared.reason.Fault.{Fault}
use Rattle.rack.specs.Model.{Model, fitting}
use Rattle.rack_image.specs.Image.{image, decoded, record_length, word_bytes, wrong, wrong_at, Formed, joined, record_bytes, record_count, Words16, SameHeld, FirstWrong, Malformed}
use Rattle.rack.proofs.Models.{place_below, fitting_parts}
use Rattle.rack_image.proofs.ImageCounts.{count_is}
use Rattle.rack_image.proofs.Images.{inside, word_right}

-- lists of one length in order: how long, and what stands where
module _ (f : ℕ → List ℕ) (long : ℕ) (each : (k : ℕ) → length (f k) ≡ long) where
  pub length_joined : (n : ℕ) → length (joined n f) ≡ n * long
  length_joined zero = sym (zero-mul long)
  length_joined (suc n) = length-append (joined n f) (f n) ∙ (let a = length_joined n in let b = each n in omega (arith, suc-mul n long))

  last : (n i j : ℕ) → i ≡ n → get_or (joined n f ++ f n) (i * long + j) 0 ≡ get_or (f i) j 0
  last n i j e =
      ap (λ x. get_or (joined n f ++ f n) (x * long + j) 0) e
      ∙ ap (λ x. get_or (joined n f ++ f n) (x + j) 0) (sym (length_joined n))
      ∙ get_or-append-add (joined n f) (f n) j 0
      ∙ ap (λ x. get_or (f x) j 0) (sym e)

  pub getD_joined : (n i j : ℕ) → i < n → j < long → get_or (joined n f) (i * long + j) 0 ≡ get_or (f i) j 0
  getD_joined zero i j hi hj = absurd (omega arith)
  getD_joined (suc n) i j hi hj =
      ⊎_elim
      (λ h. get_or_append_left (joined n f) (f n) 0 (i * long + j) (omega (arith, length_joined n, place_below long n i j h hj)) ∙ getD_joined n i j h hj)
      (λ h. last n i j (omega arith))
      (cases_lt i n)

-- the bytes of the words of a node, place by place
abbrev node_bytes : Model → ℕ → ℕ → List ℕ
node_bytes m i p = word_bytes (m.words i p)

length_words : (m : Model) (i : ℕ) → length (joined m.places (node_bytes m i)) ≡ m.places * 2
length_words m i = length_joined (node_bytes m i) 2 (λ k. refl) m.places

length_record : (m : Model) (i : ℕ) → length (record_bytes m i) ≡ record_length m.places
length_record m i =
    length-append (0xC5 ∷ 0x9D ∷ i ∷ cond (m.flags i) 1 0 ∷ []) (joined m.places (node_bytes m i))
    ∙ omega (arith, length_words m i)

pub length_image : (m : Model) → length (image m) ≡ m.nodes * record_length m.places
length_image m = length_joined (record_bytes m) (record_length m.places) (length_record m) m.nodes

pub image_at : (m : Model) (i j : ℕ) → i < m.nodes → j < record_length m.places → get_or (image m) (i * record_length m.places + j) 0 ≡ get_or (record_bytes m i) j 0
image_at m i j hi hj = getD_joined (record_bytes m) (record_length m.places) (length_record m) m.nodes i j hi hj

-- the low and the high byte of a word in its record
low_at : (m : Model) (i p : ℕ) → p < m.places → get_or (record_bytes m i) (4 + (p * 2 + 0)) 0 ≡ m.words i p % 256
low_at m i p h =
    get_or-append-add (0xC5 ∷ 0x9D ∷ i ∷ cond (m.flags i) 1 0 ∷ []) (joined m.places (node_bytes m i)) (p * 2 + 0) 0
    ∙ getD_joined (node_bytes m i) 2 (λ k. refl) m.places p 0 h (omega arith)

high_at : (m : Model) (i p : ℕ) → p < m.places → get_or (record_bytes m i) (4 + (p * 2 + 1)) 0 ≡ m.words i p / 256
high_at m i p h =
    get_or-append-add (0xC5 ∷ 0x9D ∷ i ∷ cond (m.flags i) 1 0 ∷ []) (joined m.places (node_bytes m i)) (p * 2 + 1) 0
    ∙ getD_joined (node_bytes m i) 2 (λ k. refl) m.places p 1 h (omega arith)

module _ (n w : ℕ) (bs ms : List ℕ) (f : Formed n w bs) where
  right_at : (i j : ℕ) → i < n → j < record_length w → wrong i j (get_or bs (i * record_length w + j) 0) ≡ 0
  right_at i j hi hj =
      ap (λ x. wrong x j (get_or bs (i * record_length w + j) 0)) (sym (div-mul-add i (record_length w) j hj))
      ∙ ap (λ x. wrong ((i * record_length w + j) / record_length w) x (get_or bs (i * record_length w + j) 0)) (sym (mod-mul-add i (record_length w) j hj))
      ∙ f.right (i * record_length w + j) (inside n w i j bs (omega (arith, f.long)) hi hj)

  -- a byte of the front of a record
  front_as : (i j : ℕ) → i < n → j < 4 → get_or bs (i * record_length w + j) 0 ≡ get_or (record_bytes (decoded n w bs ms) i) j 0
  front_as i zero hi hj = let r = right_at i 0 hi (omega arith) in grind (arith, common_steps)
  front_as i (suc zero) hi hj = let r = right_at i 1 hi (omega arith) in grind (arith, common_steps)
  front_as i (suc (suc zero)) hi hj = let r = right_at i 2 hi (omega arith) in grind (arith, common_steps)
  front_as i (suc (suc (suc zero))) hi hj = let r = right_at i 3 hi (omega arith) in grind (arith, common_steps)
  front_as i (suc (suc (suc (suc j)))) hi hj = absurd (omega arith)

  -- a byte of a word
  rest_as : (i p b : ℕ) → i < n → p < w → b < 2 → get_or bs (i * record_length w + (4 + (p * 2 + b))) 0 ≡ get_or (record_bytes (decoded n w bs ms) i) (4 + (p * 2 + b)) 0
  rest_as i p zero hi hp hb =
      let e : 4 + (p * 2 + 0) ≡ 4 + 2 * p = omega arith in
      let l = low_at (decoded n w bs ms) i p hp in
      let s = f.small (i * record_length w + (4 + 2 * p)) in
      rw l (ap (λ x. get_or bs (i * record_length w + x) 0) e ∙ grind (arith, common_steps))
  rest_as i p (suc zero) hi hp hb =
      let e : 4 + (p * 2 + 1) ≡ 5 + 2 * p = omega arith in
      let h = high_at (decoded n w bs ms) i p hp in
      let s = f.small (i * record_length w + (4 + 2 * p)) in
      rw h (ap (λ x. get_or bs (i * record_length w + x) 0) e ∙ grind (arith, common_steps))
  rest_as i p (suc (suc b)) hi hp hb = absurd (omega arith)

  byte_as : (i j : ℕ) → i < n → j < record_length w → get_or bs (i * record_length w + j) 0 ≡ get_or (record_bytes (decoded n w bs ms) i) j 0
  byte_as i j hi hj =
      ⊎_elim
      (λ h. front_as i j hi h)
      (λ h. let e : j ≡ 4 + ((j - 4) / 2 * 2 + (j - 4) % 2) = omega (arith, div-add-mod' (j - 4) 2) in
      ap (λ x. get_or bs (i * record_length w + x) 0) e ∙ rest_as i ((j - 4) / 2) ((j - 4) % 2) hi (omega arith) (mod_below (j - 4) 2 (omega arith)) ∙ ap (λ x. get_or (record_bytes (decoded n w bs ms) i) x 0) (sym e))
      (cases_lt j 4)

  -- an image is the encoding of the rack that it stands for
  pub decoded_image : bs ≡ image (decoded n w bs ms)
  decoded_image =
      ext_get_or 0 bs (image (decoded n w bs ms)) (f.long ∙ sym (length_image (decoded n w bs ms)))
      (λ k h.
      let e : k ≡ k / record_length w * record_length w + k % record_length w = sym (div-add-mod' k (record_length w)) in
      let hi : k / record_length w < n = div_below k (record_length w) n (omega arith) (omega (arith, f.long)) in
      let hj : k % record_length w < record_length w = mod_below k (record_length w) (omega arith) in
      ap (λ x. get_or bs x 0) e ∙ byte_as (k / record_length w) (k % record_length w) hi hj ∙ sym (image_at (decoded n w bs ms) (k / record_length w) (k % record_length w) hi hj) ∙ ap (λ x. get_or (image (decoded n w bs ms)) x 0) (sym e))

-- the same of the rack over any bytes, and of any meters
pub formed_image : (n w : ℕ) (bs ms : List ℕ) → n ≤ 16 → Formed n w bs → bs ≡ image (decoded (record_count w bs) w bs ms)
formed_image n w bs ms few f = decoded_image n w bs ms f ∙ ap (λ k. image (decoded k w bs ms)) (sym (count_is n w bs few f.long))

-- the rack that an encoding stands for has the flags and words that were encoded
module _ (m : Model) (ms : List ℕ) (few : m.nodes ≤ 16) where
  count_image : record_count m.places (image m) ≡ m.nodes
  count_image = count_is m.nodes m.places (image m) few (length_image m)

  flag_held : (i : ℕ) → i < m.nodes → (decoded m.nodes m.places (image m) ms).flags i ≡ m.flags i
  flag_held i hi = let e = image_at m i 3 hi (omega arith) in grind (arith, common_steps)

  word_held : (i p : ℕ) → i < m.nodes → p < m.places → (decoded m.nodes m.places (image m) ms).words i p ≡ m.words i p
  word_held i p hi hp =
      let l : 4 + 2 * p ≡ 4 + (p * 2 + 0) = omega arith in
      let h : 5 + 2 * p ≡ 4 + (p * 2 + 1) = omega arith in
      let low = image_at m i (4 + 2 * p) hi (omega arith) ∙ ap (λ x. get_or (record_bytes m i) x 0) l ∙ low_at m i p hp in
      let high = image_at m i (5 + 2 * p) hi (omega arith) ∙ ap (λ x. get_or (record_bytes m i) x 0) h ∙ high_at m i p hp in
      grind (arith, common_steps)

  pub image_held : SameHeld m (decoded (record_count m.places (image m)) m.places (image m) ms)
  image_held = record {
    nodes = count_image;
    places = refl;
    flags = λ i hi. ap (λ n. (decoded n m.places (image m) ms).flags i) count_image ∙ flag_held i hi;
    words = λ i p hi hp. ap (λ n. (decoded n m.places (image m) ms).words i p) count_image ∙ word_held i p hi hp;
  }

-- the same of bytes that are an encoding
pub held_in : (m : Model) (ms : List ℕ) (w : ℕ) (bs : List ℕ) → m.nodes ≤ 16 → m.places ≡ w → bs ≡ image m → SameHeld m (decoded (record_count w bs) w bs ms)
held_in m ms w bs few e b =
    subst (λ x. SameHeld m (decoded (record_count x bs) x bs ms)) e
    (subst (λ x. SameHeld m (decoded (record_count m.places x) m.places x ms)) (sym b) (image_held m ms few))

-- racks of the same counts with one image have the same flags and words
pub same_image : (a b : Model) → a.nodes ≤ 16 → b.nodes ≡ a.nodes → b.places ≡ a.places → image a ≡ image b → SameHeld a b
same_image a b few en ew e =
    let held = image_held a [] few in
    let held' = held_in b [] a.places (image a) (omega arith) ew e in
    record {
      nodes = en;
      places = ew;
      flags = λ i hi. sym (held'.flags i (omega arith)) ∙ held.flags i hi;
      words = λ i p hi hp. sym (held'.words i p (omega arith) (omega arith)) ∙ held.words i p hi hp;
    }

-- an encoding is an image
module _ (m : Model) (few : m.nodes ≤ 16) (words : Words16 m) where
  -- a byte of the front of a record, and of a word
  front_right : (i j : ℕ) → i < m.nodes → j < 4 → (wrong i j (get_or (record_bytes m i) j 0) ≡ 0) × (get_or (record_bytes m i) j 0 < 256)
  front_right i zero hi hj = (refl, omega arith)
  front_right i (suc zero) hi hj = (refl, omega arith)
  front_right i (suc (suc zero)) hi hj = (grind (arith, common_steps), omega arith)
  front_right i (suc (suc (suc zero))) hi hj = (grind (arith, common_steps), grind (arith, common_steps))
  front_right i (suc (suc (suc (suc j)))) hi hj = absurd (omega arith)

  rest_small : (i p b : ℕ) → i < m.nodes → p < m.places → b < 2 → get_or (record_bytes m i) (4 + (p * 2 + b)) 0 < 256
  rest_small i p zero hi hp hb = omega (arith, low_at m i p hp)
  rest_small i p (suc zero) hi hp hb = omega (arith, high_at m i p hp, words i p hi hp)
  rest_small i p (suc (suc b)) hi hp hb = absurd (omega arith)

  rest_right : (i j : ℕ) → i < m.nodes → j < record_length m.places → 4 ≤ j → (wrong i j (get_or (record_bytes m i) j 0) ≡ 0) × (get_or (record_bytes m i) j 0 < 256)
  rest_right i j hi hj h =
      let e : 4 + ((j - 4) / 2 * 2 + (j - 4) % 2) ≡ j = omega (arith, div-add-mod' (j - 4) 2) in
      let e' : 4 + (j - 4) ≡ j = omega arith in (
        word_right i j (get_or (record_bytes m i) j 0) h,
        subst (λ x. get_or (record_bytes m i) x 0 < 256) e (rest_small i ((j - 4) / 2) ((j - 4) % 2) hi (omega arith) (mod_below (j - 4) 2 (omega arith))),
      )

  record_right : (i j : ℕ) → i < m.nodes → j < record_length m.places → (wrong i j (get_or (record_bytes m i) j 0) ≡ 0) × (get_or (record_bytes m i) j 0 < 256)
  record_right i j hi hj = ⊎_elim (λ h. front_right i j hi h) (λ h. rest_right i j hi hj h) (cases_lt j 4)

  -- the same of byte b of the image
  byte_right : (b : ℕ) → b < length (image m) → (wrong_at m.places (image m) b ≡ 0) × (get_or (image m) b 0 < 256)
  byte_right b h =
      let w = m.places in
      let e : b / record_length w * record_length w + b % record_length w ≡ b = div-add-mod' b (record_length w) in
      let hi : b / record_length w < m.nodes = div_below b (record_length w) m.nodes (omega arith) (omega (arith, length_image m)) in
      let hj : b % record_length w < record_length w = mod_below b (record_length w) (omega arith) in
      let v : get_or (image m) b 0 ≡ get_or (record_bytes m (b / record_length w)) (b % record_length w) 0 = ap (λ x. get_or (image m) x 0) (sym e) ∙ image_at m (b / record_length w) (b % record_length w) hi hj in
      let r = record_right (b / record_length w) (b % record_length w) hi hj in
      (ap (wrong (b / record_length w) (b % record_length w)) v ∙ r.0, subst (λ x. x < 256) (sym v) r.1)

  pub image_formed : Formed m.nodes m.places (image m)
  image_formed = record {
    long = length_image m;
    right = λ b h. (byte_right b h).0;
    small = λ b.
        ⊎_elim
        (λ h. (byte_right b h).1)
        (λ h. subst (λ x. x < 256) (sym (get_or_past (image m) b 0 h)) (omega arith))
        (cases_lt b (length (image m)));
  }

-- what is an image is not refused as one that is malformed
pub not_malformed : (n w : ℕ) (bs : List ℕ) (f : Fault) → Formed n w bs → Malformed n w bs f → ⊥
not_malformed n w bs f ok bad =
    let b = subst (λ t. cond t (FirstWrong w bs f.byte × (f.record ≡ f.byte / record_length w) × (cause_number f.cause ≡ wrong_at w bs f.byte)) ((f.record ≡ 0) × (f.byte ≡ 0) × (cause_number f.cause ≡ 1))) (eq-eqb (length bs) (n * record_length w) ok.long) bad in
    b.0.bad (ok.right f.byte b.0.inside)

-- an encoding is found to be formed
pub accepted : (m : Model) (n w : ℕ) (bs : List ℕ) → m.nodes ≡ n → m.places ≡ w → fitting n w ≡ true → Words16 m → bs ≡ image m → (r : Result (Unit {0}) Fault) → MatchResult r (λ _. Formed n w bs) (λ f. (f.room ≡ 0) × Malformed n w bs f) → r ≡ Ok tt
accepted m n w bs en ew fit ws eb (Ok u) found = refl
accepted m n w bs en ew fit ws eb (Err f) found =
    let few : m.nodes ≤ 16 = omega (arith, (fitting_parts n w fit).0) in
    let formed = subst (λ x. Formed n x bs) ew (subst (λ x. Formed x m.places bs) en (subst (λ x. Formed m.nodes m.places x) (sym eb) (image_formed m few ws))) in
    absurd (not_malformed n w bs f formed found.1)
