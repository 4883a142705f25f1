-- Words of the message got one after another. Assumes nothing.
use Rattle.std.proofs.Common.{◌≡◌, ℕ, ◌+◌, ◌-◌, ◌*◌, ◌/◌, ◌%◌, ◌^◌, ◌<◌, ◌≤◌, true, false, cond, not, eqb, ltb, ◌⊎◌, List, length, get_or, set, Some, None, Ok, Err, sym, refl, ap, ◌∙◌, ap₂, inl, inr, mod-lt, div-lt_iff_lt-mul, mul-le-mul_left, add-one, arith}
use Rattle.std.proofs.lemmas.List.{get_or-set_same, get_or-set_other}
use Rattle.std.proofs.lemmas.Bool.{cases_eq, eq-eqb, ne_eqb, lt-ltb, le-ltb, cond-false}
use Rattle.shape.specs.Outages.{count, every}
use Rattle.shape.proofs.Counts.{count_more}
use Rattle.shape.proofs.Every.{every_at}
use Rattle.rack.specs.Model.{Model, changed, risen, with_draw, got, after_get}
use Rattle.rack.proofs.Models.{same_model, changed_same, changed_other, got_was_ok, got_was_err, after_get_ok}
use Rattle.refusal.specs.First.{first}
use Rattle.refusal.specs.declared.reason.Refusal.{Refusal}
use Rattle.refusal.specs.declared.reason.Refusal.TheVariants.{Size, NoSuchPlace, NodeOut}
use Rattle.vault_calls.specs.Calls.{wrong_size, read_refusal, read_meters, held, Now}
use Rattle.vault_calls.specs.Steps.{read_drawn}
use Rattle.vault_calls.proofs.Refusing.{first_pass, first_here}

-- the node of a word of the message is a data node
pub data_node : (x P k : ℕ) → 0 < P → x < k * P → x / P < k
data_node x P k pos l = (div-lt_iff_lt-mul pos).1 l

pub among_all : (q t n : ℕ) → n < q * (t - 1) → n < q * t
among_all q t n l = let k = mul-le-mul_left {m = t - 1} {n = t} q (omega arith) in omega arith

pub read_none : (m : Model) (start P : ℕ) → m ≡ read_drawn m start P 0
unfolding count
read_none m start P = refl

module _ (m0 m : Model) (start P k : ℕ) (so_far : m ≡ read_drawn m0 start P k) where
  -- one word more
  read_more : with_draw (read_drawn m0 start P k) ((start + k) / P) ≡ read_drawn m0 start P (k + 1)
  read_more =
      same_model (with_draw (read_drawn m0 start P k) n) (read_drawn m0 start P (k + 1)) refl refl (λ i. refl) (λ i p. refl) (λ i. go i (cases_eq i n))
    where
      n : ℕ
      n = (start + k) / P

      old : ℕ → ℕ
      old i = risen (m0.meters i) (count (λ j. eqb ((start + j) / P) i) k)

      go : (i : ℕ) → (i ≡ n) ⊎ (i ≡ n → ⊥) → changed old n ((old n + 1) % 2 ^ 64) i ≡ risen (m0.meters i) (count (λ j. eqb ((start + j) / P) i) (k + 1))
      go i (inl e) =
          ap (changed old n ((old n + 1) % 2 ^ 64)) e ∙ changed_same old n ((old n + 1) % 2 ^ 64)
          ∙ ap (risen (m0.meters n)) (sym (count_more (λ j. eqb ((start + j) / P) n) k ∙ ap (λ b. count (λ j. eqb ((start + j) / P) n) k + cond b 1 0) (eq-eqb n n refl) ∙ add-one (count (λ j. eqb ((start + j) / P) n) k)))
          ∙ ap (λ x. risen (m0.meters x) (count (λ j. eqb ((start + j) / P) x) (k + 1))) (sym e)
      go i (inr ne) =
          changed_other old n i ((old n + 1) % 2 ^ 64) ne
          ∙ ap (risen (m0.meters i)) (sym (count_more (λ j. eqb ((start + j) / P) i) k ∙ let b = cond-false {A = ℕ} (eqb n i) 1 0 (ne_eqb n i (λ e. ne (sym e))) in omega arith))

  module _ (w : ℕ) (got_it : Ok w ≡ got m ((start + k) / P) ((start + k) % P)) where
    pub read_word : w ≡ m0.words ((start + k) / P) ((start + k) % P)
    read_word = (got_was_ok m ((start + k) / P) ((start + k) % P) w got_it).3 ∙ ap (λ x. x.words ((start + k) / P) ((start + k) % P)) so_far

    pub read_step : (m' : Model) → m' ≡ after_get m ((start + k) / P) ((start + k) % P) → m' ≡ read_drawn m0 start P (k + 1)
    read_step m' after =
        let g = got_was_ok m ((start + k) / P) ((start + k) % P) w got_it in
        after ∙ after_get_ok m ((start + k) / P) ((start + k) % P) g.0 g.1 g.2 ∙ ap (λ x. with_draw x ((start + k) / P)) so_far ∙ read_more

-- one word more in a buffer
pub buffer_more : (xs : List ℕ) (k w : ℕ) (f : ℕ → ℕ) → k < length xs → ((j : ℕ) → j < k → get_or xs j 0 ≡ f j) → w ≡ f k → (j : ℕ) → j < k + 1 → get_or (set xs k w) j 0 ≡ f j
buffer_more xs k w f l before is j lj = go (cases_eq j k)
  where
    go : (j ≡ k) ⊎ (j ≡ k → ⊥) → get_or (set xs k w) j 0 ≡ f j
    go (inl e) = ap (λ x. get_or (set xs k w) x 0) e ∙ get_or-set_same xs k w 0 l ∙ is ∙ ap f (sym e)
    go (inr ne) = get_or-set_other xs k j w 0 ne ∙ before j (omega arith)

-- the node of a word of the message exists
pub word_within : (q t nodes start len k P : ℕ) → nodes ≡ q * t → start + len ≤ q * (t - 1) * q ^ t → 0 < q ^ t → k < len → P ≡ q ^ t → (start + k) / P < nodes
word_within q t nodes start len k P sized inside pos lk is =
    let a = among_all q t ((start + k) / q ^ t) (data_node (start + k) (q ^ t) (q * (t - 1)) pos (omega arith)) in
    let b : (start + k) / P ≡ (start + k) / q ^ t = ap (λ x. (start + k) / x) is in
    omega arith

-- a word of the message is there to be got
module _ (q t start len k P : ℕ) (m0 m : Model) (sized : (m0.nodes ≡ q * t) × (m0.places ≡ q ^ t)) (inside : start + len ≤ q * (t - 1) * q ^ t) (pos : 0 < q ^ t) (lk : k < len)
    (is : P ≡ q ^ t) (so_far : m ≡ read_drawn m0 start P k) (stand : every (λ j. m0.flags ((start + j) / q ^ t)) len ≡ true) where
  word_stands : m.flags ((start + k) / P) ≡ true
  word_stands =
      ap (λ x. x.flags ((start + k) / P)) so_far ∙ ap (λ x. m0.flags ((start + k) / x)) is ∙ every_at (λ j. m0.flags ((start + j) / q ^ t)) len stand k lk

  word_node : (start + k) / P < m.nodes
  word_node = word_within q t m.nodes start len k P (ap (λ x. x.nodes) so_far ∙ sized.0) inside pos lk is

  word_place : (start + k) % P < m.places
  word_place =
      let a : (start + k) % q ^ t < q ^ t = mod-lt (start + k) pos in
      let b : (start + k) % P ≡ (start + k) % q ^ t = ap (λ x. (start + k) % x) is in
      let c : m.places ≡ m0.places = ap (λ x. x.places) so_far in
      omega (arith, sized.1)

  -- so getting it is not refused
  pub not_refused : (e : Refusal) → Err e ≡ got m ((start + k) / P) ((start + k) % P) → ⊥
  not_refused e was = got_was_err m ((start + k) / P) ((start + k) % P) e was word_node word_place word_stands

-- where all are got
module _ (q t start len P k : ℕ) (m0 : Model) where
  pub read_end : (m : Model) → P ≡ q ^ t → k ≡ len → m ≡ read_drawn m0 start P k → m ≡ read_drawn m0 start (q ^ t) len
  read_end m is end so_far = so_far ∙ ap₂ (λ x n. read_drawn m0 start x n) is end

  pub words_end : (ws : List ℕ) → P ≡ q ^ t → k ≡ len → ((j : ℕ) → j < k → get_or ws j 0 ≡ m0.words ((start + j) / P) ((start + j) % P)) → (j : ℕ) → j < len → get_or ws j 0 ≡ held q t m0 (start + j)
  words_end ws is end got_all j l = got_all j (omega arith) ∙ ap (λ x. m0.words ((start + j) / x) ((start + j) % x)) is

-- the tests of a read that refuse it
module _ (q t start len : ℕ) (m : Model) where
  pub read_size : wrong_size q t m ≡ true → read_refusal q t m start len ≡ Some Size
  read_size bad = first_here (wrong_size q t m) Size _ bad

  pub read_nowhere : wrong_size q t m ≡ false → q * (t - 1) * q ^ t < start + len → read_refusal q t m start len ≡ Some NoSuchPlace
  read_nowhere size past =
      first_pass (wrong_size q t m) Size _ size
      ∙ first_here (ltb (q * (t - 1) * q ^ t) (start + len)) NoSuchPlace _ (lt-ltb (q * (t - 1) * q ^ t) (start + len) past)

-- the tests of a read
module _ (q t start len : ℕ) (m : Model) (sized : wrong_size q t m ≡ false) (inside : start + len ≤ q * (t - 1) * q ^ t) where
  passed : read_refusal q t m start len ≡ first (not (every (λ j. m.flags ((start + j) / q ^ t)) len)) NodeOut None
  passed =
      first_pass (wrong_size q t m) Size _ sized
      ∙ first_pass (ltb (q * (t - 1) * q ^ t) (start + len)) NoSuchPlace _ (le-ltb (q * (t - 1) * q ^ t) (start + len) inside)

  pub read_passes : every (λ j. m.flags ((start + j) / q ^ t)) len ≡ true → read_refusal q t m start len ≡ None
  read_passes e = passed ∙ first_pass (not (every (λ j. m.flags ((start + j) / q ^ t)) len)) NodeOut None (ap not e)

  pub read_finds_out : every (λ j. m.flags ((start + j) / q ^ t)) len ≡ false → read_refusal q t m start len ≡ Some NodeOut
  read_finds_out e = passed ∙ first_here (not (every (λ j. m.flags ((start + j) / q ^ t)) len)) NodeOut None (ap not e)

-- what a read leaves of the rack
pub read_now : (q t start k : ℕ) (m m' : Model) → m' ≡ read_drawn m start (q ^ t) k → Now q t m m.flags m.words (read_meters q t m start k) m'
read_now q t start k m m' e = record {
  same_nodes = ap (λ x. x.nodes) e;
  same_places = ap (λ x. x.places) e;
  has_flags = λ i l. ap (λ x. x.flags i) e;
  has_words = λ i p li lp. ap (λ x. x.words i p) e;
  has_meters = λ i l. ap (λ x. x.meters i) e;
}
