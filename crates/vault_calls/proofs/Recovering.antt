-- What a recover leaves, from what its steps leave. Assumes nothing.
use Rattle.std.proofs.Common.{◌≡◌, ℕ, ◌*◌, ◌^◌, ◌<◌, ◌≤◌, Bool, true, false, cond, not, ◌&&◌, ltb, ◌⊎◌, List, length, Some, None, sym, refl, ap, ◌∙◌, subst, ap₂, inl, inr, arith}
use Rattle.std.proofs.lemmas.Bool.{cases_Bool, lt-ltb, le-ltb, cond-true, cond-false}
use Rattle.field.specs.Field.{Arith}
use Rattle.shape.specs.Outages.{count, listed, among}
use Rattle.shape.proofs.Counts.{count_all, count_same}
use Rattle.shape.proofs.Listed.{listed_length, among_listed}
use Rattle.code.specs.Code.{Words, laid, Agrees, OnlyAgrees}
use Rattle.code.specs.Calls.{NoneAgrees, good_standing, standing}
use Rattle.rack.specs.Model.{Model, risen, standing as stands_in}
use Rattle.rack.proofs.Models.{both}
use Rattle.refusal.specs.declared.reason.Refusal.{Refusal}
use Rattle.refusal.specs.declared.reason.Refusal.TheVariants.{Size, WorkSpace, TooManyOut, BadWord, NoCodeword}
use Rattle.vault_calls.specs.Calls.{wrong_size, short, out_count, Now, recover_refusal, recover_meters, Unrecovered, drew}
use Rattle.vault_calls.specs.Steps.{drawn_below, written_below, Gathered}
use Rattle.vault_calls.proofs.Carrying.{only_too, good_too, agrees_back}
use Rattle.vault_calls.proofs.Listing.{standing_flag}
use Rattle.vault_calls.proofs.Refusing.{right_size, sized, first_pass, first_here}

-- which nodes are listed as out, and how many
module _ (q t : ℕ) (m : Model) (nodes : List ℕ) (size : wrong_size q t m ≡ false) (list : nodes ≡ listed (λ i. not (stands_in m i)) (q * t)) where
  exists : (i : ℕ) → i < q * t → i < m.nodes
  exists i l = omega (arith, (right_size q t m size).0)

  pub among_out : (i : ℕ) → i < q * t → among nodes i ≡ not (m.flags i)
  among_out i l =
      ap (λ (x : List ℕ). among x i) list ∙ among_listed (λ i. not (stands_in m i)) (q * t) i l ∙ ap not (standing_flag m i (exists i l))

  pub out_length : length nodes ≡ out_count q t m
  out_length =
      ap length list ∙ listed_length (λ i. not (stands_in m i)) (q * t)
      ∙ count_same (λ i. not (stands_in m i)) (λ i. not (m.flags i)) (q * t) (λ i l. ap not (standing_flag m i (exists i l)))

  twice : (b : Bool) → not (not b) ≡ b
  twice true = refl
  twice false = refl

  pub stand_same : (i : ℕ) → i < q * t → not (among nodes i) ≡ m.flags i
  stand_same i l = ap not (among_out i l) ∙ twice (m.flags i)

module _ {E : Type 0} (f : Arith E) (q t : ℕ) (m m1 : Model) (nodes s0 s1 : List ℕ) (size : wrong_size q t m ≡ false) (list : nodes ≡ listed (λ i. not (stands_in m i)) (q * t))
    (all_drawn : m1 ≡ drawn_below m (q * t) (count (λ p. true) (q ^ t)))
    (gathered : Gathered (q ^ t) (λ j p. (ltb j (q * t) && m.flags j) && true) m.words s0 s1) where
  words_same : (i p : ℕ) → i < q * t → p < q ^ t → m.flags i ≡ true → laid (q ^ t) s1 i p ≡ m.words i p
  words_same i p li lp up =
      gathered i p lp
      ∙ cond-true ((ltb i (q * t) && m.flags i) && true) (m.words i p) (laid (q ^ t) s0 i p)
      (both (ltb i (q * t) && m.flags i) true (both (ltb i (q * t)) (m.flags i) (lt-ltb i (q * t) li) up) refl)

  meters_drawn : (i : ℕ) → i < q * t → m1.meters i ≡ recover_meters f q t m i
  meters_drawn i l =
      ap (λ x. x.meters i) all_drawn
      ∙ ap₂ (λ b k. cond (b && m.flags i) (risen (m.meters i) k) (m.meters i)) (lt-ltb i (q * t) l) (count_all (λ p. true) (q ^ t) (λ p lp. refl))

  -- everything was drawn, and nothing written
  pub drawn_now : Now q t m m.flags m.words (recover_meters f q t m) m1
  drawn_now = record {
    same_nodes = ap (λ x. x.nodes) all_drawn;
    same_places = ap (λ x. x.places) all_drawn;
    has_flags = λ i l. ap (λ x. x.flags i) all_drawn;
    has_words = λ i p li lp. ap (λ x. x.words i p) all_drawn;
    has_meters = meters_drawn;
  }

  module _ (s2 : List ℕ) (m2 : Model) (only : OnlyAgrees f q t (standing nodes) (laid (q ^ t) s1) (laid (q ^ t) s2))
      (wrote : m2 ≡ written_below m1 (among nodes) (laid (q ^ t) s2) (q * t)) where
    abbrev W : Words
    W = laid (q ^ t) s2

    pub only_agrees : OnlyAgrees f q t m.flags m.words W
    only_agrees = only_too f q t (standing nodes) m.flags (laid (q ^ t) s1) m.words (stand_same q t m nodes size list) words_same W only

    flag : (i : ℕ) → i < q * t → (m.flags i ≡ true) ⊎ (m.flags i ≡ false) → m2.flags i ≡ true
    flag i l c = ap (λ x. x.flags i) wrote ∙ ap (λ b. cond (b && among nodes i) true (m1.flags i)) (lt-ltb i (q * t) l) ∙ go c
      where
        go : (m.flags i ≡ true) ⊎ (m.flags i ≡ false) → cond (among nodes i) true (m1.flags i) ≡ true
        go (inl up) = cond-false (among nodes i) true (m1.flags i) (among_out q t m nodes size list i l ∙ ap not up) ∙ ap (λ x. x.flags i) all_drawn ∙ up
        go (inr down) = cond-true (among nodes i) true (m1.flags i) (among_out q t m nodes size list i l ∙ ap not down)

    word : (i p : ℕ) → i < q * t → p < q ^ t → (m.flags i ≡ true) ⊎ (m.flags i ≡ false) → m2.words i p ≡ W i p
    word i p l lp c =
        ap (λ x. x.words i p) wrote ∙ ap₂ (λ b d. cond (b && among nodes i) (cond d (W i p) (m1.words i p)) (m1.words i p)) (lt-ltb i (q * t) l) (lt-ltb p m1.places inside) ∙ go c
      where
        inside : p < m1.places
        inside = let a : m1.places ≡ m.places = ap (λ x. x.places) all_drawn in omega (arith, (right_size q t m size).1)

        go : (m.flags i ≡ true) ⊎ (m.flags i ≡ false) → cond (among nodes i) (W i p) (m1.words i p) ≡ W i p
        go (inl up) =
            cond-false (among nodes i) (W i p) (m1.words i p) (among_out q t m nodes size list i l ∙ ap not up) ∙ ap (λ x. x.words i p) all_drawn
            ∙ sym (only_agrees.agrees.same i p l lp up)
        go (inr down) = cond-true (among nodes i) (W i p) (m1.words i p) (among_out q t m nodes size list i l ∙ ap not down)

    -- every node stands with the codeword's words
    pub recovered_now : Now q t m (λ i. true) W (recover_meters f q t m) m2
    recovered_now = record {
      same_nodes = ap (λ x. x.nodes) wrote ∙ ap (λ x. x.nodes) all_drawn;
      same_places = ap (λ x. x.places) wrote ∙ ap (λ x. x.places) all_drawn;
      has_flags = λ i l. flag i l (cases_Bool (m.flags i));
      has_words = λ i p l lp. word i p l lp (cases_Bool (m.flags i));
      has_meters = λ i l. ap (λ x. x.meters i) wrote ∙ meters_drawn i l;
    }

  -- why none was recovered
  module _ (e : Refusal) (none : NoneAgrees f q t (standing nodes) (laid (q ^ t) s1) e) where
    abbrev Told : Bool → Type 0
    Told b = elim b as (λ x. Type 0) [ true ↦ (e ≡ NoCodeword) × ((w : Words) → Agrees f q t (standing nodes) (laid (q ^ t) s1) w → ⊥) | false ↦ e ≡ BadWord ]

    tell : (b : Bool) → Told b → Unrecovered f q t m e b × (drew e ≡ true)
    tell true (is, no_one) = (
      (is, λ w a. no_one w (agrees_back f q t (standing nodes) m.flags (laid (q ^ t) s1) m.words (stand_same q t m nodes size list) words_same w a)),
      ap drew is,
    )
    tell false is = (is, ap drew is)

    pub unrecovered : Unrecovered f q t m e (good_standing f q t m.flags m.words) × (drew e ≡ true)
    unrecovered =
        tell (good_standing f q t m.flags m.words)
        (subst Told (good_too f q t (standing nodes) m.flags (laid (q ^ t) s1) m.words (stand_same q t m nodes size list) words_same) none)

module _ {E : Type 0} (f : Arith E) (q t : ℕ) where
  -- a recover with a long enough space, where few nodes are out, passes the tests
  pub recover_none : (m : Model) (space : ℕ) → m.nodes ≡ q * t → m.places ≡ q ^ t → short q t space ≡ false → out_count q t m ≤ q → recover_refusal f q t m space ≡ None
  recover_none m space a b s few =
      first_pass (wrong_size q t m) Size _ (sized q t m a b) ∙ first_pass (short q t space) WorkSpace _ s
      ∙ first_pass (ltb q (out_count q t m)) TooManyOut None (le-ltb q (out_count q t m) few)

  -- and where more than q are out, it does not
  pub recover_many : (m : Model) (space : ℕ) → wrong_size q t m ≡ false → short q t space ≡ false → q < out_count q t m → recover_refusal f q t m space ≡ Some TooManyOut
  recover_many m space a s many =
      first_pass (wrong_size q t m) Size _ a ∙ first_pass (short q t space) WorkSpace _ s
      ∙ first_here (ltb q (out_count q t m)) TooManyOut None (lt-ltb q (out_count q t m) many)

  -- before that the counts and the space are tested
  pub recover_size : (m : Model) (space : ℕ) → wrong_size q t m ≡ true → recover_refusal f q t m space ≡ Some Size
  recover_size m space bad = first_here (wrong_size q t m) Size _ bad

  pub recover_short : (m : Model) (space : ℕ) → wrong_size q t m ≡ false → short q t space ≡ true → recover_refusal f q t m space ≡ Some WorkSpace
  recover_short m space a less = first_pass (wrong_size q t m) Size _ a ∙ first_here (short q t space) WorkSpace _ less
