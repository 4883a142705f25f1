-- What every list of calls keeps. Assumes nothing.
use Rattle.std.proofs.Common.{◌≡◌, ℕ, ◌+◌, ◌-◌, ◌*◌, ◌^◌, ◌<◌, ◌≤◌, Bool, true, false, cond, not, eqb, ltb, ◌⊎◌, List, get_or, Some, None, Ok, Err, Option, Result, sym, ap, ◌∙◌, subst, inl, inr, arith}
use Rattle.std.proofs.lemmas.Bool.{cases_eq, not-false, ltb-true, ltb-false, true≢false}
use Rattle.field.specs.Field.{Arith}
use Rattle.code.specs.Code.{Words, Codeword, Encodes, Refills, OnlyRefill, with_node, helps}
use Rattle.vault_calls.proofs.Codewords.{OnlyHelp}
use Rattle.rack.specs.Model.{Model, changed, with_word, node_within}
use Rattle.rack.proofs.Models.{changed_same, changed_other}
use Rattle.refusal.specs.declared.reason.Refusal.{Refusal}
use Rattle.refusal.specs.declared.reason.Refusal.TheVariants.{Size, WorkSpace, NoCode, NoSuchPlace, NodeStands, AnotherOut}
use Rattle.vault_calls.specs.declared.answer.Answer.{Answer}
use Rattle.vault_calls.specs.Calls.{wrong_size, short, out_count, Now, Drop, Alter, Store, Repair, Recover, Read, repair_refusal, recover_refusal, NotRepaired, NotRecovered, repair_meters, recover_meters}
use Rattle.vault_calls.specs.History.{Call, store, drop, alter, repair, recover, read, Event, Meets, Led, opened, then, message_after, altered_after, last_message, altered}
use Rattle.vault_calls.proofs.Refusing.{first_none, right_size}
use Rattle.vault_calls.proofs.Tallies.{others_stand}

-- a flag that stands after a node was taken out stood before
stood : (b x : Bool) → cond b false x ≡ true → x ≡ true
stood true x e = absurd (true≢false (sym e))
stood false x e = e

module _ {E : Type 0} (f : Arith E) (q t : ℕ) (only_help : OnlyHelp f q t) where
  -- after calls with this last message (if any), altered since or not
  pub record Kept (m : Model) (last : Option (List ℕ)) (changed_since : Bool) : Type 0 where
    pub nodes : m.nodes ≡ q * t
    pub places : m.places ≡ q ^ t
    -- every standing word is a code
    pub codes : (message : List ℕ) → last ≡ Some message → (i p : ℕ) → i < q * t → p < q ^ t → m.flags i ≡ true → m.words i p < f.size
    -- without an alter, every standing word is the store's
    pub stored : (message : List ℕ) (w : Words) → last ≡ Some message → changed_since ≡ false → Encodes f q t message w
        → (i p : ℕ) → i < q * t → p < q ^ t → m.flags i ≡ true → m.words i p ≡ w i p

  -- flags and words as they were
  as_before : {m m' : Model} {last : Option (List ℕ)} {b : Bool} (meters : ℕ → ℕ) → Kept m last b → Now q t m m.flags m.words meters m' → Kept m' last b
  as_before {m} {m'} meters k n = record {
    nodes = n.same_nodes ∙ k.nodes;
    places = n.same_places ∙ k.places;
    codes = λ message e i p li lp up. subst (λ x. x < f.size) (sym (n.has_words i p li lp)) (k.codes message e i p li lp (sym (n.has_flags i li) ∙ up));
    stored = λ message w e u enc i p li lp up. n.has_words i p li lp ∙ k.stored message w e u enc i p li lp (sym (n.has_flags i li) ∙ up);
  }

  unchanged : {m m' : Model} {last : Option (List ℕ)} {b : Bool} → Kept m last b → m' ≡ m → Kept m' last b
  unchanged {m} {m'} {last} {b} k e = subst (λ x. Kept x last b) (sym e) k

  -- the codeword w stands in every node
  written : {m m' : Model} {last : Option (List ℕ)} {b : Bool} (w : Words) (meters : ℕ → ℕ) → Kept m last b → (last' : Option (List ℕ)) (b' : Bool)
      → Codeword f q t w → Now q t m (λ i. true) w meters m'
      → ((message : List ℕ) (v : Words) → last' ≡ Some message → b' ≡ false → Encodes f q t message v → (i p : ℕ) → i < q * t → p < q ^ t → w i p ≡ v i p)
      → Kept m' last' b'
  written w meters k last' b' cw n is = record {
    nodes = n.same_nodes ∙ k.nodes;
    places = n.same_places ∙ k.places;
    codes = λ message e i p li lp up. subst (λ x. x < f.size) (sym (n.has_words i p li lp)) (cw.codes i p li lp);
    stored = λ message v e u enc i p li lp up. n.has_words i p li lp ∙ is message v e u enc i p li lp;
  }

  same_message : (x y : List ℕ) → Some x ≡ Some y → x ≡ y
  same_message x y e = cc

  after_store : (m m' : Model) (message : List ℕ) (space : ℕ) (r : Result Answer Refusal) (last : Option (List ℕ)) (b : Bool)
      → Kept m last b → Store f q t m message space r m' → Kept m' (message_after (store message space) r last) (altered_after (store message space) r b)
  after_store m m' message space (Ok a) last b k s =
      let w = s.2.0 in
      let enc = s.2.1.0 in
      written w m.meters k (Some message) false enc.codeword s.2.1.1
      (λ message' v e u enc' i p li lp.
      enc'.only w enc.codeword (subst (λ x. (i p : ℕ) → i < q * (t - 1) → p < q ^ t → w i p ≡ get_or x (i * q ^ t + p) 0) (same_message message message' e) enc.carries) i p li lp)
  after_store m m' message space (Err e) last b k s = unchanged k s.1

  after_drop : (m m' : Model) (i : ℕ) (r : Result Answer Refusal) (last : Option (List ℕ)) (b : Bool)
      → Kept m last b → Drop q t m i r m' → Kept m' (message_after (drop i) r last) (altered_after (drop i) r b)
  after_drop m m' i (Ok a) last b k s =
      subst (λ x. Kept x last b) (sym s.2)
      (record {
        nodes = k.nodes;
        places = k.places;
        codes = λ message e j p lj lp up. k.codes message e j p lj lp (stood (eqb j i) (m.flags j) up);
        stored = λ message w e u enc j p lj lp up. k.stored message w e u enc j p lj lp (stood (eqb j i) (m.flags j) up);
      })
  after_drop m m' i (Err e) last b k s = unchanged k s.1

  -- a word of a rack in which one was put
  put_word : (m : Model) (i p w j r : ℕ) → w < f.size → (m.words j r < f.size) → (with_word m i p w).words j r < f.size
  put_word m i p w j r lw l = go (cases_eq j i) (cases_eq r p)
    where
      go : (j ≡ i) ⊎ (j ≡ i → ⊥) → (r ≡ p) ⊎ (r ≡ p → ⊥) → (with_word m i p w).words j r < f.size
      go (inr ne) o = subst (λ g. g r < f.size) (sym (changed_other m.words i j (changed (m.words i) p w) ne)) l
      go (inl e) (inl o) =
          subst (λ g. g r < f.size) (sym (ap (changed m.words i (changed (m.words i) p w)) e ∙ changed_same m.words i (changed (m.words i) p w)))
          (subst (λ x. x < f.size) (sym (ap (changed (m.words i) p w) o ∙ changed_same (m.words i) p w)) lw)
      go (inl e) (inr o) =
          subst (λ g. g r < f.size) (sym (ap (changed m.words i (changed (m.words i) p w)) e ∙ changed_same m.words i (changed (m.words i) p w)))
          (subst (λ x. x < f.size) (sym (changed_other (m.words i) p r w o ∙ ap (λ x. m.words x r) (sym e))) l)

  after_alter : (m m' : Model) (i p w : ℕ) (r : Result Answer Refusal) (last : Option (List ℕ)) (b : Bool)
      → Kept m last b → Alter f q t m i p w r m' → Kept m' (message_after (alter i p w) r last) (altered_after (alter i p w) r b)
  after_alter m m' i p w (Ok a) last b k s =
      let sized = (first_none (wrong_size q t m) Size _ s.0).1 in
      let code = (first_none (not (ltb w f.size)) NoCode _ sized).0 in
      subst (λ x. Kept x last true) (sym s.2)
      (record {
        nodes = k.nodes;
        places = k.places;
        codes = λ message e j r lj lr up. put_word m i p w j r (ltb-true w f.size (not-false (ltb w f.size) code)) (k.codes message e j r lj lr up);
        stored = λ message v e u enc j r lj lr up. absurd (true≢false u);
      })
  after_alter m m' i p w (Err e) last b k s = unchanged k s.1

  -- a codeword meets the checks of the planes that help
  pub codeword_refills : (w : Words) (i : ℕ) → i < q * t → Codeword f q t w → Refills f q t w i
  codeword_refills w i li cw = record { codes = λ p lp. cw.codes i p li lp; checks = λ p e lp le h. cw.checks p e lp le }

  -- the words of a node that was replaced
  own : (c : ℕ → ℕ) (w : Words) (i p : ℕ) → with_node w i c i p ≡ c p
  own c w i p = ap (λ (g : ℕ → ℕ). g p) (changed_same w i c)

  -- a refill from a codeword's helper words is the codeword's node
  pub refilled : (m : Model) (i : ℕ) (c : ℕ → ℕ) (w : Words) → i < q * t → OnlyRefill f q t m.words i c → Codeword f q t w
      → ((j p : ℕ) → j < q * t → (j ≡ i → ⊥) → p < q ^ t → helps q i p ≡ true → m.words j p ≡ w j p)
      → (p : ℕ) → p < q ^ t → c p ≡ w i p
  refilled m i c w li only cw alike p lp =
      sym (own c m.words i p)
      ∙ only_help (with_node m.words i c) w i li only.refills (codeword_refills w i li cw)
      (λ j p lj lp h ne. ap (λ (g : ℕ → ℕ). g p) (changed_other m.words i j c ne) ∙ alike j p lj ne lp h) p lp

  module _ (m m' : Model) (i space : ℕ) (last : Option (List ℕ)) (b : Bool) (k : Kept m last b) where
    repair_tests : repair_refusal f q t m i space ≡ None → (i < q * t) × (m.flags i ≡ false) × (out_count q t m ≤ 1)
    repair_tests none =
        let a = (first_none (wrong_size q t m) Size _ none).1 in
        let b = (first_none (short q t space) WorkSpace _ a).1 in
        let c = first_none (not (node_within m i)) NoSuchPlace _ b in
        let d = first_none (m.flags i) NodeStands _ c.1 in
        let e = (first_none (ltb 1 (out_count q t m)) AnotherOut None d.1).0 in
        let l = ltb-true i m.nodes (not-false (ltb i m.nodes) c.0) in
        (subst (λ n. i < n) k.nodes l, d.0, ltb-false 1 (out_count q t m) e)

    repaired : (c : ℕ → ℕ) → repair_refusal f q t m i space ≡ None → OnlyRefill f q t m.words i c
        → Now q t m (changed m.flags i true) (changed m.words i c) (repair_meters f q t m i) m' → Kept m' last b
    repaired c none only n = record {
      nodes = n.same_nodes ∙ k.nodes;
      places = n.same_places ∙ k.places;
      codes = λ message e j p lj lp up. code message e j p lj lp (cases_eq j i);
      stored = λ message w e u enc j p lj lp up. n.has_words j p lj lp ∙ word message w e u enc j p lj lp (cases_eq j i);
    }
      where
        tests : (i < q * t) × (m.flags i ≡ false) × (out_count q t m ≤ 1)
        tests = repair_tests none

        others : (j : ℕ) → j < q * t → (j ≡ i → ⊥) → m.flags j ≡ true
        others = others_stand q t m i tests.0 tests.1 tests.2

        code : (message : List ℕ) → last ≡ Some message → (j p : ℕ) → j < q * t → p < q ^ t → (j ≡ i) ⊎ (j ≡ i → ⊥) → m'.words j p < f.size
        code message e j p lj lp (inl o) =
            subst (λ x. x < f.size) (sym (n.has_words j p lj lp ∙ ap (λ x. changed m.words i c x p) o ∙ ap (λ (g : ℕ → ℕ). g p) (changed_same m.words i c) ∙ sym (own c m.words i p)))
            (only.refills.codes p lp)
        code message e j p lj lp (inr o) =
            subst (λ x. x < f.size) (sym (n.has_words j p lj lp ∙ ap (λ (g : ℕ → ℕ). g p) (changed_other m.words i j c o)))
            (k.codes message e j p lj lp (others j lj o))

        word : (message : List ℕ) (w : Words) → last ≡ Some message → b ≡ false → Encodes f q t message w
            → (j p : ℕ) → j < q * t → p < q ^ t → (j ≡ i) ⊎ (j ≡ i → ⊥) → changed m.words i c j p ≡ w j p
        word message w e u enc j p lj lp (inl o) =
            ap (λ x. changed m.words i c x p) o ∙ ap (λ (g : ℕ → ℕ). g p) (changed_same m.words i c)
            ∙ refilled m i c w tests.0 only enc.codeword (λ j p lj ne lp h. k.stored message w e u enc j p lj lp (others j lj ne)) p lp
            ∙ ap (λ x. w x p) (sym o)
        word message w e u enc j p lj lp (inr o) =
            ap (λ (g : ℕ → ℕ). g p) (changed_other m.words i j c o) ∙ k.stored message w e u enc j p lj lp (others j lj o)

  after_repair : (m m' : Model) (i space : ℕ) (r : Result Answer Refusal) (last : Option (List ℕ)) (b : Bool)
      → Kept m last b → Repair f q t m i space r m' → Kept m' (message_after (repair i space) r last) (altered_after (repair i space) r b)
  after_repair m m' i space (Ok a) last b k s = repaired m m' i space last b k s.3.0 s.0 s.3.1.0 s.3.1.1
  after_repair m m' i space (Err e) last b k s = go (repair_refusal f q t m i space) s
    where
      go : (o : Option Refusal) → NotRepaired f q t m i e m' o → Kept m' last b
      go (Some r) s = unchanged k s.1
      go None s = as_before (repair_meters f q t m i) k s.2

  after_recover : (m m' : Model) (space : ℕ) (r : Result Answer Refusal) (last : Option (List ℕ)) (b : Bool)
      → Kept m last b → Recover f q t m space r m' → Kept m' (message_after (recover space) r last) (altered_after (recover space) r b)
  after_recover m m' space (Ok a) last b k s =
      let w = s.2.0 in
      let only = s.2.1.0 in
      written w (recover_meters f q t m) k last b only.agrees.codeword s.2.1.1
      (λ message v e u enc i p li lp.
      sym (only.only v (record { codeword = enc.codeword; same = λ j r lj lr up. sym (k.stored message v e u enc j r lj lr up) }) i p li lp))
  after_recover m m' space (Err e) last b k s = go (recover_refusal f q t m space) s
    where
      go : (o : Option Refusal) → NotRecovered f q t m e m' o → Kept m' last b
      go (Some r) s = unchanged k s.1
      go None s = as_before (recover_meters f q t m) k s.0

  after_read : (m m' : Model) (start : ℕ) (buffer buffer' : List ℕ) (r : Result Answer Refusal) (last : Option (List ℕ)) (b : Bool)
      → Kept m last b → Read q t m start buffer r m' buffer' → Kept m' last b
  after_read m m' start buffer buffer' (Ok a) last b k s = as_before _ k s.2
  after_read m m' start buffer buffer' (Err e) last b k s = unchanged k s.1

  -- one call more
  after_call : (c : Call) (m m' : Model) (r : Result Answer Refusal) (last : Option (List ℕ)) (b : Bool)
      → Kept m last b → Meets f q t c m r m' → Kept m' (message_after c r last) (altered_after c r b)
  after_call (store message space) m m' r last b k s = after_store m m' message space r last b k s
  after_call (drop i) m m' r last b k s = after_drop m m' i r last b k s
  after_call (alter i p w) m m' r last b k s = after_alter m m' i p w r last b k s
  after_call (repair i space) m m' r last b k s = after_repair m m' i space r last b k s
  after_call (recover space) m m' r last b k s = after_recover m m' space r last b k s
  after_call (read start buffer) m m' r last b k s = after_read m m' start buffer s.0 r last b k s.1

  -- after every list of calls
  pub keeps : {m0 m : Model} {es : List Event} → Led f q t m0 es m → Kept m (last_message es) (altered es)
  keeps {m0} (opened e) =
      let s = right_size q t m0 e in
      record {
        nodes = s.0;
        places = s.1;
        codes = λ message e. absurd (never message e);
        stored = λ message w e. absurd (never message e);
      }
    where
      never : (message : List ℕ) → None ≡ Some message → ⊥
      never message e = let z : ◌≡◌ {A = ℕ} 0 1 = cc in omega arith
  keeps (then {es} {e} {m} {m'} led meets) = after_call e.call m m' e.reply (last_message es) (altered es) (keeps led) meets
