-- The numbers after a line's word, gathered item by item.
use Rattle.std.proofs.Common.{◌≡◌, ℕ, ◌==◌, suc, cond, List, [], ◌∷◌, ◌++◌, length, drop, Some, None, Option, Bor, sym, refl, ap, ◌∙◌, subst, append_assoc, add-one, arith}
use Rattle.std.proofs.lemmas.Iterator.{YieldsList}
use Rattle.std.proofs.lemmas.Iterator.Consumers.{YieldsList-turn, YieldsList-end}
use Rattle.std.proofs.lemmas.List.{append-nil, drop_all, drop_more, length_push}
use Rattle.std.specs.Iterator.{Yields}
use Rattle.std.specs.List.{slice_split, onto_first}
use Rattle.std.specs.Option.{option_map}
use Rattle.lines.specs.Items.{items, before_first}
use Rattle.lines.specs.Numbers.{number_in, numbers_in, with_first}
use Rattle.lines.specs.Requests.{asked, request}
use Rattle.lines.proofs.Asked.{request_cut}

-- the items of a line are the parts that the library cuts at spaces
begun : (b : ℕ) (ws : List (List ℕ)) → before_first (b ∷ []) ws ≡ onto_first b ws
begun b [] = refl
begun b (w ∷ ws) = refl

pub items_split : (line : List ℕ) → slice_split (λ b. b == 32) line ≡ items line
unfolding items
items_split [] = refl
items_split (b ∷ bs) =
    ap (λ ws. cond (b == 32) ([] ∷ ws) (onto_first b ws)) (items_split bs) ∙ ap (λ ws. cond (b == 32) ([] ∷ items bs) ws) (sym (begun b (items bs)))

-- all numbers are those found so far, and those of the items that are left
abbrev pub Gathered : Option (List ℕ) → List ℕ → List (List ℕ) → Type 0
Gathered all found left = all ≡ option_map (λ ns. found ++ ns) (numbers_in left)

pub gathered_none : (left : List (List ℕ)) → Gathered (numbers_in left) [] left
gathered_none left = elim (numbers_in left) as (λ o. o ≡ option_map (λ ns. [] ++ ns) o) [ None ↦ refl | Some ns ↦ refl ]

gathered_other : (all : Option (List ℕ)) (found item : List ℕ) (more : List (List ℕ)) → Gathered all found (item ∷ more) → None ≡ number_in item → None ≡ all
unfolding numbers_in
gathered_other all found item more g e = sym (g ∙ ap (λ o. option_map (λ ns. found ++ ns) (with_first o (numbers_in more))) (sym e))

gathered_more : (all : Option (List ℕ)) (found item : List ℕ) (more : List (List ℕ)) (n : ℕ) → Gathered all found (item ∷ more) → Some n ≡ number_in item → Gathered all (found ++ n ∷ []) more
unfolding numbers_in
gathered_more all found item more n g e =
    g ∙ ap (λ o. option_map (λ ns. found ++ ns) (with_first o (numbers_in more))) (sym e)
    ∙ elim (numbers_in more) as (λ o. option_map (λ ns. found ++ ns) (option_map (λ ns. n ∷ ns) o) ≡ option_map (λ ns. (found ++ n ∷ []) ++ ns) o)
    [ None ↦ refl | Some ns ↦ ap Some (sym (append_assoc found (n ∷ []) ns)) ]

gathered_all : (all : Option (List ℕ)) (found : List ℕ) → Gathered all found [] → Some found ≡ all
unfolding numbers_in
gathered_all all found g = sym (g ∙ ap Some (append-nil found))

-- a line is cut, its first item is taken, and a loop goes over the others
module _ {S : Type 0} {steps : S → Option (Bor (List ℕ)) → S → Type 0} {s u i : S} {first : Option (Bor (List ℕ))} (step : steps s first u) (line : List ℕ)
    (road : YieldsList steps (λ x. x.now) s (slice_split (λ b. b == 32) line)) (word : Bor (List ℕ)) (is : first ≡ Some word) (from : i ≡ u) where
  cut : YieldsList steps (λ x. x.now) s (items line)
  cut = subst (λ ws. YieldsList steps (λ x. x.now) s ws) (items_split line) road

  at_word : (xs : List (Bor (List ℕ))) (t : S) → Yields steps i xs t → Yields steps s (word ∷ xs) t
  at_word xs t y = (i, subst (λ j. steps s (Some word) j) (sym from) (subst (λ o. steps s o u) is step), y)

  -- the items after the first
  abbrev more : List (List ℕ)
  more = drop 1 (items line)

  word_first : items line ≡ word.now ∷ more
  word_first =
      let t = YieldsList-turn cut [] s refl first u word is step in
      drop_more (items line) 0 word.now t.0 ∙ ap (λ w. w ∷ drop 1 (items line)) (sym t.1)

  -- one more item
  module _ (xs : List (Bor (List ℕ))) {t w : S} (y : Yields steps i xs t) {r : Option (Bor (List ℕ))} (goes : steps t r w) (found : List ℕ) (g : Gathered (numbers_in more) found (drop (suc (length xs)) (items line))) where
    item_next : (item : Bor (List ℕ)) → r ≡ Some item → drop (suc (length xs)) (items line) ≡ item.now ∷ drop (suc (suc (length xs))) (items line)
    item_next item here =
        let t = YieldsList-turn cut (word ∷ xs) t (at_word xs t y) r w item here goes in
        rw add-one at (drop_more (items line) (suc (length xs)) item.now t.0) ∙ ap (λ v. v ∷ drop (suc (suc (length xs))) (items line)) (sym t.1)

    -- which is no number
    pub turn_other : (item : Bor (List ℕ)) → r ≡ Some item → None ≡ number_in item.now → None ≡ request line
    turn_other item here e =
        request_cut line word.now more None word_first
        (gathered_other (numbers_in more) found item.now (drop (suc (suc (length xs))) (items line)) (subst (Gathered (numbers_in more) found) (item_next item here) g) e)

    pub turn_next : (item : Bor (List ℕ)) (n : ℕ) (longer : List ℕ) → r ≡ Some item → Some n ≡ number_in item.now → longer ≡ found ++ n ∷ [] → Gathered (numbers_in more) longer (drop (suc (length (xs ++ item ∷ []))) (items line))
    turn_next item n longer here e grown =
        let left = drop (suc (suc (length xs))) (items line) in
        let G : List ℕ → Type 0 = λ ns. Gathered (numbers_in more) ns left in
        let H : ℕ → Type 0 = λ k. Gathered (numbers_in more) longer (drop (suc k) (items line)) in
        subst H (sym (length_push xs item ∙ add-one (length xs))) (subst G (sym grown) (gathered_more (numbers_in more) found item.now left n (subst (Gathered (numbers_in more) found) (item_next item here) g) e))

    -- and none more
    pub turn_last : r ≡ None → asked word.now found ≡ request line
    turn_last over =
        let t = YieldsList-end cut (word ∷ xs) t (at_word xs t y) r w over goes in
        let none : drop (suc (length xs)) (items line) ≡ [] = drop_all (suc (length xs)) (items line) (omega (arith, t.1)) in
        request_cut line word.now more (Some found) word_first (gathered_all (numbers_in more) found (subst (Gathered (numbers_in more) found) none g))
