-- Strictly rising lists. Assumes nothing.
use Rattle.std.proofs.Common.{◌≡◌, ℕ, zero, suc, ◌+◌, ◌-◌, ◌<◌, ◌≤◌, Bool, true, false, ltb, List, [], ◌∷◌, ◌++◌, length, get_or, take, sym, refl, ap, ◌∙◌, ⊎_elim, add-one, arith}
use Rattle.std.proofs.lemmas.List.{length_push, get_or_push, get_or_append_left, length-take-le, get_or-take, take_more}
use Rattle.std.proofs.lemmas.Bool.{and_from, and_parts, both_ways, cases_Bool, cases_eq, false_from_ne_true, ltb-true, lt-ltb}
use Rattle.shape.specs.Outages.{count, every, rising, among, Distinct}
use Rattle.shape.proofs.Among.{among_found, among_none}
use Rattle.shape.proofs.Counts.{count_among}
use Rattle.shape.proofs.Every.{every_at, every_from}

pub rising_below : (n : ℕ) (xs : List ℕ) → rising n xs ≡ true → (j : ℕ) → j < length xs → get_or xs j 0 < n
unfolding rising
rising_below n xs e j l =
    let p = and_parts (every (λ k. ltb (get_or xs k 0) n) (length xs)) (every (λ k. ltb (get_or xs k 0) (get_or xs (k + 1) 0)) (length xs - 1)) e in
    ltb-true (get_or xs j 0) n (every_at (λ k. ltb (get_or xs k 0) n) (length xs) p.0 j l)

pub rising_next : (n : ℕ) (xs : List ℕ) → rising n xs ≡ true → (j : ℕ) → j + 1 < length xs → get_or xs j 0 < get_or xs (j + 1) 0
unfolding rising
rising_next n xs e j l =
    let p = and_parts (every (λ k. ltb (get_or xs k 0) n) (length xs)) (every (λ k. ltb (get_or xs k 0) (get_or xs (k + 1) 0)) (length xs - 1)) e in
    ltb-true (get_or xs j 0) (get_or xs (j + 1) 0) (every_at (λ k. ltb (get_or xs k 0) (get_or xs (k + 1) 0)) (length xs - 1) p.1 j (omega arith))

pub rising_from : (n : ℕ) (xs : List ℕ) → ((j : ℕ) → j < length xs → get_or xs j 0 < n) → ((j : ℕ) → j + 1 < length xs → get_or xs j 0 < get_or xs (j + 1) 0) → rising n xs ≡ true
unfolding rising
rising_from n xs below next =
    and_from (every (λ k. ltb (get_or xs k 0) n) (length xs)) (every (λ k. ltb (get_or xs k 0) (get_or xs (k + 1) 0)) (length xs - 1))
    (every_from (λ k. ltb (get_or xs k 0) n) (length xs) (λ j l. lt-ltb (get_or xs j 0) n (below j l)))
    (every_from (λ k. ltb (get_or xs k 0) (get_or xs (k + 1) 0)) (length xs - 1) (λ j l. lt-ltb (get_or xs j 0) (get_or xs (j + 1) 0) (next j (omega arith))))

pub rising_none : (n : ℕ) → rising n [] ≡ true
rising_none n = rising_from n [] (λ j l. absurd (omega arith)) (λ j l. absurd (omega arith))

-- at any distance
pub rising_order : (n : ℕ) (xs : List ℕ) → rising n xs ≡ true → (j k : ℕ) → j < k → k < length xs → get_or xs j 0 < get_or xs k 0
rising_order n xs e j zero l h = absurd (omega arith)
rising_order n xs e j (suc k) l h =
    let s : get_or xs k 0 < get_or xs (suc k) 0 = rw add-one at (rising_next n xs e k (omega arith)) in
    ⊎_elim (λ i. let r : get_or xs j 0 ≡ get_or xs k 0 = ap (λ m. get_or xs m 0) i in omega arith)
    (λ ne. let r = rising_order n xs e j k (omega arith) (omega arith) in omega arith) (cases_eq j k)

-- the number at an index is no less than the index
rising_index : (n : ℕ) (xs : List ℕ) → rising n xs ≡ true → (j : ℕ) → j < length xs → j ≤ get_or xs j 0
rising_index n xs e zero l = omega arith
rising_index n xs e (suc j) l = let a = rising_index n xs e j (omega arith) in let b = rising_order n xs e j (suc j) (omega arith) l in omega arith

pub rising_length : (n : ℕ) (xs : List ℕ) → rising n xs ≡ true → length xs ≤ n
rising_length n xs e =
    ⊎_elim (λ z. omega arith)
    (λ ne. let l : length xs - 1 < length xs = omega arith in let a = rising_index n xs e (length xs - 1) l in let b = rising_below n xs e (length xs - 1) l in omega arith)
    (cases_eq (length xs) 0)

-- with the bound raised
pub rising_wider : (m n : ℕ) (xs : List ℕ) → m ≤ n → rising m xs ≡ true → rising n xs ≡ true
rising_wider m n xs h e = rising_from n xs (λ j l. let a = rising_below m xs e j l in omega arith) (rising_next m xs e)

-- without the first number
pub rising_rest : (n x : ℕ) (xs : List ℕ) → rising n (x ∷ xs) ≡ true → rising n xs ≡ true
rising_rest n x xs e =
    rising_from n xs (λ j l. rising_below n (x ∷ xs) e (suc j) (omega arith)) (λ j l. rising_order n (x ∷ xs) e (suc j) (suc (j + 1)) (omega arith) (omega arith))

-- none comes twice
pub rising_distinct : (n : ℕ) (xs : List ℕ) → rising n xs ≡ true → Distinct xs n
rising_distinct n [] e = tt
rising_distinct n (x ∷ xs) e =
    (rising_below n (x ∷ xs) e 0 (omega arith), among_none xs x (λ k l h. let a = rising_order n (x ∷ xs) e 0 (suc k) (omega arith) (omega arith) in omega arith), rising_distinct n xs (rising_rest n x xs e))

pub rising_count : (n : ℕ) (xs : List ℕ) → rising n xs ≡ true → count (among xs) n ≡ length xs
rising_count n xs e = count_among xs n (rising_distinct n xs e)

-- what is among the numbers is below the bound
pub rising_member : (n : ℕ) (xs : List ℕ) → rising n xs ≡ true → (i : ℕ) → among xs i ≡ true → i < n
rising_member n xs e i h = let r = among_found xs i h in let a = rising_below n xs e r.0 r.1 in omega (arith, r.2)

pub rising_high : (n : ℕ) (xs : List ℕ) → rising n xs ≡ true → (i : ℕ) → n ≤ i → among xs i ≡ false
rising_high n xs e i h = false_from_ne_true (among xs i) (λ t. let a = rising_member n xs e i t in omega arith)

-- a front of a rising list
pub rising_take : (n k : ℕ) (xs : List ℕ) → k ≤ length xs → rising n xs ≡ true → rising n (take k xs) ≡ true
rising_take n k xs h e =
    let m = length-take-le k xs h in
    rising_from n (take k xs) (λ j l. let a : j < k = omega arith in rw get_or-take (rising_below n xs e j (omega arith)))
    (λ j l. let a : j < k = omega arith in let b : j + 1 < k = omega arith in rw (get_or-take k xs j 0 a, get_or-take k xs (j + 1) 0 b) (rising_next n xs e j (omega arith)))

-- a list with a front that does not rise
pub rising_refused : (n k : ℕ) (xs : List ℕ) → k < length xs → rising n (take k xs ++ get_or xs k 0 ∷ []) ≡ false → rising n xs ≡ false
rising_refused n k xs h e =
    let m : k + 1 ≤ length xs = omega arith in
    false_from_ne_true (rising n xs) (λ r. both_ways (rising n (take (k + 1) xs)) (ap (rising n) (take_more xs k 0 h) ∙ e) (rising_take n (k + 1) xs m r))

-- one number more
module _ (n : ℕ) (xs : List ℕ) (x : ℕ) where
  before : (j : ℕ) → j < length xs → get_or (xs ++ x ∷ []) j 0 ≡ get_or xs j 0
  before j l = get_or_append_left xs (x ∷ []) 0 j l

  at : (j : ℕ) → j ≡ length xs → get_or (xs ++ x ∷ []) j 0 ≡ x
  at j e = get_or_push xs x 0 j (sym e)

  pub rising_push : rising n xs ≡ true → x < n → (0 < length xs → get_or xs (length xs - 1) 0 < x) → rising n (xs ++ x ∷ []) ≡ true
  rising_push e low last =
      let m = length_push xs x in
      rising_from n (xs ++ x ∷ [])
      (λ j l. ⊎_elim (λ k. let a = at j k in omega arith) (λ ne. let i : j < length xs = omega arith in let a = before j i in let b = rising_below n xs e j i in omega arith) (cases_eq j (length xs)))
      (λ j l. let i : j < length xs = omega arith in let a = before j i in
      ⊎_elim (λ k. let b = at (j + 1) k in let g : get_or xs (length xs - 1) 0 ≡ get_or xs j 0 = (let s : length xs - 1 ≡ j = omega arith in ap (λ w. get_or xs w 0) s) in let d = last (omega arith) in omega arith)
      (λ ne. let b = before (j + 1) (omega arith) in let d = rising_next n xs e j (omega arith) in omega arith) (cases_eq (j + 1) (length xs)))

  -- the number is the bound that the list was below
  pub rising_push_bound : rising x xs ≡ true → x < n → rising n (xs ++ x ∷ []) ≡ true
  rising_push_bound e low = rising_push (rising_wider x n xs (omega arith) e) low (λ l. rising_below x xs e (length xs - 1) (omega arith))

  -- what the number has to be
  pub rising_push_below : rising n (xs ++ x ∷ []) ≡ true → x < n
  rising_push_below e = let m = length_push xs x in let a = rising_below n (xs ++ x ∷ []) e (length xs) (omega arith) in let b = at (length xs) refl in omega arith

  pub rising_push_after : rising n (xs ++ x ∷ []) ≡ true → 0 < length xs → get_or xs (length xs - 1) 0 < x
  rising_push_after e l =
      let m = length_push xs x in
      let i : length xs - 1 < length xs = omega arith in
      let a = rising_order n (xs ++ x ∷ []) e (length xs - 1) (length xs) i (omega arith) in
      let b = at (length xs) refl in
      let c = before (length xs - 1) i in
      omega arith

  pub rising_push_high : n ≤ x → rising n (xs ++ x ∷ []) ≡ false
  rising_push_high h = false_from_ne_true (rising n (xs ++ x ∷ [])) (λ e. let a = rising_push_below e in omega arith)

  -- a test that holds where the list is empty, and else says whether its last number is below the new one
  pub rising_push_is : rising n xs ≡ true → x < n → (r : Bool) → (length xs ≡ 0 → r ≡ true) → (0 < length xs → r ≡ ltb (get_or xs (length xs - 1) 0) x) → r ≡ rising n (xs ++ x ∷ [])
  rising_push_is e low r none some =
      ⊎_elim (λ z. none z ∙ sym (rising_push e low (λ l. absurd (omega arith))))
      (λ nz. let l : 0 < length xs = omega arith in some l ∙ ⊎_elim (λ t. t ∙ sym (rising_push e low (λ h. ltb-true (get_or xs (length xs - 1) 0) x t)))
      (λ f. f ∙ sym (false_from_ne_true (rising n (xs ++ x ∷ [])) (λ h. both_ways (ltb (get_or xs (length xs - 1) 0) x) f (lt-ltb (get_or xs (length xs - 1) 0) x (rising_push_after h l)))))
      (cases_Bool (ltb (get_or xs (length xs - 1) 0) x))) (cases_eq (length xs) 0)
