-- What is left of a list that is walked. Assumes nothing.
use Rattle.std.proofs.Common.{◌≡◌, ℕ, ◌+◌, ◌<◌, ◌≤◌, ◌⊎◌, inl, inr, List, ◌∷◌, length, get_or, drop, sym, ◌∙◌, add-one, arith, ap, length-drop, drop-cons}

-- the next item
pub next_item : (xs left rest : List ℕ) (k x : ℕ) → left ≡ drop k xs → left ≡ x ∷ rest → (k < length xs) × (x ≡ get_or xs k 0) × (rest ≡ drop (k + 1) xs)
next_item xs left rest k x is more =
    let e : drop k xs ≡ x ∷ rest = sym is ∙ more in
    let n = ap length e in
    let l : k < length xs = omega (arith, length-drop k xs) in
    let d = drop-cons xs k 0 l in
    let s = add-one k in
    (l, cc, cc)

-- two lists that are walked together, as far as the shorter one
pub both_walked : (xs ys left other : List ℕ) (k : ℕ) → left ≡ drop k xs → other ≡ drop k ys → (length left ≡ 0) ⊎ (length other ≡ 0) → k ≤ length xs → length xs ≤ length ys → k ≡ length xs
both_walked xs ys left other k is too (inl e) within long = let n = ap length is in omega (arith, length-drop k xs)
both_walked xs ys left other k is too (inr e) within long = let n = ap length too in omega (arith, length-drop k ys)
