-- What a chain over the numbers below a bound says of them. Assumes nothing.
use Rattle.std.proofs.Common.{◌≡◌, ℕ, zero, suc, ◌+◌, ◌<◌, Bool, true, false, map, cond, length, get_or, sym, refl, ap, ◌∙◌, subst, add-one, arith}
use Rattle.std.specs.Bool.{MatchBool}
use Rattle.std.specs.List.{count_by, range_with_len, AllWithin, HoldsAt}
use Rattle.std.proofs.lemmas.List.{map-id}
use Rattle.std.proofs.lemmas.List.FromFn.{length-range_with_len, get_or-range_with_len, sum_by-map-range_with_len_more}
use Rattle.shape.specs.Outages.{count, every}
use Rattle.shape.proofs.Every.{every_from, every_missed}
use Rattle.code.specs.Calls.{Tells}

count_map : (test : ℕ → Bool) (n : ℕ) → count_by test (map (λ i. i) (range_with_len 0 n)) ≡ count test n
unfolding count
count_map test zero = refl
count_map test (suc n) =
    ap (λ m. count_by test (map (λ i. i) (range_with_len 0 m))) (sym (add-one n))
    ∙ sum_by-map-range_with_len_more (λ i. cond (test i) 1 0) (λ i. i) 0 n n (omega arith)
    ∙ ap (λ k. k + cond (test n) 1 0) (count_map test n)

pub count_range : (test : ℕ → Bool) (n : ℕ) → count_by test (range_with_len 0 n) ≡ count test n
count_range test n = ap (count_by test) (sym (map-id (range_with_len 0 n))) ∙ count_map test n

-- the element at a place below the bound
at : (n i : ℕ) → i < n → get_or (range_with_len 0 n) i 0 ≡ i
at n i l = let e = get_or-range_with_len 0 n i 0 l in omega arith

-- all numbers below the bound, or one that misses
pub range_cases : (n : ℕ) (r : Bool) (Yes No : ℕ → Type 0)
    → MatchBool r (AllWithin Yes (range_with_len 0 n) 0 (length (range_with_len 0 n))) ((k : ℕ) × (k < length (range_with_len 0 n)) × HoldsAt No (range_with_len 0 n) k)
    → MatchBool r ((i : ℕ) → i < n → Yes i) ((i : ℕ) × (i < n) × No i)
range_cases n true Yes No h = λ i l. let e = length-range_with_len 0 n in subst Yes (at n i l) (h i 0 (omega arith) (omega arith))
range_cases n false Yes No h =
    let e = length-range_with_len 0 n in
    let m = h.1 in
    let l : h.0 < n = omega arith in
    (h.0, l, subst No (at n h.0 l) (h.2 0))

pub every_cases : (test : ℕ → Bool) (n : ℕ) (r : Bool) → MatchBool r ((i : ℕ) → i < n → test i ≡ true) ((i : ℕ) × (i < n) × (test i ≡ false)) → r ≡ every test n
every_cases test n true h = sym (every_from test n h)
every_cases test n false h = sym (every_missed test n h.0 h.1 h.2)

pub tells_all : (n : ℕ) (r : Bool) (P : ℕ → Type 0) (A : Type 0) → (((i : ℕ) → i < n → P i) → A) → (A → (i : ℕ) → i < n → P i)
    → MatchBool r ((i : ℕ) → i < n → P i) ((i : ℕ) × (i < n) × (P i → ⊥)) → Tells r A
tells_all n true P A to from h = to h
tells_all n false P A to from h = λ a. h.2 (from a h.0 h.1)
