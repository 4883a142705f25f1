-- Numbers that are printed one after another.
use Rattle.std.proofs.Common.{◌≡◌, ℕ, ◌+◌, ◌^◌, ◌<◌, ◌≤◌, List, [], ◌∷◌, ◌++◌, length, get_or, take, codes, sym, refl, ap, ◌∙◌, append_assoc, rules}
use Rattle.std.proofs.lemmas.List.{take_more, take_all, append-nil}
use Rattle.std.proofs.lemmas.Fmt.{AppendsLastDigit, decimal_from_appends, length-decimal-le_succ}
use Rattle.std.specs.Fmt as written
use Rattle.lines.specs.Printed.{digits, decimal, spaced, no_line, ok_line}

pub spaced_append : (xs ys : List ℕ) → spaced (xs ++ ys) ≡ spaced xs ++ spaced ys
unfolding spaced
spaced_append [] ys = refl
spaced_append (x ∷ xs) ys = ap (λ l. (32 ∷ decimal x) ++ l) (spaced_append xs ys) ∙ sym (append_assoc (32 ∷ decimal x) (spaced xs) (spaced ys))

appends : AppendsLastDigit digits
appends = search rules

-- a number as the library writes it
pub decimal_is : (n : ℕ) → n < 2 ^ 64 → decimal n ≡ written.decimal n
unfolding decimal
decimal_is n h = decimal_from_appends digits appends (n + 1) n h (length-decimal-le_succ n h)

pub spaced_one : (n : ℕ) → n < 2 ^ 64 → spaced (n ∷ []) ≡ 32 ∷ written.decimal n
unfolding spaced
spaced_one n h = ap (λ ds. 32 ∷ ds) (append-nil (decimal n) ∙ decimal_is n h)

-- the numbers before a place are printed after what stood there
abbrev pub Printed : List ℕ → List ℕ → List ℕ → ℕ → Type 0
Printed before now xs i = now ≡ before ++ spaced (take i xs)

pub printed_none : (before xs : List ℕ) → Printed before before xs 0
unfolding spaced
printed_none before xs = sym (append-nil before)

pub printed_more : (before now next xs : List ℕ) (i : ℕ) → i < length xs → get_or xs i 0 < 2 ^ 64 → Printed before now xs i → next ≡ now ++ 32 ∷ written.decimal (get_or xs i 0) → Printed before next xs (i + 1)
printed_more before now next xs i h k p q =
    q ∙ ap (λ l. l ++ 32 ∷ written.decimal (get_or xs i 0)) p ∙ append_assoc before (spaced (take i xs)) (32 ∷ written.decimal (get_or xs i 0))
    ∙ ap (λ l. before ++ (spaced (take i xs) ++ l)) (sym (spaced_one (get_or xs i 0) k))
    ∙ ap (λ l. before ++ l) (sym (ap spaced (take_more xs i 0 h) ∙ spaced_append (take i xs) (get_or xs i 0 ∷ [])))

-- the answer to a call that was refused, as it is printed
pub no_printed : (n : ℕ) → n < 2 ^ 64 → codes "no " ++ (written.decimal n ++ 10 ∷ []) ≡ no_line n
no_printed n h = ap (λ l. codes "no" ++ (l ++ 10 ∷ [])) (sym (spaced_one n h))

-- the answer to a call that was accepted, as it is printed: a beginning, the words, and the line's end
pub ok_printed : (words begin now end whole : List ℕ) (filled drawn i : ℕ) → filled < 2 ^ 64 → drawn < 2 ^ 64 → begin ≡ codes "ok " ++ (written.decimal filled ++ 32 ∷ written.decimal drawn)
    → length words ≤ i → Printed begin now words i → end ≡ 10 ∷ [] → whole ≡ now ++ end → whole ≡ ok_line filled drawn words
ok_printed words begin now end whole filled drawn i h k b least p e w =
    let all : now ≡ begin ++ spaced words = p ∙ ap (λ l. begin ++ spaced l) (take_all i words least) in
    let parts : spaced (filled ∷ drawn ∷ words) ≡ (32 ∷ written.decimal filled) ++ ((32 ∷ written.decimal drawn) ++ spaced words) =
    spaced_append (filled ∷ []) (drawn ∷ words) ∙ ap (λ l. spaced (filled ∷ []) ++ l) (spaced_append (drawn ∷ []) words) ∙ rw (spaced_one filled h, spaced_one drawn k) in
    w ∙ rw (e, all, b, parts) (simp append_assoc)
