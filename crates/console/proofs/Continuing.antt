-- A text answered line by line: how the lines still to come continue those before. Assumes nothing.
use Rattle.std.proofs.Common.{◌≡◌, ℕ, ◌+◌, ◌-◌, ◌<◌, ◌≤◌, ◌==◌, min, not, Bool, true, false, cond, List, [], ◌∷◌, ◌++◌, length, get_or, take, drop, Some, None, zero, suc, sym, refl, ap, ◌∙◌, subst, ⊎_elim, append_assoc, add-one, arith, lt-ltb}
use native.Mathlib.Nat.{min-eq_left, min-eq_right}
use Rattle.std.proofs.lemmas.List.{append-nil, take_all, take_rest}
use Rattle.std.proofs.lemmas.List.Quantifiers.{position-Some}
use Rattle.std.proofs.lemmas.List.Sums.{prefix_len_passes}
use Rattle.std.specs.List.{position, position_or_len}
use Rattle.std.proofs.lemmas.Bool.{cases_lt}
use Rattle.console.specs.Session.{State, closed, Answered}
use Rattle.console.specs.Transcript.{lines_after, lines_of, Transcribed, none, next}

-- the byte that ends a line
abbrev ends : ℕ → Bool
ends b = b == 10

-- the first line of a text, where bytes of it have come before
line_cut : (begun text : List ℕ) (end : ℕ) → end < length text → ends (get_or text end 0) ≡ true → ((k : ℕ) → k < end → ends (get_or text k 0) ≡ false)
    → lines_after begun text ≡ (begun ++ take end text) ∷ lines_of (drop (suc end) text)
unfolding lines_after
line_cut begun [] end h here before = absurd (omega arith)
line_cut begun (b ∷ bs) zero h here before = rw here (ap (λ l. l ∷ lines_of bs) (sym (append-nil begun)))
line_cut begun (b ∷ bs) (suc e) h here before =
    rw (before 0 (omega arith))
    (line_cut (begun ++ b ∷ []) bs e (omega arith) here (λ k lt. before (suc k) (omega arith)) ∙ ap (λ l. l ∷ lines_of (drop (suc e) bs)) (append_assoc begun (b ∷ []) (take e bs)))

-- a text without a line's end has no complete line
line_open : (begun text : List ℕ) → ((k : ℕ) → k < length text → ends (get_or text k 0) ≡ false) → lines_after begun text ≡ []
unfolding lines_after
line_open begun [] other = refl
line_open begun (b ∷ bs) other = rw (other 0 (omega arith)) (line_open (begun ++ b ∷ []) bs (λ k lt. other (suc k) (omega arith)))

line_at : (text : List ℕ) (end : ℕ) → position ends text ≡ Some end → lines_of text ≡ take end text ∷ lines_of (drop (end + 1) text)
line_at text end e =
    let f = position-Some ends text end 0 e in
    rw add-one (line_cut [] text end f.0 f.1 f.2)

other_than : (b : Bool) → not b ≡ true → b ≡ false
other_than true e = cc
other_than false e = refl

no_line : (text : List ℕ) → position ends text ≡ None → lines_of text ≡ []
no_line text e =
    let n = position_or_len ends text in
    line_open [] text (λ k lt.
    ⊎_elim
    (λ less. let here : position ends text ≡ Some n = ap (λ t. cond t (Some n) None) (lt-ltb n (length text) less) in cc)
    (λ all. other_than (ends (get_or text k 0)) (prefix_len_passes (λ x. not (ends x)) text k 0 (omega arith)))
    (cases_lt n (length text)))

-- however the lines of what is left are answered, all lines are answered so
abbrev pub Continues : List ℕ → List ℕ → List ℕ → State → Type 0
Continues text left out s = (rest : List ℕ) (final : State) → Transcribed s (lines_of left) rest final → Transcribed closed (lines_of text) (out ++ rest) final

-- past a line that was answered, which is `&left[..end]`, to `&left[end + 1..]`, as the checker reads them
pub continues_line : (text left out out' bytes : List ℕ) (s s' : State) (end : ℕ) → Some end ≡ position ends left → Answered s (take end left) bytes s' → out' ≡ out ++ bytes
    → Continues text left out s → Continues text (take (length left - (end + 1)) (drop (end + 1) left)) out' s'
continues_line text left out out' bytes s s' end at a eo before rest final h =
    let line = take end left in
    let after = take (length left - (end + 1)) (drop (end + 1) left) in
    let cut : lines_of left ≡ line ∷ lines_of after =
    line_at left end (sym at) ∙ ap (λ l. line ∷ lines_of l) (sym (take_rest left (end + 1))) in
    let all = before (bytes ++ rest) final (subst (λ ls. Transcribed s ls (bytes ++ rest) final) (sym cut) (next bytes a h)) in
    subst (λ o. Transcribed closed (lines_of text) o final) (sym (append_assoc out bytes rest) ∙ ap (λ o. o ++ rest) (sym eo)) all

-- at the end
pub continues_all : (text left out : List ℕ) (s : State) → None ≡ position ends left → Continues text left out s → (final : State) × Transcribed closed (lines_of text) out final
continues_all text left out s at before =
    let all = before [] s (subst (λ ls. Transcribed s ls [] s) (sym (no_line left (sym at))) none) in
    (s, subst (λ o. Transcribed closed (lines_of text) o s) (append-nil out) all)

-- the first bytes of an input, where it may have fewer
pub counted : (input : List ℕ) (end limit : ℕ) → end ≡ min (length input) limit → take end input ≡ take limit input
counted input end limit e =
    ap (λ n. take n input) e
    ∙ ⊎_elim
    (λ less. let short : length input ≤ limit = omega arith in ap (λ n. take n input) (min-eq_left short) ∙ take_all (length input) input (omega arith) ∙ sym (take_all limit input short))
    (λ long. ap (λ n. take n input) (min-eq_right long))
    (cases_lt (length input) limit)
