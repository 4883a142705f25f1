-- The front of the vector grows by what each read gave; it ends full, or with all that the reader had.
use Rattle.std.proofs.Common.{◌≡◌, ℕ, ◌+◌, ◌≤◌, List, ◌++◌, Option, Some, None, Result, Ok, Err, IfSome, IfOk, IsErr, vec_len, take, drop, length, refl, sym, ap, ◌∙◌, subst, subst₂, arith, rules, take_all, take_at, take-take, length-append, length-take-le, append_assoc}
use Rattle.std.specs.Io.KnownBytes.{Consumes, IsAtEnd}
use Rattle.std.proofs.KnownBytes.{Consumes-nil, Consumes-trans, Consumes-whole}
use borrow.Rule.Slice.PartMut.{put_mid, post_of}
use lib.Seq.{take-append-add, take-append-le}
use Rattle.pulse_vault.proofs.first_bytes.Goals as goal
use Rattle.pulse_vault.proofs.first_bytes.Goals.{else-loop-len-test, then-loop-len-test+in_ok-n+then-n-eq0}

-- after a read of n bytes into the part from `at` on, the first k are the old front and those n
grown : (k at n m room : ℕ) (xs now ys : List ℕ) → k ≡ at + n → k ≤ m → at ≤ length xs → n ≤ length ys → now ≡ xs
    → take k (take m (put_mid at room now ys ++ drop (length (put_mid at room now ys)) xs)) ≡ take at xs ++ take n ys
grown k at n m room xs now ys sum within front part same =
    let rest = drop (length (put_mid at room now ys)) xs in
    let tail : List ℕ = ys ++ (post_of at room now ++ rest) in
    take-take k m _ within
    ∙ ap (take k) (append_assoc (take at now) _ rest ∙ ap (λ l. take at now ++ l) (append_assoc ys _ rest))
    ∙ ap (λ l. take k (take at l ++ tail)) same
    ∙ subst (λ j. take j (take at xs ++ tail) ≡ take at xs ++ take n tail) (ap (λ j. j + n) (length-take-le at xs front) ∙ sym sum) (take-append-add (take at xs) tail n)
    ∙ ap (λ l. take at xs ++ l) (take-append-le n ys _ part)

-- as many bytes as the limit are the first ones
full : (a b : Option (List ℕ)) (bs : List ℕ) (limit : ℕ) → length bs ≡ limit → Consumes a b bs → IfSome a (λ all. bs ≡ take limit all)
full None b bs limit long p = tt
full (Some xs) None bs limit long p = absurd p
full (Some xs) (Some ys) bs limit long p = sym (ap (take limit) p ∙ take_at bs ys limit long)

-- a reader at its end gave all, which the limit leaves whole
ended : (a b : Option (List ℕ)) (bs : List ℕ) (limit : ℕ) → length bs ≤ limit → Consumes a b bs → IsAtEnd b → IfSome a (λ all. bs ≡ take limit all)
ended a b bs limit long p end = Consumes-whole a b bs (λ all. bs ≡ take limit all) p end (sym (take_all limit bs long))

-- of an error nothing is said
refused : {X E : Type 0} (a : Option (List ℕ)) (r : Result X E) (P : List ℕ → X → Type 0) → IsErr r → IfSome a (λ all. IfOk r (P all))
refused None r P is = tt
refused (Some xs) (Ok x) P is = cc
refused (Some xs) (Err e) P is = tt

pub loop-len-init : goal.loop-len-init
loop-len-init g c = (refl, search rules, Consumes-nil _)

pub loop-len-preserved : goal.loop-len-preserved
loop-len-preserved g c =
    let read = c.in_ok-n.ensures in (
      search rules,
      omega arith,
      subst (Consumes _ _) (sym (grown _ _ _ _ _ c.loop-len.bytes.items _ _ refl (omega arith) (omega arith) read.bound.0 c.deref_mut.ensures.value))
          (Consumes-trans _ _ _ _ _ c.loop-len.invariant.2 read.bytes.0),
    )

pub returns-in_err-n : goal.returns-in_err-n
returns-in_err-n g c = refused _ c.from_residual-in_err-n.result (λ all bytes. bytes.items ≡ take 65536 all) c.from_residual-in_err-n.ensures.0

pub returns : goal.returns
returns g c =
    let claim : List ℕ → ℕ → Type 0 = λ bs n. IfSome (g.R.Read.remaining c.args.reader) (λ all. bs ≡ take n all) in
    let limit : ℕ = vec_len c.in_ok-bytes.bytes in
    let is : limit ≡ 65536 = c.in_ok-bytes.ensures.len in
    let size : length (take c.loop-len.len c.loop-len.bytes.items) ≡ c.loop-len.len = length-take-le _ _ (omega arith) in
    let front : claim (take c.loop-len.len c.loop-len-test.bytes.items) limit =
    elim c.loop-len-test.branch [
      | else-loop-len-test w ↦ subst (λ v. claim (take c.loop-len.len v.items) limit) (sym w.bytes-is) (full _ _ _ limit (omega arith) c.loop-len.invariant.2)
      | then-loop-len-test+in_ok-n+then-n-eq0 w ↦
          let read = w.in_ok-n.ensures in
          subst (λ v. claim (take c.loop-len.len v.items) limit) (sym w.bytes-is)
          (subst (λ l. claim l limit) (sym (grown _ _ _ _ _ c.loop-len.bytes.items _ _ (omega arith) (omega arith) (omega arith) read.bound.0 w.deref_mut.ensures.value))
          (ended _ _ _ limit (omega (arith, length-append {A = ℕ})) (Consumes-trans _ _ _ _ _ c.loop-len.invariant.2 read.bytes.0) (read.bytes.1 w.if-n-eq0.true (omega arith))))
    ] in
    subst₂ claim (sym c.truncate.ensures.items) is front
