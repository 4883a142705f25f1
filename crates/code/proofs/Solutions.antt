-- A solution in place is the only one. Assumes nothing.
use Rattle.std.proofs.Common.{◌≡◌, ℕ, ◌+◌, ◌<◌, ◌≤◌, true, List, length, get_or, drop, sym, ap, ◌∙◌, arith}
use Rattle.std.proofs.lemmas.List.{ext_get_or, length-drop, get_or-drop}
use Rattle.field.specs.Field.{Arith, Laws}
use Rattle.shape.specs.Outages.{rising}
use Rattle.code.specs.Calls.{Rest, Solution}
use Rattle.code.specs.Solving.{KeptFrom, reads, points, Codes}
use Rattle.code.specs.Theorems.{Solves}
use Rattle.code.proofs.InPlace.{listed_apart}
use Rattle.code.proofs.Main.{only_solution}
use Rattle.code.proofs.Sums.{moment_same}
use Rattle.code.proofs.Words.{read_code}

-- words that are kept, as a list
pub rest_kept : (n : ℕ) (before after : List ℕ) → length after ≡ length before → KeptFrom before after n → Rest n before after
rest_kept n before after l kept =
    let a = length-drop n after in
    let b = length-drop n before in
    ext_get_or 0 (drop n after) (drop n before) (omega arith) (λ i h. get_or-drop n after i 0 ∙ kept (n + i) (omega arith) ∙ sym (get_or-drop n before i 0))

module _ {E : Type 0} (f : Arith E) (laws : Laws f) where
  -- words that are codes are their elements
  pub same_word : (v w : ℕ) → v < f.size → w < f.size → f.of v ≡ f.of w → v ≡ w
  same_word v w hv hw e = sym (laws.code_of v hv) ∙ ap f.code e ∙ laws.code_of w hw

  pub solution : (n : ℕ) (nodes before after : List ℕ) → n ≤ 16 → rising n nodes ≡ true → length after ≡ length before
      → Codes f before (length nodes) → Codes f after (length nodes) → Solves f (points f nodes) (reads f after) (reads f before) (length nodes)
      → KeptFrom before after (length nodes) → Solution f nodes before after
  solution n nodes before after few e l codes_before codes solves kept =
      let m : ℕ = length nodes in
      let pt : ℕ → E = points f nodes in
      let x : ℕ → E = λ k. f.of (get_or after k 0) in
      let s : ℕ → E = λ k. f.of (get_or before k 0) in
      let solves_of : Solves f pt x s m = λ d h.
      moment_same f laws pt x (reads f after) m d (λ k lk. sym (read_code f (get_or after k 0) (codes k lk)))
      ∙ solves d h ∙ read_code f (get_or before d 0) (codes_before d h) in
      record {
        codes = codes;
        solves = solves_of;
        only = λ y hy solves_y k lk.
            same_word (get_or y k 0) (get_or after k 0) (hy k lk) (codes k lk)
            (only_solution f laws m pt s (λ j. f.of (get_or y j 0)) x (listed_apart f laws n nodes few e) solves_y solves_of k lk);
        rest = rest_kept m before after l kept;
      }
