-- The theorems of specs/Theorems. Assumes nothing.
use Rattle.std.proofs.Common.{◌≡◌, ℕ, ◌<◌, Bool, true, sym, refl, ap, ◌∙◌, arith}
use Rattle.std.proofs.lemmas.Bool.{true≢false}
use Rattle.field.specs.Field.{Arith, Laws}
use Rattle.shape.specs.Outages.{count}
use Rattle.shape.proofs.Counts.{count_all}
use Rattle.code.specs.Code.{minus, moment}
use Rattle.code.specs.Filling.{solved_by}
use Rattle.code.specs.Theorems.{Apart, Solves, VandermondeSome, VandermondeOne, OnlyOne, SomeOne, RepairOne, RepairSome}
use Rattle.code.proofs.Ring.{same, minus_self}
use Rattle.code.proofs.Sums.{moment_sum, moment_neg}
use Rattle.code.proofs.Vandermonde.{only_zero, solved}
use Rattle.code.proofs.OnlyOne.{only_one}
use Rattle.code.proofs.Completion.{some_one}
use Rattle.code.proofs.Repair.{repair_only_one, repaired, repaired_kept, repair_some_one}

-- every number is an unknown
abbrev pub each : ℕ → Bool
each i = true

count_each : (n : ℕ) → count each n ≡ n
count_each n = count_all each n (λ j l. refl)

module _ {E : Type 0} (f : Arith E) (laws : Laws f) where
  pub vandermonde_some : VandermondeSome f
  unfolding VandermondeSome
  vandermonde_some n point s apart =
      let k = count_each n in
      (solved_by f point each n s, λ e l. (solved f laws point each n s apart).1 e (omega arith))

  pub only_solution : (n : ℕ) (point s x y : ℕ → E) → Apart point n → Solves f point x s n → Solves f point y s n → (i : ℕ) → i < n → x i ≡ y i
  only_solution n point s x y apart hx hy i l =
      let k = count_each n in
      same f laws (x i) (y i)
      (only_zero f laws point each n n (λ j. minus f (x j) (y j)) apart (omega arith) (λ j lj e. absurd (true≢false e))
      (λ e le.
      moment_sum f laws point x (λ j. f.negative (y j)) n e ∙ ap (λ v. f.sum (moment f point x n e) v) (moment_neg f laws point y n e)
      ∙ minus_self f laws (moment f point x n e) (moment f point y n e) (hx e le ∙ sym (hy e le)))
      i l)

  pub vandermonde_one : VandermondeOne f
  unfolding VandermondeOne
  vandermonde_one = only_solution

  pub only_one_stands : OnlyOne f
  unfolding OnlyOne
  only_one_stands q t m erased A A' pos fits few checks checks' agree = only_one f laws q t pos fits erased m few A A' checks checks' agree

  pub some_one_stands : SomeOne f
  unfolding SomeOne
  some_one_stands q t m erased A pos fits enough = some_one f laws q t pos erased fits m enough A

  pub repair_one_stands : RepairOne f
  unfolding RepairOne
  repair_one_stands q t lost A A' pos fits within checks checks' agree = repair_only_one f laws q t pos fits lost within A A' checks checks' agree

  pub repair_some_stands : RepairSome f
  unfolding RepairSome
  repair_some_stands q t lost A pos fits within =
      (repaired f laws q t pos fits lost within A, repaired_kept f laws q t pos fits lost within A, repair_some_one f laws q t pos fits lost within A)
