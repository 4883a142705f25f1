use Rattle.std.proofs.Common.{◌≡◌, ℕ, ◌^◌, ◌<◌, ◌≤◌, min, Option, Some, None, SomeIff, IfSome, ap, ◌∙◌, arith}
use native.Mathlib.Nat.{one-le-pow, pow-le-pow_right}
use Rattle.shape.proofs.Bounds.{shaped, rows_positive, weight_bound}
use Rattle.shape.proofs.Digits.{weight_fits}
use Rattle.shape.proofs.dimensions.Shape.weight.Goals as goal

pub pow-requires : goal.pow-requires
pow-requires c = omega (arith, weight_bound (shaped c.args.self) c.args.column (omega arith))

pub returns-then-column-self-clause-positive : goal.returns-then-column-self-clause-positive
returns-then-column-self-clause-positive c = omega (arith, c.pow.ensures, one-le-pow c.args.column c.args.self.q (rows_positive (shaped c.args.self)))

-- what fits at the smaller of a column and 64 is the weight of the column itself
tested : (q y m : ℕ) → 2 ≤ q → m ≡ min y 64 → (o : Option ℕ) → SomeIff o (q ^ m < 2 ^ 64) (q ^ m) → SomeIff o (q ^ y < 2 ^ 64) (q ^ y)
tested q y m wide e (Some w) h =
    let same : m ≡ y = e ∙ weight_fits q (omega arith) y wide (rw e at h.0) in
    (rw same at h.0, h.1 ∙ ap (λ k. q ^ k) same)
tested q y m wide e None h = λ l. h (let le : q ^ m ≤ q ^ y = pow-le-pow_right (omega arith) (omega arith) in omega arith)

above : (q m : ℕ) → 2 ≤ q → (o : Option ℕ) → SomeIff o (q ^ m < 2 ^ 64) (q ^ m) → IfSome o (λ w. 0 < w)
above q m wide (Some w) h = omega (arith, h.1, one-le-pow m q (omega arith))
above q m wide None h = tt

pub returns-else-column-self : goal.returns-else-column-self
returns-else-column-self c =
    let q = c.args.self.q in
    let m = c.min.result in
    let o = c.checked_pow.result in
    let h = c.checked_pow.ensures in
    record { value = tested q c.args.column m c.args.self.wide c.min.ensures o h; positive = above q m c.args.self.wide o h }
