use Rattle.std.proofs.Common.{◌≡◌, ℕ, ◌+◌, ◌-◌, ◌*◌, ◌/◌, ◌%◌, ◌^◌, ◌<◌, ◌≤◌, ap, arith}
use native.Mathlib.Nat.{one-le-pow}
use Rattle.shape.specs.Layout.{digit, with_digit}
use Rattle.shape.proofs.Bounds.{Shaped, shaped, rows_positive, weight_bound, places_bound}
use Rattle.shape.proofs.Digits.{digit_fits, with_bound}
use Rattle.shape.proofs.dimensions.Shape.with_digit.Goals as goal

pub pow-weight-requires : goal.pow-weight-requires
pow-weight-requires c = omega (arith, weight_bound (shaped c.args.self) c.args.column (omega arith))

pub nonzero_div-own : goal.nonzero_div-own
nonzero_div-own c = omega (arith, one-le-pow c.args.column c.args.self.q (rows_positive (shaped c.args.self)), c.pow-weight.ensures)

-- the digit, by its weight w
own : (q p y w : ℕ) → w ≡ q ^ y → p / w % q ≡ digit q p y
unfolding digit
own q p y w e = ap (λ v. p / v % q) e

-- what the place has in that column, and the place after the change
parts : {q t : ℕ} → Shaped q t → (p y x w : ℕ) → w ≡ q ^ y → x < q → y < t → p < q ^ t → (p / w % q * w ≤ p) × (p - p / w % q * w + x * w ≤ 256)
unfolding with_digit
parts {q} {t} s p y x w e hx hy hp =
    let pos = rows_positive s in
    let d = own q p y w e in
    let a : p / w % q * w ≡ digit q p y * q ^ y = cc in
    let b : x * w ≡ x * q ^ y = cc in
    let fits = digit_fits q pos p y in
    let small = with_bound q pos p y x t hx hy hp in
    let few = places_bound s in
    (omega arith, omega arith)

pub overflow_mul-result : goal.overflow_mul-result
overflow_mul-result c = omega (arith, parts (shaped c.args.self) c.args.place c.args.column c.args.value c.pow-weight.result c.pow-weight.ensures c.requires.in_base c.requires.in_columns c.requires.in_node)

pub overflow_sub-result : goal.overflow_sub-result
overflow_sub-result c = omega (arith, parts (shaped c.args.self) c.args.place c.args.column c.args.value c.pow-weight.result c.pow-weight.ensures c.requires.in_base c.requires.in_columns c.requires.in_node)

pub overflow_mul-result-2 : goal.overflow_mul-result-2
overflow_mul-result-2 c = omega (arith, parts (shaped c.args.self) c.args.place c.args.column c.args.value c.pow-weight.result c.pow-weight.ensures c.requires.in_base c.requires.in_columns c.requires.in_node)

pub overflow_add-result : goal.overflow_add-result
overflow_add-result c = omega (arith, parts (shaped c.args.self) c.args.place c.args.column c.args.value c.pow-weight.result c.pow-weight.ensures c.requires.in_base c.requires.in_columns c.requires.in_node)

pub returns : goal.returns
unfolding with_digit
returns c = let d = own c.args.self.q c.args.place c.args.column c.pow-weight.result c.pow-weight.ensures in (cc, cc)
