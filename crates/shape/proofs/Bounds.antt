-- Bounds on the numbers of a shape. Assumes nothing.
use Rattle.std.proofs.Common.{◌≡◌, ℕ, ◌-◌, ◌*◌, ◌^◌, ◌<◌, ◌≤◌, Bool, true, cond, ◌&&◌, leb, sym, refl, ◌∙◌, mul-le-mul_right, mul-le-mul, mul-le-mul_left, arith}
use native.Mathlib.Nat.{pow-le-pow_right, one-le-pow}
use Rattle.std.proofs.lemmas.Bool.{and_from, and_parts, cond-true, leb-true, le-leb}
use Rattle.shape.specs.declared.dimensions.Shape.{Shape}
use Rattle.shape.specs.Layout.{is_shape}
use Rattle.shape.specs.Outages.{every}
use Rattle.shape.proofs.Every.{every_at}

-- a shape has at most 256 places: the test, at every number of rows and columns up to 8
abbrev few_places : ℕ → ℕ → Bool
few_places q t = cond (is_shape q t) (leb (q ^ t) 256) true

tested : every (λ q. every (few_places q) 9) 9 ≡ true
unfolding every
tested = refl

-- q rows and t columns are a shape
pub record Shaped (q t : ℕ) : Type 0 where
  pub wide : 2 ≤ q
  pub deep : 2 ≤ t
  pub few : q * t ≤ 16

pub shaped : (s : Shape) → Shaped s.q s.t
shaped s = record { wide = s.wide; deep = s.deep; few = s.few }

module _ {q t : ℕ} (s : Shaped q t) where
  pub shape_from : is_shape q t ≡ true
  shape_from = and_from (leb 2 q && leb 2 t) (leb (q * t) 16) (and_from (leb 2 q) (leb 2 t) (le-leb 2 q s.wide) (le-leb 2 t s.deep)) (le-leb (q * t) 16 s.few)

  pub rows_positive : 0 < q
  rows_positive = omega arith

  pub places_positive : 0 < q ^ t
  places_positive = one-le-pow t q rows_positive

  pub rows_bound : q ≤ 8
  rows_bound = let a = mul-le-mul_left q s.deep in omega arith

  pub columns_bound : t ≤ 8
  columns_bound = let a = mul-le-mul_right t s.wide in omega arith

  pub places_bound : q ^ t ≤ 256
  places_bound =
      let a : q < 9 = let b = rows_bound in omega arith in
      let c : t < 9 = let d = columns_bound in omega arith in
      let e = every_at (few_places q) 9 (every_at (λ r. every (few_places r) 9) 9 tested q a) t c in
      leb-true (q ^ t) 256 (sym (cond-true (is_shape q t) (leb (q ^ t) 256) true shape_from) ∙ e)

  -- the weight of a digit
  pub weight_bound : (y : ℕ) → y ≤ t → q ^ y ≤ 256
  weight_bound y l = let a : q ^ y ≤ q ^ t = pow-le-pow_right (omega arith) l in let b = places_bound in omega arith

  pub data_bound : q * (t - 1) ≤ 16
  data_bound = let l : t - 1 ≤ t = omega arith in let a = mul-le-mul_left q l in omega arith

  pub words_bound : q * t * q ^ t ≤ 4096
  words_bound = mul-le-mul s.few places_bound

  pub message_bound : q * (t - 1) * q ^ t ≤ 4096
  message_bound = mul-le-mul data_bound places_bound

pub shape_parts : (q t : ℕ) → is_shape q t ≡ true → Shaped q t
shape_parts q t e =
    let a = and_parts (leb 2 q && leb 2 t) (leb (q * t) 16) e in
    let b = and_parts (leb 2 q) (leb 2 t) a.0 in
    record { wide = leb-true 2 q b.0; deep = leb-true 2 t b.1; few = leb-true (q * t) 16 a.1 }
