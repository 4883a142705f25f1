-- How many places help to repair a node. Assumes nothing.
use Rattle.std.proofs.Common.{◌≡◌, ℕ, zero, suc, ◌+◌, ◌-◌, ◌*◌, ◌/◌, ◌%◌, ◌^◌, ◌<◌, Bool, true, false, cond, eqb, ◌⊎◌, sym, ap, ◌∙◌, ap₂, inl, inr, mul_comm, one-mul, mul-zero, mul-one, mul-suc, mul-add, arith, pow-add}
use native.Mathlib.Nat.{pow-succ'}
use Rattle.std.proofs.lemmas.Nat.{div-mul-add, mod-mul-add}
use Rattle.std.proofs.lemmas.Bool.{cases_eq, eq-eqb, ne_eqb, cond-true, cond-false}
use Rattle.code.specs.Code.{helps}
use Rattle.code.proofs.Repair.{count_add}
use Rattle.shape.specs.Layout.{digit, row, column}
use Rattle.shape.specs.Outages.{count}
use Rattle.shape.proofs.Counts.{count_same, count_none, count_all}

-- a test that is the same over each block of b numbers
block : (g : ℕ → Bool) (x : Bool) (b : ℕ) → ((v : ℕ) → v < b → g v ≡ x) → count g b ≡ b * cond x 1 0
block g true b e = count_all g b e ∙ sym (mul-one b)
block g false b e = count_none g b e ∙ sym (mul-zero b)

count_blocks : (g h : ℕ → Bool) (b n : ℕ) → ((u v : ℕ) → u < n → v < b → g (b * u + v) ≡ h u) → count g (b * n) ≡ b * count h n
unfolding count
count_blocks g h b zero e = ap (count g) (mul-zero b) ∙ sym (mul-zero b)
count_blocks g h b (suc n) e =
    ap (count g) (mul-suc b n) ∙ count_add g (b * n) b
    ∙ ap₂ (λ x y. x + y) (count_blocks g h b n (λ u v lu lv. e u v (omega arith) lv)) (block (λ v. g (b * n + v)) (h n) b (λ v lv. e n v (omega arith) lv))
    ∙ sym (mul-add b (count h n) (cond (h n) 1 0))

-- one that goes round in cycles of m numbers
count_cycles : (g : ℕ → Bool) (m c n : ℕ) → ((w : ℕ) → w < n → count (λ r. g (m * w + r)) m ≡ c) → count g (m * n) ≡ c * n
unfolding count
count_cycles g m c zero e = ap (count g) (mul-zero m) ∙ sym (mul-zero c)
count_cycles g m c (suc n) e =
    ap (count g) (mul-suc m n) ∙ count_add g (m * n) m
    ∙ ap₂ (λ x y. x + y) (count_cycles g m c n (λ w lw. e w (omega arith))) (e n (omega arith))
    ∙ sym (mul-suc c n)

-- one number
count_one : (x n : ℕ) → x < n → count (λ r. eqb r x) n ≡ 1
count_one x zero l = absurd (omega arith)
count_one x (suc n) l = go (cases_eq n x) (λ k. count_one x n k)
  where
    go : (n ≡ x) ⊎ (n ≡ x → ⊥) → (x < n → count (λ r. eqb r x) n ≡ 1) → count (λ r. eqb r x) (suc n) ≡ 1
    go (inl e) below =
        unfold count in
        let a = count_none (λ r. eqb r x) n (λ r lr. ne_eqb r x (λ k. omega arith)) in
        let b = cond-true {A = ℕ} (eqb n x) 1 0 (eq-eqb n x e) in
        omega arith
    go (inr ne) below = unfold count in let a = below (omega arith) in let b = cond-false {A = ℕ} (eqb n x) 1 0 (ne_eqb n x ne) in omega arith

module _ (q : ℕ) (pos : 0 < q) (y k x : ℕ) (lx : x < q) where
  -- the numbers of y + 1 + k digits in base q whose digit y is x
  digits_count : count (λ p. eqb (p / q ^ y % q) x) (q ^ y * (q * q ^ k)) ≡ q ^ y * q ^ k
  digits_count =
      count_blocks (λ p. eqb (p / q ^ y % q) x) (λ u. eqb (u % q) x) (q ^ y) (q * q ^ k)
      (λ u v lu lv. ap (λ z. eqb (z % q) x) (ap (λ z. (z + v) / q ^ y) (mul_comm (q ^ y) u) ∙ div-mul-add u (q ^ y) v lv))
      ∙ ap (λ z. q ^ y * z)
      (count_cycles (λ u. eqb (u % q) x) q 1 (q ^ k)
      (λ w lw.
      count_same (λ r. eqb ((q * w + r) % q) x) (λ r. eqb r x) q (λ r lr. ap (λ z. eqb z x) (ap (λ z. (z + r) % q) (mul_comm q w) ∙ mod-mul-add w q r lr))
      ∙ count_one x q lx)
      ∙ one-mul (q ^ k))

-- q ^ (t - 1) places help
pub helpers_count : (q t i : ℕ) → 0 < q → row q i < q → column q i < t → count (helps q i) (q ^ t) ≡ q ^ (t - 1)
unfolding digit
helpers_count q t i pos lx ly =
    let y : ℕ = column q i in
    let k : ℕ = t - 1 - y in
    let whole : q ^ t ≡ q ^ y * (q * q ^ k) = ap (λ n. q ^ n) (let e : t ≡ y + suc k = omega arith in e) ∙ pow-add q y (suc k) ∙ ap (λ z. q ^ y * z) (pow-succ' q k) in
    let rest : q ^ y * q ^ k ≡ q ^ (t - 1) = sym (pow-add q y k) ∙ ap (λ n. q ^ n) (let e : y + k ≡ t - 1 = omega arith in e) in
    ap (count (helps q i)) whole ∙ digits_count q pos y k (row q i) lx ∙ rest
