use Rattle.std.proofs.Common.{◌≡◌, ℕ, ◌*◌, ◌^◌, ◌<◌, ◌≢◌, ◌∙◌, Result, Ok, Err, MatchResult, Some, IfSome, sym, ap, subst, arith}
use Rattle.std.specs.Result.{result_ok}
use Rattle.refusal.specs.declared.reason.Refusal.{Refusal}
use Rattle.refusal.specs.declared.reason.Refusal.TheVariants.{NoSuchPlace}
use Rattle.shape.specs.Layout.{row, column, digit, node_at, companion_node, companion_place}
use Rattle.shape.proofs.Bounds.{shaped, rows_positive}
use Rattle.shape.proofs.Digits.{node_own, row_companion}
use Rattle.code.proofs.Places.{companion_node_within, companion_place_within}
use Rattle.code.proofs.symbols.companion.Goals as goal

-- what the shape answers, where it answers
answered : (q t i p : ℕ) (r : Result (ℕ × ℕ) Refusal)
    → MatchResult r (λ c. (i < q * t) × (p < q ^ t) × (c.0 ≡ companion_node q i p) × (c.1 ≡ companion_place q i p)) (λ e. (e ≡ NoSuchPlace) × (i < q * t → p < q ^ t → ⊥))
    → IfSome (result_ok r) (λ c. (c.0 ≡ companion_node q i p) × (c.1 ≡ companion_place q i p))
answered q t i p (Ok c) h = (h.2, h.3)
answered q t i p (Err e) h = tt

found : (q t i p : ℕ) (r : Result (ℕ × ℕ) Refusal)
    → MatchResult r (λ c. (i < q * t) × (p < q ^ t) × (c.0 ≡ companion_node q i p) × (c.1 ≡ companion_place q i p)) (λ e. (e ≡ NoSuchPlace) × (i < q * t → p < q ^ t → ⊥))
    → (n m : ℕ) → Some (n, m) ≡ result_ok r → (n ≡ companion_node q i p) × (m ≡ companion_place q i p)
found q t i p r h n m e = subst (λ o. IfSome o (λ c. (c.0 ≡ companion_node q i p) × (c.1 ≡ companion_place q i p))) (sym e) (answered q t i p r h)

-- a node is its own companion where its row is the digit, and nowhere else
own : (q i p : ℕ) → 0 < q → row q i ≡ digit q p (column q i) → companion_node q i p ≡ i
unfolding companion_node
own q i p pos e = ap (λ x. node_at q x (column q i)) (sym e) ∙ node_own q pos i

pub returns-then-c-node : goal.returns-then-c-node
returns-then-c-node c =
    let q = c.args.shape.q in
    let f = found c.args.shape.q c.args.shape.t c.args.node c.args.place c.companion.result c.companion.ensures c.in_ok-c.c c.in_ok-c.d c.in_ok-c.ensures.value in
    let e : c.args.node ≡ companion_node q c.args.node c.args.place = omega arith in
    ap (row q) e ∙ row_companion q (rows_positive (shaped c.args.shape)) c.args.node c.args.place

pub returns-else-c-node : goal.returns-else-c-node
returns-else-c-node c =
    let s = shaped c.args.shape in
    let f = found c.args.shape.q c.args.shape.t c.args.node c.args.place c.companion.result c.companion.ensures c.in_ok-c.c c.in_ok-c.d c.in_ok-c.ensures.value in
    let ne : row c.args.shape.q c.args.node ≢ digit c.args.shape.q c.args.place (column c.args.shape.q c.args.node) = λ e. let o = own c.args.shape.q c.args.node c.args.place (rows_positive s) e in omega arith in
    (ne, f.0, f.1, companion_node_within s c.args.node c.args.place c.requires.node c.requires.place _ f.0, companion_place_within s c.args.node c.args.place c.requires.node c.requires.place _ f.1)
