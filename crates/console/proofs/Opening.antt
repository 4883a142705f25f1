-- A table takes the counts of every shape. Assumes nothing.
use Rattle.std.proofs.Common.{◌≡◌, ℕ, ◌*◌, ◌^◌, ◌≤◌, true, cond, ◌&&◌, leb, ap, ◌∙◌, mul-le-mul, arith}
use Rattle.std.proofs.lemmas.Bool.{and_from, le-leb}
use Rattle.shape.specs.declared.dimensions.Shape.{Shape}
use Rattle.shape.proofs.Bounds.{shaped, places_positive, places_bound}
use Rattle.rack.specs.Model.{fitting}
use Rattle.rack.specs.Table.{not_made}
use Rattle.rack.specs.declared.table_error.TableError.{TableError}
use Rattle.rack.specs.declared.table_error.TableError.TheVariants.{Refused, NoMemory}
use Rattle.refusal.specs.declared.reason.Refusal.TheVariants.{Size}

pub shape_fits : (s : Shape) → fitting (s.q * s.t) (s.q ^ s.t) ≡ true
shape_fits s =
    let n = s.q * s.t in
    let w = s.q ^ s.t in
    let some : 1 ≤ n = (let a : 2 * 2 ≤ n = mul-le-mul s.wide s.deep in omega arith) in
    and_from (leb 1 n && leb n 16) (leb 1 w && leb w 256)
    (and_from (leb 1 n) (leb n 16) (le-leb 1 n some) (le-leb n 16 s.few))
    (and_from (leb 1 w) (leb w 256) (le-leb 1 w (places_positive (shaped s))) (le-leb w 256 (places_bound (shaped s))))

-- so where no table is made, memory is wanting
pub table_wants : (s : Shape) {n w : ℕ} {error : TableError} → n ≡ s.q * s.t → w ≡ s.q ^ s.t → error ≡ not_made n w → error ≡ NoMemory
table_wants s {n} {w} {error} en ew e =
    let fits : fitting n w ≡ true = ap (λ k. fitting k w) en ∙ ap (λ k. fitting (s.q * s.t) k) ew ∙ shape_fits s in
    e ∙ ap (λ b. cond b NoMemory (Refused Size)) fits
