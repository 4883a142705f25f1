-- How many records there are, and where they lie. Assumes nothing.
use Rattle.std.proofs.Common.{◌≡◌, ℕ, ◌*◌, ◌/◌, ◌≤◌, List, length, sym, ap, ◌∙◌, add-zero, mul-le-mul_right, arith}
use Rattle.std.proofs.lemmas.Nat.{div-add-mod', div-mul-add}
use Rattle.rack_image.specs.Image.{record_length, record_count}

pub count_within : (places : ℕ) (bytes : List ℕ) → record_count places bytes * record_length places ≤ length bytes
count_within places bytes =
    let le : record_count places bytes ≤ length bytes / record_length places = omega arith in
    let a = mul-le-mul_right (record_length places) le in
    omega (arith, a, div-add-mod' (length bytes) (record_length places))

-- bytes of just so many records
pub count_is : (n places : ℕ) (bytes : List ℕ) → n ≤ 16 → length bytes ≡ n * record_length places → record_count places bytes ≡ n
count_is n places bytes few long =
    let e : length bytes / record_length places ≡ n = ap (λ l. l / record_length places) (long ∙ sym (add-zero (n * record_length places))) ∙ div-mul-add n (record_length places) 0 (omega arith) in
    omega arith
