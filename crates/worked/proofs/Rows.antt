-- Every row of the table passes its test, and a row that passes holds. Assumes nothing.
use Rattle.std.proofs.Common.{◌≡◌, ◌^◌, Bool, true, not, eqb, ltb, List, [], ◌∷◌, length, get_or, refl, subst}
use Rattle.code.specs.Code.{helps, power, total, moment, uncoupled}
use Rattle.field.specs.ByteField.{times_x, times_bits, multiply}
use Rattle.field.specs.ByteField.{power as byte_power}
use Rattle.field.specs.PrimeField.{power as prime_power}
use Rattle.refusal.specs.Numbers.{number_of}
use Rattle.refusal.specs.declared.reason.Refusal.TheVariants as reason
use Rattle.shape.specs.Layout.{is_shape, row, column, node_at, digit, with_digit, companion_node, companion_place}
use Rattle.shape.specs.Outages.{count, every, listed}
use Rattle.shape.proofs.Every.{every_at}
use Rattle.std.proofs.lemmas.Bool.{eqb-true, ltb-true, not-true}
use Rattle.worked.specs.Racks.{Refused}
use Rattle.worked.specs.Table.{Row, multiplies, inverts, shapes, shapes_not, has_digits, accompanies, encodes, repairs, refuses, field_of, all_words, Holds, AllHold, table}
use Rattle.worked.proofs.Fields.{laws_of}
use Rattle.worked.proofs.Tests.{all, passed, same_numbers, encodes_tests, repairs_tests, refuses_tests}
use Rattle.worked.proofs.Codewords.{encodes_from}
use Rattle.worked.proofs.Repairs.{repairs_from}
use Rattle.worked.proofs.Refusals.{refuses_from}

-- the tests of a row
abbrev tests : Row → List Bool
tests (multiplies k a b c) = ltb a (field_of k).size ∷ ltb b (field_of k).size ∷ eqb ((field_of k).code ((field_of k).product ((field_of k).of a) ((field_of k).of b))) c ∷ []
tests (inverts k a b) = ltb a (field_of k).size ∷ eqb ((field_of k).code ((field_of k).inverse ((field_of k).of a))) b ∷ []
tests (shapes q t) = is_shape q t ∷ []
tests (shapes_not q t number) = not (is_shape q t) ∷ eqb (number_of reason.Shape) number ∷ []
tests (has_digits q t p digits) = ltb p (q ^ t) ∷ eqb (length digits) t ∷ every (λ y. eqb (digit q p y) (get_or digits y 0)) t ∷ []
tests (accompanies q i p j r) = eqb (companion_node q i p) j ∷ eqb (companion_place q i p) r ∷ []
tests (encodes k q t message parity) = encodes_tests (field_of k) q t (all_words q t message parity) message
tests (repairs k q t message parity i places drawn refill) = repairs_tests (field_of k) q t (all_words q t message parity) i places drawn refill
tests (refuses k q t message parity i p word out number) = eqb 13 number ∷ all (refuses_tests (field_of k) q t (all_words q t message parity) i p word out) ∷ []

-- a row that passes holds
sound : (r : Row) → all (tests r) ≡ true → Holds r
sound (multiplies k a b c) e =
    let f = field_of k in
    let h = passed (tests (multiplies k a b c)) e in
    (ltb-true a f.size h.0, ltb-true b f.size h.1.0, eqb-true (f.code (f.product (f.of a) (f.of b))) c h.1.1.0)
sound (inverts k a b) e =
    let f = field_of k in
    let h = passed (tests (inverts k a b)) e in
    (ltb-true a f.size h.0, eqb-true (f.code (f.inverse (f.of a))) b h.1.0)
sound (shapes q t) e = (passed (tests (shapes q t)) e).0
sound (shapes_not q t number) e =
    let h = passed (tests (shapes_not q t number)) e in
    (not-true (is_shape q t) h.0, eqb-true (number_of reason.Shape) number h.1.0)
sound (has_digits q t p digits) e =
    let h = passed (tests (has_digits q t p digits)) e in
    (ltb-true p (q ^ t) h.0, eqb-true (length digits) t h.1.0, λ y ly. eqb-true (digit q p y) (get_or digits y 0) (every_at (λ y. eqb (digit q p y) (get_or digits y 0)) t h.1.1.0 y ly))
sound (accompanies q i p j r) e =
    let h = passed (tests (accompanies q i p j r)) e in
    (eqb-true (companion_node q i p) j h.0, eqb-true (companion_place q i p) r h.1.0)
sound (encodes k q t message parity) e = encodes_from (field_of k) (laws_of k) q t (all_words q t message parity) message e
sound (repairs k q t message parity i places drawn refill) e =
    let h = passed (tests (repairs k q t message parity i places drawn refill)) e in
    (same_numbers (listed (helps q i) (q ^ t)) places h.1.1.1.0, repairs_from (field_of k) (laws_of k) q t (all_words q t message parity) i places drawn refill e)
sound (refuses k q t message parity i p word out number) e =
    let h = passed (tests (refuses k q t message parity i p word out number)) e in
    λ m space r m' held room s. subst (λ n. Refused n r) (eqb-true 13 number h.0)
    (refuses_from (field_of k) (laws_of k) q t (all_words q t message parity) i p word out h.1.0 m space r m' held room s)

-- every row passes
abbrev test : List Row → Bool
test [] = true
test (r ∷ rs) = all (all (tests r) ∷ test rs ∷ [])

all_sound : (rs : List Row) → test rs ≡ true → AllHold rs
all_sound [] e = tt
all_sound (r ∷ rs) e = let h = passed (all (tests r) ∷ test rs ∷ []) e in (sound r h.0, all_sound rs h.1.0)

tested : test table ≡ true
unfolding times_x times_bits multiply byte_power prime_power row column node_at digit with_digit companion_node companion_place count every listed power total moment uncoupled
tested = refl

pub table_holds : AllHold table
table_holds = all_sound table tested
