use Rattle.std.proofs.Common.{◌≡◌, ◌*◌, ◌^◌, Bool, true, false, length, sym, subst, arith}
use Rattle.std.proofs.lemmas.Bool.{both_ways, le-ltb}
use Rattle.shape.proofs.Bounds.{shaped}
use Rattle.code.specs.Calls.{Tells, first_codes}
use Rattle.code.specs.Code.{laid, Codeword, Checks}
use Rattle.code.specs.Reading.{symbols}
use Rattle.code.proofs.Arrays.{codeword, codeword_checks, laid_codes}
use Rattle.code.proofs.Codes.{codes_at, codes_from}
use Rattle.code.proofs.checking.checks_hold.Goals as goal

-- a test that tells of P tells of Q
retold : (b : Bool) {P Q : Type 0} → (P → Q) → (Q → P) → Tells b P → Tells b Q
retold true there back h = there h
retold false there back h = λ y. h (back y)

pub returns-else-all_codes : goal.returns-else-all_codes
returns-else-all_codes g c =
    let f = g.F.Field.arith in
    let s = c.args.shape in
    let ws = c.args.words.now in
    let used = s.q * s.t * s.q ^ s.t in
    let e : first_codes f ws used ≡ false = sym c.if-all_codes.ensures in
    let none : Tells false (Codeword f s.q s.t (laid (s.q ^ s.t) ws)) = λ w. both_ways (first_codes f ws used) e (codes_from f ws used (laid_codes f (shaped s) ws w.codes)) in
    (le-ltb (length ws) used (omega arith), subst (λ b. Tells b (Codeword f s.q s.t (laid (s.q ^ s.t) ws))) (sym c.if-all_codes.false) none)

pub returns-then-all_codes : goal.returns-then-all_codes
returns-then-all_codes g c =
    let f = g.F.Field.arith in
    let laws = g.met.F.Field.lawful in
    let s = c.args.shape in
    let ws = c.args.words.now in
    let used = s.q * s.t * s.q ^ s.t in
    let e : first_codes f ws used ≡ true = sym c.if-all_codes.ensures in (
      le-ltb (length ws) used (omega arith),
      retold c.planes_hold.result {P = Checks f s.q s.t s.q (symbols f (s.q ^ s.t) ws)} {Q = Codeword f s.q s.t (laid (s.q ^ s.t) ws)}
          (codeword f (shaped s) laws ws (codes_at f ws used e)) (codeword_checks f (shaped s) laws ws) c.planes_hold.ensures,
    )
