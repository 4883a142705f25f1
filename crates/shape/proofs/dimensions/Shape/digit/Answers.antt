use Rattle.std.proofs.Common.{◌/◌, ◌%◌, ap, sym, arith}
use Rattle.shape.specs.Layout.{digit}
use Rattle.shape.proofs.Bounds.{shaped, rows_positive}
use Rattle.shape.proofs.Digits.{weight_fits, digit_high}
use Rattle.shape.proofs.dimensions.Shape.digit.Goals as goal

pub returns-in-Some : goal.returns-in-Some
unfolding digit
returns-in-Some c = ap (λ w. c.args.place / w % c.args.self.q) c.in-Some.ensures.value.1

pub returns-in-None : goal.returns-in-None
returns-in-None c =
    let q = c.args.self.q in
    let pos = rows_positive (shaped c.args.self) in
    let y = c.args.column in
    sym (digit_high q pos c.args.place y (omega arith) (λ l. c.in-None.ensures.value (rw (weight_fits q pos y c.args.self.wide l) at l)))
