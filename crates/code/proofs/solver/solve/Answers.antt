use Rattle.std.proofs.Common.{◌≡◌, true, false, not, ltb, length, sym, refl, ◌∙◌, subst, arith}
use Rattle.std.proofs.lemmas.Bool.{cond-true, cond-false, le-ltb, not_from_true, not_from_false}
use Rattle.shape.specs.Listing.{outages}
use Rattle.code.specs.Calls.{first_codes}
use Rattle.code.specs.Solving.{points, reads}
use Rattle.code.specs.Theorems.{Solves}
use Rattle.code.proofs.Codes.{front_codes, codes_at}
use Rattle.code.proofs.Solutions.{solution}
use Rattle.code.proofs.Main.{vandermonde_one, vandermonde_some}
use Rattle.code.proofs.solver.solve.Goals as goal

pub returns-then-sides-n-clause-some_solution : goal.returns-then-sides-n-clause-some_solution
returns-then-sides-n-clause-some_solution g c = vandermonde_some g.F.Field.arith g.met.F.Field.lawful

pub returns-then-sides-n-clause-one_solution : goal.returns-then-sides-n-clause-one_solution
returns-then-sides-n-clause-one_solution g c = vandermonde_one g.F.Field.arith g.met.F.Field.lawful

pub returns-then-not-all_codes : goal.returns-then-not-all_codes
returns-then-not-all_codes g c = record {
  solved =
      (let f = g.F.Field.arith in
      let o = outages c.args.out.now in
      let v = c.args.sides.now in
      let e : first_codes f v (length o) ≡ false = sym (front_codes f v (length o) _ (omega arith) (omega arith)) ∙ sym c.if-not-all_codes.ensures in
      (cond-false (ltb (length v) (length o)) _ _ (le-ltb (length v) (length o) (omega arith)) ∙ cond-true (not (first_codes f v (length o))) _ _ (not_from_false (first_codes f v (length o)) e), refl));
  some_solution = vandermonde_some g.F.Field.arith g.met.F.Field.lawful;
  one_solution = vandermonde_one g.F.Field.arith g.met.F.Field.lawful;
}

pub returns : goal.returns
returns g c = record {
  solved =
      (let f = g.F.Field.arith in
      let o = outages c.args.out.now in
      let v = c.args.sides.now in
      let e : first_codes f v (length o) ≡ true = sym (front_codes f v (length o) _ (omega arith) (omega arith)) ∙ sym c.if-not-all_codes.ensures in
      let n : c.len-n.result ≡ length o = c.len-n.ensures in (
        cond-false (ltb (length v) (length o)) _ _ (le-ltb (length v) (length o) (omega arith)) ∙ cond-false (not (first_codes f v (length o))) _ _ (not_from_true (first_codes f v (length o)) e),
        solution f g.met.F.Field.lawful c.args.out.now.count o v c.solve_first.new.sides c.args.out.now.few c.args.out.now.rises (omega arith)
            (codes_at f v (length o) e) (λ k l. c.solve_first.ensures.codes k (omega arith))
            (subst (λ m. Solves f (points f o) (reads f c.solve_first.new.sides) (reads f v) m) n c.solve_first.ensures.solves)
            (λ k l. c.solve_first.ensures.kept k (omega arith)),
      ));
  some_solution = vandermonde_some g.F.Field.arith g.met.F.Field.lawful;
  one_solution = vandermonde_one g.F.Field.arith g.met.F.Field.lawful;
}
