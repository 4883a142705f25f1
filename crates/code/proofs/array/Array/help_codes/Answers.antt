use Rattle.std.proofs.Common.{◌≡◌, ℕ, ◌^◌, Bool, true, false, cond, eqb, rules, refl, ap, ◌∙◌, arith}
use borrow.Author.Tests.{tests}
use Rattle.std.proofs.lemmas.Iterator.{cases_from_all, YieldsList-from_range}
use Rattle.shape.specs.Outages.{every}
use Rattle.code.specs.Calls.{helper_codes}
use Rattle.code.specs.Code.{laid}
use Rattle.code.proofs.Ranges.{range_cases, every_cases}
use Rattle.code.proofs.array.Array.help_codes.Goals as goal

pub returns : goal.returns
returns g c =
    let s = c.args.self.now.shape in
    let n = c.nodes.result in
    let i = c.args.node in
    let test : ℕ → Bool = λ j. cond (eqb j i) true (helper_codes g.F.Field.arith s.q s.t (laid (s.q ^ s.t) c.args.self.now.words.now) i j) in
    every_cases test n c.all.result
    (range_cases n c.all.result (λ j. test j ≡ true) (λ j. test j ≡ false)
    (cases_from_all _ _ _ (λ j. test j ≡ true) (λ j. test j ≡ false) c.all.ensures.ran (YieldsList-from_range 0 n n refl (omega arith)) (λ j q k. search (rules, tests)) (λ j q k. search (rules, tests))))
    ∙ ap (every test) c.nodes.ensures
