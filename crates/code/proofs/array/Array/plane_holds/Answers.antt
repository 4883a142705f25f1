use Rattle.std.proofs.Common.{◌≡◌, ℕ, ◌*◌, ◌^◌, rules, refl, sym, ap, ◌∙◌, arith}
use borrow.Author.Tests.{tests}
use Rattle.std.proofs.lemmas.Iterator.{cases_from_all, YieldsList-from_range}
use Rattle.shape.specs.Listing.{outages}
use Rattle.shape.specs.Outages.{among}
use Rattle.shape.proofs.Bounds.{shaped}
use Rattle.code.specs.Code.{moment}
use Rattle.code.specs.Filling.{known}
use Rattle.code.specs.Reading.{symbols}
use Rattle.code.proofs.Arrays.{check_all}
use Rattle.code.proofs.Ranges.{range_cases, tells_all}
use Rattle.code.proofs.array.Array.plane_holds.Goals as goal

pub returns : goal.returns
returns g c =
    let f = g.F.Field.arith in
    let laws = g.met.F.Field.lawful in
    let s = c.args.self.now.shape in
    let p = c.args.place in
    let n = c.rows.result in
    let A = symbols f (s.q ^ s.t) c.args.self.now.words.now in
    let none = outages c.none-none.result in
    let nil : ℕ → Type 0 = λ e. f.code (moment f f.point (known f s.q (among none) A p) (s.q * s.t) e) ≡ 0 in
    let is = check_all f (shaped s) laws none c.none-none.ensures.list A p in
    tells_all n c.all.result nil _
    (λ h e le. sym (is e) ∙ sym (laws.of_code _) ∙ ap f.of (h e (omega arith) ∙ sym laws.zero_code) ∙ laws.of_code f.zero)
    (λ h e le. ap f.code (is e ∙ h e (omega arith)) ∙ laws.zero_code)
    (range_cases n c.all.result nil (λ e. nil e → ⊥)
    (cases_from_all _ _ _ nil (λ e. nil e → ⊥) c.all.ensures.ran (YieldsList-from_range 0 n n refl (omega arith)) (λ e q k. search (rules, tests)) (λ e q k. search (rules, tests))))
