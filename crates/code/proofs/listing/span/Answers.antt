use Rattle.std.proofs.Common.{◌≡◌, ℕ, ◌+◌, ◌*◌, Bool, ◌&&◌, ltb, leb, sym, subst, arith, rules}
use Rattle.std.proofs.lemmas.Bool.Decides.{nat_tests}
use Rattle.shape.specs.Listing.{outages}
use Rattle.shape.specs.Outages.{listed}
use Rattle.shape.proofs.Listed.{listed_span}
use Rattle.code.specs.Steps.{Run}
use Rattle.code.proofs.listing.span.Goals as goal

pub returns-clause-nodes : goal.returns-clause-nodes
returns-clause-nodes c =
    let s = c.args.shape in
    let first = c.args.first in
    let test : ℕ → Bool = λ i. leb first i && ltb i (first + s.q) in
    let e : outages c.filtered.result ≡ listed test (s.q * s.t) = search rules in
    subst (λ xs. Run first xs s.q) (sym e) (listed_span test first s.q (λ i l. grind (arith, nat_tests)) (λ i l h. grind (arith, nat_tests)) (s.q * s.t) c.requires (λ i l h. grind (arith, nat_tests)))
