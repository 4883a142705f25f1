use Rattle.std.proofs.Common.{ℕ, Bool, rules, ap, ◌∙◌, arith}
use Rattle.std.specs.List.{range_with_len}
use Rattle.std.proofs.lemmas.Iterator.{serves_from_Range, YieldsList-from_range}
use Rattle.std.proofs.lemmas.Iterator.Consumers.{YieldsList-from_filter, count_from_yields_List}
use Rattle.std.proofs.lemmas.List.Sums.{length-filter}
use Rattle.shape.specs.Layout.{digit, node_at}
use Rattle.shape.specs.Listing.{outages}
use Rattle.shape.specs.Outages.{among, count}
use Rattle.code.specs.Filling.{score}
use Rattle.code.proofs.Ranges.{count_range}
use Rattle.code.proofs.planes.score.Goals as goal

pub count-requires-clause-can : goal.count-requires-clause-can
count-requires-clause-can c = (tt, tt, serves_from_Range (λ x q k. search rules) (λ x lo hi. λ y e l r n p u f g v. search (rules, c.filter.ensures.source, c.filter.ensures.closure)))

pub returns : goal.returns
unfolding score
returns c =
    let s = c.args.shape in
    let test : ℕ → Bool = λ y. among (outages c.args.out.now) (node_at s.q (digit s.q c.args.place y) y) in
    count_from_yields_List c.filter.result c.count.result c.count.ensures.ran
    (YieldsList-from_filter _ test (YieldsList-from_range 0 c.columns.result c.columns.result c.filter.ensures.source (omega arith)) c.filter.ensures.closure (λ y b q k. search rules))
    ∙ length-filter test (range_with_len 0 c.columns.result)
    ∙ count_range test c.columns.result
    ∙ ap (count test) c.columns.ensures
