use Rattle.std.proofs.Common.{◌≡◌, [], ◌∷◌, ◌++◌, ap, sym, ◌∙◌, rules}
use Rattle.std.proofs.lemmas.Bool.{le-ltb}
use Rattle.shape.specs.Listing.{outages}
use Rattle.shape.specs.Outages.{rising}
use Rattle.shape.proofs.OutageLists.{outages_rise}
use Rattle.shape.proofs.Rising.{rising_push_high, rising_push_is}
use Rattle.shape.proofs.outages.OutageList.admits.Goals as goal

pub returns-then-node-self : goal.returns-then-node-self
returns-then-node-self c =
    let o = c.args.self.now in
    let e : c.as_slice.result.now ≡ outages o = c.as_slice.ensures in
    rising_push_is o.count c.as_slice.result.now c.args.node (ap (rising o.count) e ∙ outages_rise o) c.if-node-self.true c.is_none_or.result (λ l. search rules) (λ l. search rules)
    ∙ ap (λ ys. rising o.count (ys ++ c.args.node ∷ [])) e

pub returns-else-node-self : goal.returns-else-node-self
returns-else-node-self c =
    let o = c.args.self.now in
    le-ltb c.args.node o.count c.if-node-self.false ∙ sym (rising_push_high o.count (outages o) c.args.node c.if-node-self.false)
