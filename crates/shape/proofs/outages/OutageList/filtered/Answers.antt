use Rattle.std.proofs.Common.{◌≡◌, ◌+◌, [], ◌∷◌, ◌++◌, ap, sym, ◌∙◌, arith}
use Rattle.shape.specs.Listing.{outages}
use Rattle.shape.specs.Outages.{rising}
use Rattle.shape.proofs.Listed.{listed_none, listed_push, listed_skip}
use Rattle.shape.proofs.Rising.{rising_none, rising_wider, rising_push_bound}
use Rattle.shape.proofs.outages.OutageList.filtered.Goals as goal
use Rattle.shape.proofs.outages.OutageList.filtered.Goals.{then-out, else-out}

pub loop-node-init : goal.loop-node-init
loop-node-init g c = record {
  count = cc;
  below = ap (rising 0) c.none-list.ensures.list ∙ rising_none 0;
  list = λ test h. c.none-list.ensures.list ∙ sym (listed_none test);
}

pub put-requires : goal.put-requires
put-requires g c = rising_push_bound c.loop-node.list.count (outages c.loop-node.list) c.loop-node.node c.loop-node.invariant.below (omega arith)

pub loop-node-preserved : goal.loop-node-preserved
loop-node-preserved g c =
    let n = c.loop-node.node in
    let xs = outages c.loop-node.list in
    let i = c.loop-node.invariant in
    elim c.if-out.branch [
      | then-out w ↦
          let e : outages c.if-out.list ≡ xs ++ n ∷ [] = ap outages w.list-is ∙ w.put.ensures.list in
          record {
            count = ap (λ l. l.count) w.list-is ∙ w.put.ensures.count ∙ i.count;
            below = ap (rising (n + 1)) e ∙ rising_push_bound (n + 1) xs n i.below (omega arith);
            list = λ test h.
                e ∙ ap (λ ys. ys ++ n ∷ []) (i.list test (λ j b l p. h j b (omega arith) p)) ∙ sym (listed_push test n (sym (h n c.out.result (omega arith) c.out.ensures) ∙ w.if-out.true));
          }
      | else-out w ↦
          let e : outages c.if-out.list ≡ xs = ap outages w.list-is in
          record {
            count = ap (λ l. l.count) w.list-is ∙ i.count;
            below = ap (rising (n + 1)) e ∙ rising_wider n (n + 1) xs (omega arith) i.below;
            list = λ test h.
                e ∙ i.list test (λ j b l p. h j b (omega arith) p) ∙ sym (listed_skip test n (sym (h n c.out.result (omega arith) c.out.ensures) ∙ w.if-out.false));
          }
    ]
