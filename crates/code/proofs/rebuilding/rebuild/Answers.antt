use Rattle.std.proofs.Common.{◌≡◌, ◌*◌, ◌^◌, ℕ, true, not, ltb, List, length, sym, ◌∙◌, subst, ap₂, arith, rules}
use Rattle.std.proofs.lemmas.Bool.{cond-false, le-ltb, lt-ltb, not_from_true}
use Rattle.shape.specs.declared.dimensions.Shape.{Shape}
use Rattle.shape.proofs.Bounds.{shaped}
use Rattle.code.specs.Calls.{HelpRefill, Others, good_help}
use Rattle.code.specs.Code.{laid}
use Rattle.code.proofs.Refilling.{only_refill}
use Rattle.code.proofs.Main.{repair_one_stands, repair_some_stands}
use Rattle.code.proofs.rebuilding.rebuild.Goals as goal

pub returns : goal.returns
returns g c =
    let f = g.F.Field.arith in
    let laws = g.met.F.Field.lawful in
    let s = c.args.shape in
    let i = c.args.node in
    let ws = c.args.words.now in
    let used = s.q * s.t * s.q ^ s.t in
    let after = c.refill.new.self.words in
    let r = c.refill.ensures.refilled in
    let back = sym c.refill.ensures.stays.same_words in
    let help = good_help f s.q s.t (laid (s.q ^ s.t) ws) i in
    let good : help ≡ true = ap₂ (λ (z : Shape) us. good_help f z.q z.t (laid (z.q ^ z.t) us) i) (sym c.view.ensures.shape) (sym c.view.ensures.words) ∙ sym c.if-not-help_codes.ensures in
    let made : HelpRefill f s.q s.t (laid (s.q ^ s.t) ws) i (laid (s.q ^ s.t) after.now i) × Others s.q s.t i ws after.now = (
      only_refill f laws (shaped s) i (omega arith) r.nodes r.run r.rises ws after.now good r.filled,
      r.filled.others,
    ) in
    let at_last : (us : List ℕ) → us ≡ after.now → HelpRefill f s.q s.t (laid (s.q ^ s.t) ws) i (laid (s.q ^ s.t) us i) × Others s.q s.t i ws us =
    λ us e. subst (λ us. HelpRefill f s.q s.t (laid (s.q ^ s.t) ws) i (laid (s.q ^ s.t) us i) × Others s.q s.t i ws us) (sym e) made in
    let ends = at_last _ (search rules) in
    record {
      rebuilt = (
        cond-false (ltb (length ws) used) _ _ (le-ltb (length ws) used (omega arith)) ∙ cond-false (not (ltb i (s.q * s.t))) _ _ (not_from_true (ltb i (s.q * s.t)) (lt-ltb i (s.q * s.t) (omega arith)))
            ∙ cond-false (not help) _ _ (not_from_true help good),
        ends.0,
        ends.1,
      );
      repair_one = repair_one_stands f laws;
      repair_some = repair_some_stands f laws;
    }

pub returns-then-words-clause-repair_one : goal.returns-then-words-clause-repair_one
returns-then-words-clause-repair_one g c = repair_one_stands g.F.Field.arith g.met.F.Field.lawful

pub returns-then-words-clause-repair_some : goal.returns-then-words-clause-repair_some
returns-then-words-clause-repair_some g c = repair_some_stands g.F.Field.arith g.met.F.Field.lawful

pub returns-then-node-nodes-clause-repair_one : goal.returns-then-node-nodes-clause-repair_one
returns-then-node-nodes-clause-repair_one g c = repair_one_stands g.F.Field.arith g.met.F.Field.lawful

pub returns-then-node-nodes-clause-repair_some : goal.returns-then-node-nodes-clause-repair_some
returns-then-node-nodes-clause-repair_some g c = repair_some_stands g.F.Field.arith g.met.F.Field.lawful

pub returns-then-not-help_codes-clause-repair_one : goal.returns-then-not-help_codes-clause-repair_one
returns-then-not-help_codes-clause-repair_one g c = repair_one_stands g.F.Field.arith g.met.F.Field.lawful

pub returns-then-not-help_codes-clause-repair_some : goal.returns-then-not-help_codes-clause-repair_some
returns-then-not-help_codes-clause-repair_some g c = repair_some_stands g.F.Field.arith g.met.F.Field.lawful
