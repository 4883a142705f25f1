use Rattle.std.proofs.Common.{◌≡◌, ◌-◌, ◌*◌, ◌^◌, true, not, eqb, ltb, length, sym, ◌∙◌, subst, arith}
use Rattle.std.proofs.lemmas.Bool.{cond-false, eq-eqb, le-ltb, not_from_true}
use Rattle.shape.specs.Listing.{outages}
use Rattle.shape.specs.Outages.{rising}
use Rattle.shape.proofs.Bounds.{shaped}
use Rattle.code.specs.Calls.{all_codes}
use Rattle.code.specs.Steps.{Run}
use Rattle.code.proofs.Carrying.{encoded}
use Rattle.code.proofs.Codes.{codes_at}
use Rattle.code.proofs.Main.{some_one_stands}
use Rattle.code.proofs.encoding.encode.Goals as goal

pub returns : goal.returns
returns g c = record {
  encoded =
      (let f = g.F.Field.arith in
      let s = c.args.shape in
      let m = c.args.message.now in
      let ws = c.args.words.now in
      let o = c.span-parity.result in
      let used = s.q * s.t * s.q ^ s.t in
      let size = s.q * (s.t - 1) * s.q ^ s.t in
      let all : all_codes f m ≡ true = sym c.if-not-all_codes.ensures in
      let n : o.count ≡ s.q * s.t = c.span-parity.ensures.count in
      encoded f g.met.F.Field.lawful (shaped s) m ws c.copy_message.new.words (outages o)
      (omega arith) (omega arith) (omega arith) (codes_at f m (length m) all) c.copy_message.ensures.copied c.copy_message.ensures.kept
      (subst (λ first. Run first (outages o) s.q) c.data_nodes.ensures c.span-parity.ensures.nodes)
      (subst (λ k. rising k (outages o) ≡ true) n o.rises) o.count n
      (cond-false (not (eqb (length m) size)) _ _ (not_from_true (eqb (length m) size) (eq-eqb (length m) size (omega arith)))
      ∙ cond-false (ltb (length ws) used) _ _ (le-ltb (length ws) used (omega arith)) ∙ cond-false (not (all_codes f m)) _ _ (not_from_true (all_codes f m) all))
      c.restore.result c.restore.new.words c.restore.ensures.restored);
  some_one = some_one_stands g.F.Field.arith g.met.F.Field.lawful;
}

pub returns-then-message-message_words-clause-some_one : goal.returns-then-message-message_words-clause-some_one
returns-then-message-message_words-clause-some_one g c = some_one_stands g.F.Field.arith g.met.F.Field.lawful

pub returns-then-words-clause-some_one : goal.returns-then-words-clause-some_one
returns-then-words-clause-some_one g c = some_one_stands g.F.Field.arith g.met.F.Field.lawful

pub returns-then-not-all_codes-clause-some_one : goal.returns-then-not-all_codes-clause-some_one
returns-then-not-all_codes-clause-some_one g c = some_one_stands g.F.Field.arith g.met.F.Field.lawful
