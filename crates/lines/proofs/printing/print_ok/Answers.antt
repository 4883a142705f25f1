use Rattle.std.proofs.Common.{lit<, rules}
use Rattle.lines.proofs.Spaced.{printed_none, printed_more, ok_printed}
use Rattle.lines.proofs.printing.print_ok.Goals as goal

pub loop-word-init : goal.loop-word-init
loop-word-init c = printed_none _ c.args.words.now

pub loop-word-preserved : goal.loop-word-preserved
loop-word-preserved c =
    let small = c.type_inv.words c.loop-word.word-index in
    printed_more _ _ _ c.args.words.now c.loop-word.word-index c.loop-word-test.true (search rules) c.loop-word.invariant c.in_ok-write.ensures.bytes

pub returns : goal.returns
returns c =
    let whole = ok_printed c.args.words.now _ _ _ _ c.args.filled c.args.drawn c.loop-word.word-index (search rules) (search rules) c.in_ok-text.ensures.ok
    c.loop-word-test.false c.loop-word.invariant (c.in_ok-push.ensures.ascii (lit< tt)) c.in_ok-push.ensures.bytes in
    search rules
