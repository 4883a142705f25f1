use Rattle.std.proofs.Common.{sym, ◌∙◌}
use Rattle.rack.specs.Table.{table_model}
use Rattle.rack.proofs.Models.{after_put_ok}
use Rattle.rack.proofs.Tables.{set_word}
use Rattle.rack.proofs.table.calls.TableRackRack.put.Goals as goal

pub returns-clause-after : goal.returns-clause-after
returns-clause-after c =
    let s = c.args.self.now in
    let at = c.in_ok-at.ensures in
    rw at.2 (set_word _ _ _ _ c.args.node c.args.place c.args.word (sym s.words.ok.0 ∙ s.full) at.0 at.1 ∙ sym (after_put_ok (table_model s) c.args.node c.args.place c.args.word at.0 at.1))
