use Rattle.std.proofs.Common.{◌≡◌, length, drop, rules}
use Rattle.rack.specs.Table.{table_model}
use Rattle.console.proofs.Reading.{read_made}
use Rattle.console.proofs.calls.read.Goals as goal

pub returns : goal.returns
returns g c =
    let v = c.args.vault.now in
    let words = c.in_ok-words.words in
    let before = c.as_mut_slice.result.now in
    let after = c.read-answer.new.buffer in
    let long = c.in_ok-words.ensures.len in
    let from : c.from-2.result ≡ c.args.start = search rules in
    let same : length before ≡ c.args.count = search rules in
    let kept : length after ≡ words.len = search rules in record {
      served = (
        c.read-answer.ensures.stays.0,
        read_made v.shape.q v.shape.t (table_model v.rack) (table_model c.read-answer.new.self.rack) c.read-answer.result
            c.from-2.result c.args.start c.args.count words.len before after (drop (length after) words.items) c.read-answer.ensures.call from same kept,
      );
      unserved = tt;
    }
