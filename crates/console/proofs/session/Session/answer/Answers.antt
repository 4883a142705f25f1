use Rattle.std.proofs.Common.{◌≡◌, Some, vec_items, string_bytes, sym, ap, ◌∙◌}
use Rattle.lines.specs.Requests.{request, requested}
use Rattle.std.specs.Option.{option_map}
use Rattle.console.specs.Session.{state_of}
use Rattle.console.proofs.Printing.{printed_or_not}
use Rattle.console.proofs.session.Session.answer.Goals as goal

pub returns : goal.returns
returns c =
    let line = c.args.line.now in
    let command = c.in-Some.command in
    let reply = c.in_ok-reply.reply in
    let is : request line ≡ Some (requested command) = sym c.in_ok-command.ensures ∙ ap (option_map requested) c.in-Some.is in
    let both = printed_or_not c.print_reply.result (string_bytes c.args.out.now) (string_bytes c.print_reply.new.out) line (vec_items reply.words) (requested command) reply.answer
    (state_of c.args.self.now) (state_of c.reply.new.self) is c.in_ok-reply.ensures.replied c.print_reply.ensures in
    record { answered = both.0; unanswered = both.1 }
