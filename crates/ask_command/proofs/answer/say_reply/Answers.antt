use Rattle.std.proofs.Common.{subst, sym, inl}
use Rattle.ask_command.specs.Printing.{MakesText}
use Rattle.ask_command.proofs.Unread.{unread}
use Rattle.ask_command.proofs.answer.say_reply.Goals as goal

pub returns-in-Err-BadMessage : goal.returns-in-Err-BadMessage
returns-in-Err-BadMessage g c =
    let said = unread c.args.request.now c.args.octets.now c.items.result.now c.in-Err-BadMessage.field-0 c.items.ensures c.in-Err-BadMessage.field-0-is c.in-Err-BadMessage.ensures in
    subst (λ s. MakesText s (g.S.Sink.seen c.args.output.now) (g.S.Sink.seen c.say_bad_answer.new.output) c.say_bad_answer.result) (sym said) (inl c.say_bad_answer.ensures)
