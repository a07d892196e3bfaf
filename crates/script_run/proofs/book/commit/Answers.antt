use Rattle.std.proofs.Common.{◌≢◌, Err, sym, ◌∙◌, subst}
use Rattle.base_kinds.specs.declared.refusal.Refusal.TheVariants.{NoMemory}
use Rattle.base_kinds.specs.Step.{step}
use Rattle.book_core.specs.Views.{history_in}
use Rattle.book_core.specs.laws.DoubtLaws.{IsRunWith}
use Rattle.book_port.specs.Answers.{set_stages}
use Rattle.book_port.specs.Opened.{Opened, rules_in}
use Rattle.script_run.specs.AnswerLines.{entry_stamp}
use Rattle.script_run.specs.inner.ScriptBooks.{IsLeft, asked_turn}
use Rattle.script_run.specs.Turns.{unless_failed}
use Rattle.script_run.proofs.Books.{Set, set_leaves, set_replies, on_ok, if_ok, accepted_other, refused_other}
use Rattle.script_run.proofs.book.commit.Goals as goal

pub returns-in-Ok-clause-left : goal.returns-in-Ok-clause-left
returns-in-Ok-clause-left c =
    let result = c.set-reply.result in
    let set : Set c.args.book.now c.set-reply.new.self c.args.reading c.args.author c.args.ask result = record { opened = c.set-reply.ensures.opened; fed = sym c.starved.ensures ∙ c.if-starved.false; answer = c.set-reply.ensures.answer; settled = c.set-reply.ensures.settled; calls = c.set-reply.ensures.calls } in
    set_leaves c.args.book.now c.set-reply.new.self c.args.reading c.args.author c.args.ask result (accepted_other result c.in-Ok.stamp c.in-Ok.is) set

pub returns-in-Ok-clause-reply : goal.returns-in-Ok-clause-reply
returns-in-Ok-clause-reply c =
    let result = c.set-reply.result in
    let set : Set c.args.book.now c.set-reply.new.self c.args.reading c.args.author c.args.ask result = record { opened = c.set-reply.ensures.opened; fed = sym c.starved.ensures ∙ c.if-starved.false; answer = c.set-reply.ensures.answer; settled = c.set-reply.ensures.settled; calls = c.set-reply.ensures.calls } in
    sym c.in-Ok.is ∙ set_replies c.args.book.now c.set-reply.new.self c.args.reading c.args.author c.args.ask result (accepted_other result c.in-Ok.stamp c.in-Ok.is) set

pub returns-in-Err-clause-left : goal.returns-in-Err-clause-left
returns-in-Err-clause-left c =
    let result = c.set-reply.result in
    let set : Set c.args.book.now c.set-reply.new.self c.args.reading c.args.author c.args.ask result = record { opened = c.set-reply.ensures.opened; fed = sym c.starved.ensures ∙ c.if-starved.false; answer = c.set-reply.ensures.answer; settled = c.set-reply.ensures.settled; calls = c.set-reply.ensures.calls } in
    on_ok c.unless_memory.result (c.in-Err.refusal ≢ NoMemory) (IsLeft (asked_turn c.args.book.now c.args.reading c.args.author c.args.ask) c.args.book.now c.set-reply.new.self) c.unless_memory.ensures.no_memory
    (λ other. set_leaves c.args.book.now c.set-reply.new.self c.args.reading c.args.author c.args.ask result (refused_other result c.in-Err.refusal c.in-Err.is other) set)

pub returns-in-Err-clause-reply : goal.returns-in-Err-clause-reply
returns-in-Err-clause-reply c =
    let result = c.set-reply.result in
    let set : Set c.args.book.now c.set-reply.new.self c.args.reading c.args.author c.args.ask result = record { opened = c.set-reply.ensures.opened; fed = sym c.starved.ensures ∙ c.if-starved.false; answer = c.set-reply.ensures.answer; settled = c.set-reply.ensures.settled; calls = c.set-reply.ensures.calls } in
    let judged = step (rules_in c.args.book.now.opened) (history_in c.args.book.now) c.args.reading c.args.author c.args.ask in
    if_ok c.unless_memory.result (Err c.in-Err.refusal) (entry_stamp (unless_failed (asked_turn c.args.book.now c.args.reading c.args.author c.args.ask).failed judged)) (c.in-Err.refusal ≢ NoMemory) c.unless_memory.ensures.reply c.unless_memory.ensures.no_memory
    (λ other. sym c.in-Err.is ∙ set_replies c.args.book.now c.set-reply.new.self c.args.reading c.args.author c.args.ask result (refused_other result c.in-Err.refusal c.in-Err.is other) set)

pub returns-in-Err-clause-may_stand : goal.returns-in-Err-clause-may_stand
returns-in-Err-clause-may_stand c =
    let old = c.args.book.now in
    let new = c.set-reply.new.self in
    let stages = set_stages (rules_in old.opened) (history_in old) c.args.reading c.args.author c.args.ask in
    let runs = c.doubts_may_stand.ensures.set old.opened (history_in old) c.args.reading c.args.author c.args.ask c.set-reply.ensures.run c.requires.author c.requires.fit in
    let stands = c.doubts_may_stand.ensures.doubt old.opened stages (history_in old) old.doubt (history_in new) new.doubt runs c.requires.may_stand c.set-reply.ensures.doubt in
    subst (λ (o : Opened). IsRunWith o (history_in new) new.doubt) (sym c.set-reply.ensures.opened) stands
