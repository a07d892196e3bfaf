use Rattle.std.proofs.Common.{sym, subst, Option, Some}
use Rattle.subscribe_calls.specs.Calls.{CallView}
use Rattle.stream_worker.specs.Feeds.{ports_of}
use Rattle.stream_worker.specs.inner.Steps.{HasFed}
use Rattle.stream_worker.proofs.Feeding.{message_taken, message_lost_by_fault, message_lost_by_memory, found_gone, starves}
use Rattle.stream_worker.proofs.Speaking.{offers_gone, fault_closes, fault_gone, memory_closes, memory_gone}
use Rattle.stream_worker.proofs.steps.say_message.Goals as goal

pub returns-in_default : goal.returns-in_default
returns-in_default g c = λ schema plan from served book is fed.
    c.say_refusal.ensures schema plan from c.args.waiting.now book
    (starves schema c.args.stream plan from 1 (Some served) c.args.waiting.now c.args.waiting.now _ fed)

pub returns-in-Taken : goal.returns-in-Taken
returns-in-Taken g c = λ schema plan from served book is fed.
    subst (λ (call : Option CallView). HasFed schema c.args.stream plan 0 from call c.take_first.new.self
    (ports_of book (g.W.WirePort.connection c.offer.new.self) (g.W.WirePort.counts c.offer.new.self) (g.W.WirePort.progress c.offer.new.self) (g.W.WirePort.owns c.offer.new.self) (g.W.WirePort.given c.offer.new.self) (g.W.WirePort.authors c.offer.new.self))) (sym is)
    (message_taken schema c.args.stream plan from c.in-Some.message c.in-Some.ensures.is.0 c.take_first.ensures.0 served c.args.waiting.now c.in-Some.ensures.is.1 c.take_first.new.self book _ _
    c.in-Some.ensures.is.2 c.in-Some.ensures.is.3 c.take_first.ensures.1 fed
    (record { connection = c.in-Taken.ensures.connection; authors = c.in-Taken.ensures.authors; counts = c.in-Taken.ensures.counts; owns = c.in-Taken.ensures.owns; given = c.in-Taken.ensures.given; says = c.in-Taken.ensures.own }))

pub returns-in-Gone : goal.returns-in-Gone
returns-in-Gone g c = λ schema plan from served book is fed.
    found_gone schema c.args.stream plan from c.in-Some.message (Some served) c.args.waiting.now book _ _ fed
    (record { connection = c.in-Gone.ensures.connection; authors = c.in-Gone.ensures.authors; counts = c.in-Gone.ensures.counts; owns = c.in-Gone.ensures.owns; given = c.in-Gone.ensures.given; says = c.in-Gone.ensures.own })
    (offers_gone _ _ _ _ _ c.in-Gone.ensures.offers)

pub returns-in-WriteFault : goal.returns-in-WriteFault
returns-in-WriteFault g c = λ schema plan from served book is fed.
    message_lost_by_fault schema c.args.stream plan from c.in-Some.message c.in-Some.ensures.is.0 served c.args.waiting.now c.in-Some.ensures.is.1 book _ _
    c.in-Some.ensures.is.2 c.in-Some.ensures.is.3 fed
    (record { connection = c.in-WriteFault.ensures.connection; authors = c.in-WriteFault.ensures.authors; counts = c.in-WriteFault.ensures.counts; owns = c.in-WriteFault.ensures.owns; given = c.in-WriteFault.ensures.given; says = c.in-WriteFault.ensures.own })
    (fault_closes _ _ _ _ _ c.in-WriteFault.ensures.offers) (fault_gone _ _ _ _ _ c.in-WriteFault.ensures.offers)

pub returns-in-NoMemory : goal.returns-in-NoMemory
returns-in-NoMemory g c = λ schema plan from served book is fed.
    message_lost_by_memory schema c.args.stream plan from c.in-Some.message c.in-Some.ensures.is.0 served c.args.waiting.now c.in-Some.ensures.is.1 book _ _
    c.in-Some.ensures.is.2 c.in-Some.ensures.is.3 fed
    (record { connection = c.in-NoMemory.ensures.connection; authors = c.in-NoMemory.ensures.authors; counts = c.in-NoMemory.ensures.counts; owns = c.in-NoMemory.ensures.owns; given = c.in-NoMemory.ensures.given; says = c.in-NoMemory.ensures.own })
    (memory_closes _ _ _ _ _ c.in-NoMemory.ensures.offers) (memory_gone _ _ _ _ _ c.in-NoMemory.ensures.offers)
