use Rattle.std.proofs.Common.{Some, None}
use Rattle.base_kinds.specs.declared.refusal.Refusal.TheVariants as refusals
use Rattle.h2_events.specs.declared.said.Piece.TheVariants as piece
use Rattle.stream_worker.proofs.Feeding.{refusal_taken, refusal_lost_by_fault, refusal_lost_by_memory, found_gone}
use Rattle.stream_worker.proofs.Speaking.{offers_gone, fault_closes, fault_gone, memory_closes, memory_gone}
use Rattle.stream_worker.proofs.steps.say_refusal.Goals as goal

pub returns-in-Taken : goal.returns-in-Taken
returns-in-Taken g c = λ schema plan from waiting book fed.
    refusal_taken schema c.args.stream plan from waiting book _ _ fed
    (record { connection = c.in-Taken.ensures.connection; authors = c.in-Taken.ensures.authors; counts = c.in-Taken.ensures.counts; owns = c.in-Taken.ensures.owns; given = c.in-Taken.ensures.given; says = c.in-Taken.ensures.own })

pub returns-in-Gone : goal.returns-in-Gone
returns-in-Gone g c = λ schema plan from waiting book fed.
    found_gone schema c.args.stream plan from (piece.Finish (Some refusals.NoMemory)) None waiting book _ _ fed
    (record { connection = c.in-Gone.ensures.connection; authors = c.in-Gone.ensures.authors; counts = c.in-Gone.ensures.counts; owns = c.in-Gone.ensures.owns; given = c.in-Gone.ensures.given; says = c.in-Gone.ensures.own })
    (offers_gone _ _ _ _ _ c.in-Gone.ensures.offers)

pub returns-in-WriteFault : goal.returns-in-WriteFault
returns-in-WriteFault g c = λ schema plan from waiting book fed.
    refusal_lost_by_fault schema c.args.stream plan from waiting book _ _ fed
    (record { connection = c.in-WriteFault.ensures.connection; authors = c.in-WriteFault.ensures.authors; counts = c.in-WriteFault.ensures.counts; owns = c.in-WriteFault.ensures.owns; given = c.in-WriteFault.ensures.given; says = c.in-WriteFault.ensures.own })
    (fault_closes _ _ _ _ _ c.in-WriteFault.ensures.offers) (fault_gone _ _ _ _ _ c.in-WriteFault.ensures.offers)

pub returns-in-NoMemory : goal.returns-in-NoMemory
returns-in-NoMemory g c = λ schema plan from waiting book fed.
    refusal_lost_by_memory schema c.args.stream plan from waiting book _ _ fed
    (record { connection = c.in-NoMemory.ensures.connection; authors = c.in-NoMemory.ensures.authors; counts = c.in-NoMemory.ensures.counts; owns = c.in-NoMemory.ensures.owns; given = c.in-NoMemory.ensures.given; says = c.in-NoMemory.ensures.own })
    (memory_closes _ _ _ _ _ c.in-NoMemory.ensures.offers) (memory_gone _ _ _ _ _ c.in-NoMemory.ensures.offers)
