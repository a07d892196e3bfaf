use Rattle.std.proofs.Common.{◌≡◌, ◌++◌}
use Rattle.std.specs.Prelude.{map}
use Rattle.h2_events.specs.declared.said.Said.TheVariants.{Message}
use Rattle.session_core.specs.inner.Words.{words}
use Rattle.session_core.proofs.answering.put_messages.Given as goal

-- what waits now and the messages that are left are what waited and all of them
abbrev pub invariant-loop-octets : goal.invariant-loop-octets
invariant-loop-octets l =
    l.waiting ++ words l.fn.stream (map Message l.octets-iterator.rest.items) ≡ l.initial.waiting ++ words l.fn.stream (map Message l.fn.messages)
