-- What is seen of the connections that the door gave.
use Rattle.std.specs.Prelude.{List, map}
use Rattle.std.specs.declared.snapshot.Snapshot.{Snapshot}
use Rattle.environment.specs.Input.{Input}
use Rattle.environment.specs.Output.{Output}
use Rattle.session_core.specs.declared.how.How.{How}
use Rattle.connection_server.specs.declared.link.LinkEnd.{LinkEnd}

-- of each, in the order in which they came: its number from 1 on, the author of the port that was made for it, how it ended, and what
-- was read and written of it until then
abbrev pub SeenLinks : Type 0
SeenLinks = List (LinkEnd Input Output How)

-- a copy that contracts alone see, and that takes no octets when the program runs
abbrev pub snapshot_of : {A : Type 0} → A → Snapshot A
snapshot_of a = record { marker = record {}; value = a }

module _ {I O : Type 0} (reads : I → Input) (writes : O → Output) where
  -- the record of one, with what is seen of its halves in their place
  abbrev pub seen_end : LinkEnd I O How → LinkEnd Input Output How
  seen_end end = record {
    number = end.number;
    author = end.author;
    how = end.how;
    input = snapshot_of (reads end.input.value);
    output = snapshot_of (writes end.output.value);
  }

  abbrev pub seen_links : List (LinkEnd I O How) → SeenLinks
  seen_links ends = map seen_end ends
