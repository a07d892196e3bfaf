-- A session's port stays the port that it was.
use Rattle.std.proofs.Common.{◌≡◌, List, [], ◌∷◌, false, inl, inr, sym, ap, ◌∙◌}
use Rattle.base_kinds.specs.Schema.{SchemaNode}
use Rattle.book_port.specs.Follows.{Turn}
use Rattle.book_port.specs.Ports.{PortView, TakesOne, TakesTurns}
use Rattle.stream_workers.specs.Feeders.{Feeder, MeetsEach}
use Rattle.stream_workers.specs.Ports.{own_port}
use Rattle.session_core.specs.declared.how.How.{How}
use Rattle.session_core.specs.Deeds.{turns_in}
use Rattle.session_core.specs.FeederRuns.{SessionRunBeside}
use Rattle.session_core.specs.Runs.{Outside, outside_of, start_of}
use Rattle.session_core.specs.Serving.{deeds_in, first_service, service_of, standing_of}
use Rattle.session_core.proofs.History.{turns_taken}
use Rattle.connection_server.specs.Jobs.{IsSamePort}

same_again : (old next new : PortView) → IsSamePort old next → IsSamePort next new → IsSamePort old new
same_again old next new first later = record {
  opened = later.opened ∙ first.opened;
  book = later.book ∙ first.book;
  author = later.author ∙ first.author;
  alone = later.alone ∙ first.alone;
  start = later.start ∙ first.start;
}

one_same : (old : PortView) (turn : Turn) (new : PortView) → TakesOne old turn new → IsSamePort old new
one_same old turn new (inl (result, taken)) = record {
  opened = ap (λ (p : PortView). p.opened) taken.new_is;
  book = ap (λ (p : PortView). p.book) taken.new_is;
  author = ap (λ (p : PortView). p.author) taken.new_is;
  alone = ap (λ (p : PortView). p.is_alone) taken.new_is;
  start = ap (λ (p : PortView). p.start) taken.new_is;
}
one_same old turn new (inr (result, taken)) = record {
  opened = ap (λ (p : PortView). p.opened) taken.new_is;
  book = ap (λ (p : PortView). p.book) taken.new_is;
  author = ap (λ (p : PortView). p.author) taken.new_is;
  alone = ap (λ (p : PortView). p.is_alone) taken.new_is;
  start = ap (λ (p : PortView). p.start) taken.new_is;
}

same_so : (old new : PortView) → new ≡ old → IsSamePort old new
same_so old new is = record {
  opened = ap (λ (p : PortView). p.opened) is;
  book = ap (λ (p : PortView). p.book) is;
  author = ap (λ (p : PortView). p.author) is;
  alone = ap (λ (p : PortView). p.is_alone) is;
  start = ap (λ (p : PortView). p.start) is;
}

pub taken_same : (old new : PortView) (turns : List Turn) → TakesTurns old turns new → IsSamePort old new
taken_same old new [] is = same_so old new is
taken_same old new (turn ∷ turns) is = same_again old is.0 new (one_same old turn is.0 is.1) (taken_same is.0 new turns is.2)

met_same : (old new : PortView) (feeders : List Feeder) → MeetsEach old feeders new → IsSamePort old new
met_same old new [] is = same_so old new is
met_same old new (feeder ∷ feeders) is =
    let first = is.1.new_is in
    same_again old is.0 new (record {
      opened = ap (λ (p : PortView). p.opened) first;
      book = ap (λ (p : PortView). p.book) first;
      author = ap (λ (p : PortView). p.author) first;
      alone = ap (λ (p : PortView). p.is_alone) first;
      start = ap (λ (p : PortView). p.start) first;
    }) (met_same is.0 new feeders is.2)

-- the turns that a session took itself are those of its own port
pub own_taken : (schema : List SchemaNode) (old : Outside) (how : How) (new : Outside) (run : SessionRunBeside schema old how new) → TakesTurns (own_port old.port) (turns_in (deeds_in run.run.served)) (own_port run.port)
own_taken schema old how new run =
    turns_taken schema (first_service (start_of schema (outside_of old.input old.output (own_port old.port) old.readings)))
    (service_of (standing_of (own_port run.port) run.run.calls new.readings run.run.round)) (deeds_in run.run.served) run.run.served.done

pub served_same : (schema : List SchemaNode) (old : Outside) (how : How) (new : Outside) → SessionRunBeside schema old how new → old.port.is_alone ≡ false → IsSamePort old.port new.port
served_same schema old how new run shared =
    let own = taken_same (own_port old.port) (own_port run.port) (turns_in (deeds_in run.run.served)) (own_taken schema old how new run) in
    let met = met_same run.port new.port run.feeders run.met in
    record {
      opened = met.opened ∙ own.opened;
      book = met.book ∙ own.book;
      author = met.author ∙ own.author;
      alone = met.alone ∙ run.shared ∙ sym shared;
      start = met.start ∙ own.start;
    }
