-- From Run, the other clause of `run`, to the page.
use Rattle.std.proofs.Common.{◌≡◌, ◌⊎◌, inl, inr, ℕ, List, [], ◌∷◌, ◌++◌, ap, Option, Some, None}
use Rattle.base_kinds.specs.declared.entry.Limits.{Limits}
use Rattle.session_core.specs.declared.how.How.{How}
use Rattle.session_core.specs.Runs.{outside_of}
use Rattle.script_run.proofs.ScriptLaws.{answers_tell, makes_done}
use Rattle.program.specs.Commands.{Serve, Session}
use Rattle.program.specs.Commands.{IsScript}
use Rattle.program.specs.Ending.{exit_status}
use Rattle.program.specs.Environment.{Environment, SeenDisk}
use Rattle.program.specs.Links.{SeenLinks}
use Rattle.program.specs.Run.{Run}
use Rattle.program.specs.ServeCommand.{ServeCommand}
use Rattle.program.specs.ServeCommand as serve
use Rattle.program.specs.SessionCommand.{SessionCommand, Streams}
use Rattle.program.specs.SessionCommand as session
use Rattle.program.specs.declared.ending.Ending.{Ending}
use Rattle.program.specs.declared.ending.Ending.TheVariants.{Done}
use Rattle.program.specs.headline.Headline.{AcceptsNone, Headline, ScriptKeeps, ServeKeeps, HearsNothing, SessionKeeps}
use Rattle.program.proofs.KeptAnswers.{scripts_are_kept}
use Rattle.program.proofs.headline.Conversing.{session_keeps}
use Rattle.program.proofs.headline.Scripting.{answers_are_of_one}
use Rattle.program.proofs.headline.Serving.{serve_keeps}

-- ---- serve

serve_so : (schema journal : List ℕ) (sessions : ℕ) (before after : Environment) (returned : Option SeenDisk) (links : SeenLinks) (ending : Ending) → ServeCommand schema journal sessions before after returned links ending → AcceptsNone before after links ⊎ ServeKeeps schema journal before after returned links
serve_so schema journal sessions before after returned links ending (inl goes) = elim (goes.goes_on.serves) [
  | inl all ↦ inr (record {
    opens = record {
      schema = goes.schema;
      between = goes.between;
      gave_schema = goes.gave_schema;
      initial = goes.initial;
      gave_disk = goes.gave_disk;
      final = goes.final;
      returned_is = goes.returned_is;
      limits = all.limits;
      found = all.found;
      has_journal = all.has_journal;
      now = goes.goes_on.now;
    };
    clock = goes.goes_on.clock;
    one = serve_keeps (serve.opened_on sessions goes.schema goes.goes_on.now goes.initial goes.final before after links ending all.limits all.found) all.name sessions all.how links before.door all.last after.door goes.final.told all.left.history all.left.doubt all.served all.authors all.left.goes_on all.left.run all.left.images;
  })
  | inr none ↦ elim none [
    | inl shares ↦ inl (record { links_are = shares.links_are; door = shares.door })
    | inr opens ↦ inl (record { links_are = opens.links_are; door = opens.door })
  ]
]
serve_so schema journal sessions before after returned links ending (inr (inl stops)) = inl (record { links_are = stops.nothing.links_are; door = ap (λ (e : Environment). e.door) stops.nothing.rest })
serve_so schema journal sessions before after returned links ending (inr (inr stops)) = inl (record { links_are = stops.nothing.links_are; door = ap (λ (e : Environment). e.door) stops.nothing.rest })

-- ---- session

untouched : (before after : Environment) (how : Option How) → session.streams_of after ≡ session.streams_of before → how ≡ None → HearsNothing before after how
untouched before after how streams none = record {
  how_is = none;
  input = ap (λ (s : Streams). s.input) streams;
  output = ap (λ (s : Streams). s.output) streams;
}

session_so : (schema journal : List ℕ) (before after : Environment) (returned : Option SeenDisk) (how : Option How) (ending : Ending) → SessionCommand schema journal before after returned how ending → HearsNothing before after how ⊎ SessionKeeps schema journal before after returned how
session_so schema journal before after returned how ending (inl goes) = elim (goes.goes_on.serves) [
  | inl one ↦ inr (record {
    opens = record {
      schema = goes.schema;
      between = goes.between;
      gave_schema = goes.gave_schema;
      initial = goes.initial;
      gave_disk = goes.gave_disk;
      final = goes.final;
      returned_is = goes.returned_is;
      limits = one.limits;
      found = one.found;
      has_journal = one.has_journal;
      now = goes.goes_on.now;
    };
    connection = one.connection;
    how_is = one.how_is;
    one = session_keeps (session.opened goes.schema goes.goes_on.now goes.initial goes.final ending one.limits one.found) before.input before.output (before.clock ++ goes.goes_on.now ∷ []) (outside_of after.input after.output one.port after.clock) one.connection goes.final.told one.left.doubt one.run one.left.run one.left.images;
  })
  | inr none ↦ inl (record {
    how_is = none.how_is;
    input = ap (λ (s : Streams). s.input) none.streams;
    output = ap (λ (s : Streams). s.output) none.streams;
  })
]
session_so schema journal before after returned how ending (inr (inl stops)) = inl (untouched before after how stops.nothing.streams stops.nothing.how_is)
session_so schema journal before after returned how ending (inr (inr stops)) = inl (untouched before after how stops.nothing.streams stops.nothing.how_is)

-- ---- script

script_so : (words : List (List ℕ)) (schema : List ℕ) (limits : Limits) (before after : Environment) (returned : Option SeenDisk) (how : Option How) (links : SeenLinks) (status : ℕ) → IsScript words schema limits → Run words before after returned how links status → status ≡ exit_status Done → ScriptKeeps schema limits before after
script_so words schema limits before after returned how links status is run good =
    let kept = scripts_are_kept words schema limits before after returned how links status is run good in
    record {
      schema_text = kept.0;
      gave = kept.1;
      schema = kept.2;
      schema_is = kept.3;
      script = kept.4.script;
      read = kept.4.read;
      text = kept.4.text;
      written = kept.4.written;
      one = answers_are_of_one answers_tell makes_done kept.2 limits kept.4.script kept.4.text kept.4.keeps;
    }

pub headline_of : (words : List (List ℕ)) (before after : Environment) (returned : Option SeenDisk) (how : Option How) (links : SeenLinks) (status : ℕ) → Run words before after returned how links status → Headline words before after returned how links status
headline_of words before after returned how links status run = record {
  serve = λ schema journal address sessions is. serve_so schema journal sessions before after returned links run.ending (run.done (Serve schema journal address sessions) is);
  session = λ schema journal is. session_so schema journal before after returned how run.ending (run.done (Session schema journal) is);
  script = λ schema limits is good. script_so words schema limits before after returned how links status is run good;
}
