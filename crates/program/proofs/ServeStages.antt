-- A run of `serve` in its stages.
use Rattle.std.proofs.Common.{◌≡◌, ◌⊎◌, ℕ, List, [], Some, None, Option, inl, inr, refl, sym, ap, ◌∙◌, subst}
use Rattle.base_kinds.specs.Schema.{SchemaNode}
use Rattle.environment.specs.Output.{Output}
use Rattle.program.specs.declared.ending.Ending.{Ending}
use Rattle.program.specs.Environment.{Environment, SeenDisk, SeenFiles, GaveDisk, GaveText, files_after_disk}
use Rattle.program.specs.Links.{SeenLinks}
use Rattle.program.specs.Printing.{OutOfMemory}
use Rattle.program.specs.SchemaFile.{UnderSchema}
use Rattle.program.specs.SchemaGiven.{GaveSchema}
use Rattle.program.specs.ServeCommand.{OnDisk, OpensNone, ServeCommand, ServesAll, SharesNone}
use Rattle.program.specs.inner.OpenedSchema.{Opened}

-- what was done over the disk is said of the environment before the files were asked for
serves_apart : (sessions : ℕ) (schema : List SchemaNode) (now : ℕ) (initial final : SeenDisk) (before : Environment) (files : SeenFiles) (after : Environment) (links : SeenLinks) (ending : Ending) →
    ServesAll sessions schema now initial final (record before { files = files }) after links ending ⊎ SharesNone sessions schema now initial final (record before { files = files }) after links ending ⊎ OpensNone sessions schema now initial final (record before { files = files }) after links ending →
    ServesAll sessions schema now initial final before after links ending ⊎ SharesNone sessions schema now initial final before after links ending ⊎ OpensNone sessions schema now initial final before after links ending
serves_apart sessions schema now initial final before files after links ending (inl all) = inl (record {
  limits = all.limits;
  found = all.found;
  has_journal = all.has_journal;
  name = all.name;
  how = all.how;
  last = all.last;
  served = all.served;
  authors = all.authors;
  left = all.left;
  output = all.output;
})
serves_apart sessions schema now initial final before files after links ending (inr (inl none)) = inr (inl (record {
  limits = none.limits;
  found = none.found;
  has_journal = none.has_journal;
  moments = none.moments;
  images = none.images;
  quiet = none.quiet;
  output = none.output;
  door = none.door;
  links_are = none.links_are;
}))
serves_apart sessions schema now initial final before files after links ending (inr (inr none)) = inr (inr (record { why = none.why; door = none.door; links_are = none.links_are }))

files_apart : (sessions : ℕ) (schema : List SchemaNode) (initial final : SeenDisk) (before : Environment) (files : SeenFiles) (after : Environment) (links : SeenLinks) (ending : Ending) → OnDisk sessions schema initial final (record before { files = files }) after links ending → OnDisk sessions schema initial final before after links ending
files_apart sessions schema initial final before files after links ending on = record {
  now = on.now;
  input = on.input;
  clock = on.clock;
  serves = serves_apart sessions schema on.now initial final before files after links ending on.serves;
}

-- both files were given
pub goes_on_disk : (schema_name journal_name : List ℕ) (sessions : ℕ) (schema : List SchemaNode) (before between mid after : Environment) (initial final : SeenDisk) (links : SeenLinks) (ending : Ending) → Opened schema_name schema before between → GaveDisk files_after_disk journal_name initial between.files mid.files → mid ≡ record between { files = mid.files } → after.files ≡ mid.files → OnDisk sessions schema initial final mid after links ending → ServeCommand schema_name journal_name sessions before after (Some final) links ending
goes_on_disk schema_name journal_name sessions schema before between mid after initial final links ending opened gave rest files on =
    let start : mid ≡ record before { files = mid.files } = rest ∙ ap (λ (e : Environment). let environment : Environment = record e { files = mid.files } in environment) opened.rest in
    inl (record {
      schema = schema;
      between = between.files;
      gave_schema = record { text = opened.text; gave = opened.gave; is = opened.is };
      initial = initial;
      gave_disk = subst (λ (f : SeenFiles). GaveDisk files_after_disk journal_name initial between.files f) (sym files) gave;
      final = final;
      returned_is = refl;
      goes_on = files_apart sessions schema initial final before mid.files after links ending (subst (λ (e : Environment). OnDisk sessions schema initial final e after links ending) start on);
    })

-- no schema was given, and nothing else done
pub stops_at_schema : (schema_name journal_name : List ℕ) (sessions : ℕ) (before after : Environment) (returned : Option SeenDisk) (links : SeenLinks) (ending : Ending) → UnderSchema schema_name before after ending (λ _. ⊥) → after ≡ record before { files = after.files; output = after.output } → returned ≡ None → links ≡ [] → ServeCommand schema_name journal_name sessions before after returned links ending
stops_at_schema schema_name journal_name sessions before after returned links ending stops rest none no_links =
    inr (inr (record { stops = stops; nothing = record { rest = rest; none = none; links_are = no_links } }))

-- and so it is of what a command leaves that is handed on
pub stops_so : (schema_name journal_name : List ℕ) (sessions : ℕ) (before mid after : Environment) (returned : Option SeenDisk) (links : SeenLinks) (ending ending' : Ending) → after ≡ mid → ending' ≡ ending → returned ≡ None → links ≡ [] → UnderSchema schema_name before mid ending (λ _. ⊥) → mid ≡ record before { files = mid.files; output = mid.output } → ServeCommand schema_name journal_name sessions before after returned links ending'
stops_so schema_name journal_name sessions before mid after returned links ending ending' p q none no_links stops rest =
    subst (λ (e : Ending). ServeCommand schema_name journal_name sessions before after returned links e) (sym q)
    (subst (λ (e : Environment). ServeCommand schema_name journal_name sessions before e returned links ending) (sym p)
    (stops_at_schema schema_name journal_name sessions before mid returned links ending stops rest none no_links))

-- memory was wanting behind the schema
pub starved_behind : (name : List ℕ) (schema : List SchemaNode) (before mid after : Environment) (ending : Ending) → Opened name schema before mid → after ≡ record mid { output = after.output } → OutOfMemory mid.output after.output ending → UnderSchema name before after ending (λ _. ⊥)
starved_behind name schema before mid after ending opened rest out =
    let files : after.files ≡ mid.files = ap (λ (e : Environment). e.files) rest in
    inr (inr (record {
      files = inr (opened.text, subst (λ (f : SeenFiles). GaveText name opened.text before.files f) (sym files) opened.gave);
      input = ap (λ (e : Environment). e.input) rest ∙ ap (λ (e : Environment). e.input) opened.rest;
      output = subst (λ (o : Output). OutOfMemory o after.output ending) (ap (λ (e : Environment). e.output) opened.rest) out;
    }))
