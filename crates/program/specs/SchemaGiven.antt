-- Reading a schema from its file, and nothing else.
use Rattle.std.specs.Prelude.{◌≡◌, ℕ, List, ◌⊎◌, Result, Ok, Err}
use Rattle.base_kinds.specs.Schema.{SchemaNode}
use Rattle.schema_text.specs.declared.cause.SchemaFault.{SchemaFault}
use Rattle.schema_text.specs.Schemas.{schema_of}
use Rattle.program.specs.declared.schema_file.SchemaFileError.{SchemaFileError}
use Rattle.program.specs.declared.schema_file.SchemaFileError.TheVariants.{Unreadable, NoSchema, NoMemory}
use Rattle.program.specs.Environment.{SeenFiles, GaveText, FailedToGive, files_after_ask}

-- the file of this name gave the text of this schema
pub record GaveSchema (name : List ℕ) (schema : List SchemaNode)
    (old new : SeenFiles) : Type 0 where
  pub text : List ℕ
  pub gave : GaveText name text old new
  pub is : schema_of text ≡ Ok schema

-- the file of this name gave a text that is no schema, with this first fault
pub record GaveNoSchema (name : List ℕ) (fault : SchemaFault) (old new : SeenFiles) : Type 0 where
  pub text : List ℕ
  pub gave : GaveText name text old new
  pub is : schema_of text ≡ Err fault

-- memory was wanting for the text, or behind it for the schema
abbrev pub AskedWithoutRoom : List ℕ → SeenFiles → SeenFiles → Type 0
AskedWithoutRoom name old new =
    (new ≡ files_after_ask name old) ⊎ ((text : List ℕ) × GaveText name text old new)

-- what reading the schema in the file of this name answers
abbrev pub SchemaGives : List ℕ → Result (List SchemaNode) SchemaFileError → SeenFiles → SeenFiles →
    Type 0
SchemaGives name (Ok schema) old new = GaveSchema name schema old new
SchemaGives name (Err Unreadable) old new = FailedToGive name old new
SchemaGives name (Err (NoSchema fault)) old new = GaveNoSchema name fault old new
SchemaGives name (Err NoMemory) old new = AskedWithoutRoom name old new
