-- The first thing that a command does with a schema: it reads the text of its file.
use Rattle.std.specs.Prelude.{◌≡◌, ℕ, List, [], ◌∷◌, ◌++◌, ◌⊎◌, codes, Result, Ok, Err}
use Rattle.std.specs.Fmt.{decimal}
use Rattle.base_kinds.specs.Schema.{SchemaNode}
use Rattle.schema_text.specs.Causes.{cause_text}
use Rattle.schema_text.specs.declared.cause.SchemaFault.{SchemaFault}
use Rattle.schema_text.specs.Schemas.{schema_of}
use Rattle.program.specs.declared.ending.Ending.{Ending}
use Rattle.program.specs.declared.ending.Ending.TheVariants.{NoSchema, InputFault}
use Rattle.program.specs.Environment.{Environment, GaveText, FailedToGive, files_after_ask}
use Rattle.program.specs.Printing.{SaysLast, OutOfMemory, MakesText}

-- `schema line` with the line of the first fault of a text that is no schema, and its cause
abbrev pub fault_line : SchemaFault → List ℕ
fault_line fault =
    codes "schema line "
    ++ (decimal fault.line ++ (codes ": " ++ (cause_text fault.cause ++ 10 ∷ [])))

-- the file of this name could not be read, and nothing else was read
pub record FileFails (name : List ℕ) (before after : Environment) (ending : Ending) : Type 0 where
  pub ends : ending ≡ InputFault
  pub files : FailedToGive name before.files after.files
  pub input : after.input ≡ before.input
  pub line : SaysLast (codes "input fault\n") before.output after.output

-- memory was wanting for the text or the schema
pub record RunsOutOfMemory
    (name : List ℕ) (before after : Environment) (ending : Ending) : Type 0 where
  pub files : (after.files ≡ files_after_ask name before.files)
      ⊎ ((text : List ℕ) × GaveText name text before.files after.files)
  pub input : after.input ≡ before.input
  pub output : OutOfMemory before.output after.output ending

-- a text that is no schema: its first fault is printed, and the input is left alone
pub record BadText
    (fault : SchemaFault) (before after : Environment) (ending : Ending) : Type 0 where
  pub input : after.input ≡ before.input
  pub output : MakesText (fault_line fault) NoSchema before.output after.output ending

-- what is done by a text read as a schema
abbrev pub UnderText : Result (List SchemaNode) SchemaFault → Environment → Environment → Ending →
    (List SchemaNode → Type 0) → Type 0
UnderText (Ok schema) before after ending Then = Then schema
UnderText (Err fault) before after ending Then = BadText fault before after ending

-- the file of this name gave a text, and it was done by that
pub record FromText
    (name : List ℕ) (before after : Environment) (ending : Ending)
    (Then : List SchemaNode → Type 0) : Type 0 where
  pub text : List ℕ
  pub gave : GaveText name text before.files after.files
  pub under : UnderText (schema_of text) before after ending Then

-- a run under the schema whose text is in the file of this name: once that is read, it goes on so
abbrev pub UnderSchema : List ℕ → Environment → Environment → Ending → (List SchemaNode → Type 0) →
    Type 0
UnderSchema name before after ending Then =
    FromText name before after ending Then ⊎ FileFails name before after ending
    ⊎ RunsOutOfMemory name before after ending
