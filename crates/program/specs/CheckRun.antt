-- `check SCHEMA` prints how many nodes the schema has. The schema's text format is this project's own (docs/FORMATS.md).
use Rattle.std.specs.Prelude.{◌≡◌, ℕ, List, [], ◌∷◌, ◌++◌, codes, length}
use Rattle.std.specs.Fmt.{decimal}
use Rattle.base_kinds.specs.Schema.{SchemaNode}
use Rattle.program.specs.declared.ending.Ending.{Ending}
use Rattle.program.specs.declared.ending.Ending.TheVariants.{Done}
use Rattle.program.specs.Environment.{Environment}
use Rattle.program.specs.Printing.{MakesText}
use Rattle.program.specs.SchemaFile.{UnderSchema}

-- `schema ok` and the number of nodes
abbrev pub count_line : List SchemaNode → List ℕ
count_line schema = codes "schema ok " ++ (decimal (length schema) ++ 10 ∷ [])

-- the line is printed, and the input is left alone
pub record Counts
    (before after : Environment) (ending : Ending) (schema : List SchemaNode) : Type 0 where
  pub input : after.input ≡ before.input
  pub output : MakesText (count_line schema) Done before.output after.output ending

abbrev pub CheckRun : List ℕ → Environment → Environment → Ending → Type 0
CheckRun name before after ending =
    UnderSchema name before after ending (Counts before after ending)
