-- What the texts of schemas give.
use Rattle.std.specs.Prelude.{◌≡◌, ℕ, List, Ok}
use Rattle.base_kinds.specs.Schema.{SchemaNode}
use Rattle.schema_core.specs.WellFormed.{IsWellFormed}
use Rattle.schema_text.specs.Schemas.{schema_of}

-- the schema that a text is, is well-formed
abbrev pub ReadSchemasAreWellFormed : Type 0
ReadSchemasAreWellFormed =
    (text : List ℕ) (schema : List SchemaNode) → schema_of text ≡ Ok schema → IsWellFormed schema
