-- A schema that was read, for the commands that go on by it.
use Rattle.std.specs.Prelude.{◌≡◌, ℕ, List, Ok}
use Rattle.base_kinds.specs.Schema.{SchemaNode}
use Rattle.schema_text.specs.Schemas.{schema_of}
use Rattle.program.specs.Environment.{Environment, GaveText}

-- the file of this name gave the text of this schema, and nothing else was touched
pub record Opened
    (name : List ℕ) (schema : List SchemaNode) (before after : Environment) : Type 0 where
  pub text : List ℕ
  pub gave : GaveText name text before.files after.files
  pub is : schema_of text ≡ Ok schema
  pub rest : after ≡ record before { files = after.files }
