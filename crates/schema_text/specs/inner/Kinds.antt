-- The texts that a list of them may have.
use Rattle.std.specs.Prelude.{ℕ, List, Bool}
use Rattle.schema_text.specs.declared.texts.Word.{Word}
use Rattle.schema_text.specs.declared.texts.Word.TheVariants as words
use Rattle.plain_texts.specs.Names.{is_name}
use Rattle.schema_core.specs.Shapes.{is_enum_text}

abbrev pub passes : Word → List ℕ → Bool
passes words.Name octets = is_name octets
passes words.EnumText octets = is_enum_text octets
