-- Names and the texts of enums are ASCII, and so UTF-8.
use Rattle.std.proofs.Common.{◌≡◌, ℕ, ◌<◌, List, [], ◌∷◌, true, refl, arith, IsUtf8}
use Rattle.std.specs.List.{list_all}
use Rattle.std.proofs.lemmas.Bool.Decides.{nat_tests}
use Rattle.plain_texts.proofs.NameTexts.{ascii_is_utf8, name_is_utf8}
use Rattle.schema_core.specs.Shapes.{is_in_enum, is_enum_text}
use Rattle.schema_text.specs.declared.texts.Word.{Word}
use Rattle.schema_text.specs.declared.texts.Word.TheVariants as words
use Rattle.schema_text.specs.inner.Kinds.{passes}

in_enum_below : (octet : ℕ) → is_in_enum octet ≡ true → octet < 128
in_enum_below octet h = grind (arith, nat_tests)

enum_all : (octets : List ℕ) → is_enum_text octets ≡ true → list_all is_in_enum octets ≡ true
enum_all [] h = refl
enum_all (octet ∷ octets) h = h

pub passes_is_utf8 : (word : Word) (octets : List ℕ) → passes word octets ≡ true → IsUtf8 octets
passes_is_utf8 words.Name octets h = name_is_utf8 octets h
passes_is_utf8 words.EnumText octets h = ascii_is_utf8 is_in_enum in_enum_below octets (enum_all octets h)
