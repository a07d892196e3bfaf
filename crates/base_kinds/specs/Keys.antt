-- The text of a value as the key of a list's entry (gNMI path conventions 2.2.1, RFC 7951 6).
use Rattle.std.specs.Prelude.{ℕ, List, []}
use Rattle.std.specs.Fmt.{decimal, signed_decimal}
use Rattle.base_kinds.specs.declared.value.Value.{Value}
use Rattle.base_kinds.specs.declared.value.Value as v
use Rattle.base_kinds.specs.Texts.{bool_text, dec_text, base64_text}

-- a text or an enum as it is, octets in base64; a list is no key
abbrev pub key_text : Value → List ℕ
key_text (v.Bool b) = bool_text b
key_text (v.Int number) = signed_decimal number
key_text (v.Uint number) = decimal number
key_text (v.Dec digits places) = dec_text digits places
key_text (v.Text text) = text
key_text (v.Bin octets) = base64_text octets
key_text (v.Enum text) = text
key_text (v.List' n values) = []
