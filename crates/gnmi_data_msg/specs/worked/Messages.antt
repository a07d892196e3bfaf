-- The definitions at concrete octets.
use Rattle.std.specs.Prelude.{◌≡◌, ℕ, List, [], ◌∷◌, ◌++◌, Some, None, refl, codes, false, pos}
use Rattle.std.specs.Str.{is_utf8, chars}
use Rattle.base_kinds.specs.declared.request.Given.TheVariants as given
use Rattle.base_kinds.specs.declared.value.Value.TheVariants as values
use Rattle.base_kinds.specs.declared.path.Elem.{Elem}
use Rattle.pb_message.specs.Fronts.{front_varint, front_octets, front_body, front_field}
use Rattle.pb_message.specs.Fields.{read_from}
use Rattle.gnmi_data_msg.specs.Parts.{fields_in}
use Rattle.gnmi_data_msg.specs.Paths.{entry_of, elem_of, path_of}
use Rattle.pb_wire.specs.Varint.{shortest}
use Rattle.gnmi_data_msg.specs.Writing.{path_message, value_message}
use Rattle.gnmi_data_msg.specs.TypedValues.{decimal_of, number_in, scalar_in, typed_fields, given_in, typed_of}

abbrev plain : List ℕ → Elem
plain name = record { name = name; keys = [] }

-- a path of four elements, one with a key, in its 58 octets
abbrev mtu_octets : List ℕ
mtu_octets =
    26 ∷ 12 ∷ 10 ∷ 10 ∷ codes "interfaces" ++ 26 ∷ 25 ∷ 10 ∷ 9 ∷ codes "interface" ++ 18 ∷ 12 ∷ 10
    ∷ 4 ∷ codes "name" ++ 18 ∷ 4 ∷ codes "eth0" ++ 26 ∷ 8 ∷ 10 ∷ 6 ∷ codes "config" ++ 26 ∷ 5 ∷ 10
    ∷ 3 ∷ codes "mtu"

path_of-mtu : path_of mtu_octets ≡ Some (record {
  path = plain (codes "interfaces")
      ∷ record { name = codes "interface"; keys = (codes "name", codes "eth0") ∷ [] }
      ∷ plain (codes "config") ∷ plain (codes "mtu") ∷ [];
  origin = [];
  target = [];
  old_element = false;
})
unfolding path_of elem_of entry_of fields_in read_from front_field front_body front_octets front_varint is_utf8 chars lib.Utf8.encode
path_of-mtu = refl

-- 18 dc 0b 18 f8 0a: the last scalar
typed_of-last : typed_of (24 ∷ 220 ∷ 11 ∷ 24 ∷ 248 ∷ 10 ∷ [])
    ≡ Some (given.Scalar (values.Uint 1400))
unfolding typed_of typed_fields given_in scalar_in number_in fields_in read_from front_field front_body front_octets front_varint is_utf8 chars
typed_of-last = refl

-- 08: a tag alone
typed_of-cut : typed_of (8 ∷ []) ≡ None
unfolding typed_of typed_fields given_in scalar_in number_in fields_in read_from front_field front_body front_octets front_varint is_utf8 chars
typed_of-cut = refl

-- no member is set
typed_of-none : typed_of [] ≡ Some given.Missing
unfolding typed_of typed_fields given_in scalar_in number_in fields_in read_from front_field front_body front_octets front_varint is_utf8 chars
typed_of-none = refl

-- 3a 03 08 96 01 3a 02 10 02: two occurrences of a decimal are one, 1.50
typed_of-joined : typed_of (58 ∷ 3 ∷ 8 ∷ 150 ∷ 1 ∷ 58 ∷ 2 ∷ 16 ∷ 2 ∷ [])
    ≡ Some (given.Scalar (values.Dec (pos 150) 2))
unfolding typed_of typed_fields given_in scalar_in number_in decimal_of fields_in read_from front_field front_body front_octets front_varint is_utf8 chars
typed_of-joined = refl

-- 3a 06 08 80 01 10 ac 02: a precision of 300
typed_of-precise : typed_of (58 ∷ 6 ∷ 8 ∷ 128 ∷ 1 ∷ 16 ∷ 172 ∷ 2 ∷ [])
    ≡ Some (given.Scalar (values.Dec (pos 128) 255))
unfolding typed_of typed_fields given_in scalar_in number_in decimal_of fields_in read_from front_field front_body front_octets front_varint is_utf8 chars
typed_of-precise = refl

-- the same path is written so
path_message-mtu : path_message
    (plain (codes "interfaces")
    ∷ record { name = codes "interface"; keys = (codes "name", codes "eth0") ∷ [] }
    ∷ plain (codes "config") ∷ plain (codes "mtu") ∷ []) ≡ mtu_octets
unfolding shortest
path_message-mtu = refl

-- an empty key and an empty value are left out: 1a 02 12 00
path_message-empty : path_message (record { name = []; keys = ([], []) ∷ [] } ∷ [])
    ≡ 26 ∷ 2 ∷ 18 ∷ 0 ∷ []
unfolding shortest
path_message-empty = refl

-- 18 f8 0a
value_message-1400 : value_message (values.Uint 1400) ≡ 24 ∷ 248 ∷ 10 ∷ []
unfolding shortest
value_message-1400 = refl

-- a scalar of a oneof is written where it is 0 too: 18 00
value_message-0 : value_message (values.Uint 0) ≡ 24 ∷ 0 ∷ []
unfolding shortest
value_message-0 = refl

-- 1.50: 3a 05 08 96 01 10 02
value_message-decimal : value_message (values.Dec (pos 150) 2) ≡ 58 ∷ 5 ∷ 8 ∷ 150 ∷ 1 ∷ 16 ∷ 2 ∷ []
unfolding shortest
value_message-decimal = refl
