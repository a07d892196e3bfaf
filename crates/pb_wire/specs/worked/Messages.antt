-- The definitions at concrete octets, most of them protobuf.dev's own ("Encoding").
use Rattle.std.proofs.Common.{◌≡◌, ℕ, ◌^◌, ◌-◌, List, [], ◌∷◌, Some, None, refl, lit<, lit≤}
use Rattle.pb_wire.specs.declared.field.Body.TheVariants.{Varint, Octets}
use Rattle.pb_wire.specs.declared.field.Field.{Field}
use Rattle.base_lists.specs.SevenBits.{number_of_groups}
use Rattle.pb_wire.specs.Varint.{IsVarint, shortest}
use Rattle.pb_wire.specs.Message.{IsMessage}
use Rattle.pb_wire.specs.Writing.{varint_field, octets_field, shifted}
use Rattle.pb_wire.specs.Values.{varints, occurrences, last_scalar, last_octets, joined_octets, one_of, entry_of, last_entries, value_of_key}

abbrev varint : ℕ → ℕ → Field
varint number n = record { number = number; body = Varint n }

abbrev octets : ℕ → ℕ → ℕ → Field
octets number from to = record { number = number; body = Octets from to }

number_of_groups-150 : number_of_groups (150 ∷ 1 ∷ []) ≡ 150
number_of_groups-150 = refl

-- more octets than are needed
number_of_groups-long : number_of_groups (150 ∷ 129 ∷ 128 ∷ 0 ∷ []) ≡ 150
number_of_groups-long = refl

number_of_groups-largest : number_of_groups
    (255 ∷ 255 ∷ 255 ∷ 255 ∷ 255 ∷ 255 ∷ 255 ∷ 255 ∷ 255 ∷ 1 ∷ []) ≡ 2 ^ 64 - 1
number_of_groups-largest = refl

IsVarint-150 : IsVarint (150 ∷ 1 ∷ []) 150
IsVarint-150 = record { marked = (lit≤ tt, lit< tt); short = lit≤ tt; value = refl; fits = lit< tt }

shortest-150 : shortest 150 ≡ 150 ∷ 1 ∷ []
unfolding shortest
shortest-150 = refl

shortest-largest : shortest (2 ^ 64 - 1)
    ≡ 255 ∷ 255 ∷ 255 ∷ 255 ∷ 255 ∷ 255 ∷ 255 ∷ 255 ∷ 255 ∷ 1 ∷ []
unfolding shortest
shortest-largest = refl

-- 08 96 01
varint_field-150 : varint_field 1 150 ≡ 8 ∷ 150 ∷ 1 ∷ []
unfolding shortest
varint_field-150 = refl

-- 12 07 74 65 73 74 69 6e 67
octets_field-testing : octets_field 2 (116 ∷ 101 ∷ 115 ∷ 116 ∷ 105 ∷ 110 ∷ 103 ∷ [])
    ≡ 18 ∷ 7 ∷ 116 ∷ 101 ∷ 115 ∷ 116 ∷ 105 ∷ 110 ∷ 103 ∷ []
unfolding shortest
octets_field-testing = refl

IsMessage-150 : IsMessage (8 ∷ 150 ∷ 1 ∷ []) (varint 1 150 ∷ [])
IsMessage-150 = record {
  are_fields = (
    8 ∷ 150 ∷ 1 ∷ [],
    [],
    refl,
    record {
      tag = 8 ∷ [];
      body = 150 ∷ 1 ∷ [];
      parts = refl;
      is_tag = record { marked = lit< tt; short = lit≤ tt; value = refl; fits = lit< tt };
      is_number = (lit≤ tt, lit< tt);
      is_body = IsVarint-150;
    },
    refl,
  );
}

shifted-places : shifted 3 (varint 1 150 ∷ octets 2 2 4 ∷ []) ≡ varint 1 150 ∷ octets 2 5 7 ∷ []
shifted-places = refl

varints-3 : varints 3 (varint 3 1500 ∷ octets 3 0 1 ∷ varint 4 7 ∷ varint 3 1400 ∷ [])
    ≡ 1500 ∷ 1400 ∷ []
varints-3 = refl

last_scalar-3 : last_scalar 3 (varint 3 1500 ∷ varint 3 1400 ∷ varint 4 7 ∷ []) ≡ Some 1400
last_scalar-3 = refl

last_scalar-absent : last_scalar 5 (varint 3 1500 ∷ []) ≡ None
last_scalar-absent = refl

-- 0a 01 61 12 01 62 0a 01 63
abbrev three : List ℕ
three = 10 ∷ 1 ∷ 97 ∷ 18 ∷ 1 ∷ 98 ∷ 10 ∷ 1 ∷ 99 ∷ []

abbrev three_fields : List Field
three_fields = octets 1 2 3 ∷ octets 2 5 6 ∷ octets 1 8 9 ∷ []

occurrences-1 : occurrences three 1 three_fields ≡ (97 ∷ []) ∷ (99 ∷ []) ∷ []
occurrences-1 = refl

joined_octets-1 : joined_octets three 1 three_fields ≡ 97 ∷ 99 ∷ []
joined_octets-1 = refl

last_octets-1 : last_octets three 1 three_fields ≡ Some (99 ∷ [])
last_octets-1 = refl

-- a varint of field 1 is no string of field 1
last_octets-kind : last_octets three 1 (octets 1 2 3 ∷ varint 1 5 ∷ []) ≡ Some (97 ∷ [])
last_octets-kind = refl

-- the member 2 between ends the first run of the member 1; the unknown field 9 does not
one_of-run : one_of ((1, 2) ∷ (2, 2) ∷ [])
    (octets 1 2 3 ∷ octets 2 5 6 ∷ octets 1 8 9 ∷ varint 9 0 ∷ octets 1 12 13 ∷ [])
    ≡ octets 1 8 9 ∷ octets 1 12 13 ∷ []
one_of-run = refl

-- a member with another wire type is skipped
one_of-kind : one_of ((1, 2) ∷ (2, 0) ∷ []) (octets 1 2 3 ∷ octets 2 5 6 ∷ []) ≡ octets 1 2 3 ∷ []
one_of-kind = refl

-- 0a 01 6b 12 01 76, and 12 01 76 with no key
entry_of-both : entry_of (10 ∷ 1 ∷ 107 ∷ 18 ∷ 1 ∷ 118 ∷ []) (octets 1 2 3 ∷ octets 2 5 6 ∷ [])
    ≡ (107 ∷ [], 118 ∷ [])
entry_of-both = refl

entry_of-no_key : entry_of (18 ∷ 1 ∷ 118 ∷ []) (octets 2 2 3 ∷ []) ≡ ([], 118 ∷ [])
entry_of-no_key = refl

last_entries-name : last_entries {V = ℕ} ((1 ∷ [], 5) ∷ (2 ∷ [], 6) ∷ (1 ∷ [], 7) ∷ [])
    ≡ (2 ∷ [], 6) ∷ (1 ∷ [], 7) ∷ []
last_entries-name = refl

value_of_key-name : value_of_key {V = ℕ} (1 ∷ []) ((1 ∷ [], 5) ∷ (2 ∷ [], 6) ∷ (1 ∷ [], 7) ∷ [])
    ≡ Some 7
value_of_key-name = refl
