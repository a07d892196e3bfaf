-- The definitions on worked examples.
use Rattle.std.specs.Prelude.{◌≡◌, ℕ, List, [], ◌∷◌, ◌++◌, codes, length, refl, pos, negsuc, true}
use Rattle.base_kinds.specs.declared.value.Value.TheVariants as values
use Rattle.base_kinds.specs.declared.entry.Kind.TheVariants as kinds
use Rattle.base_kinds.specs.worked.Samples.{hostname_entry}
use Rattle.journal_record.specs.Spelling.{text_spelling, key_spelling, keys_spelling, elem_spelling, path_spelling, value_spelling, row_spelling, rows_spelling, op_spelling, ops_spelling, kind_spelling, record_of}

-- the path `/system/config/hostname`
abbrev pub hostname_octets : List ℕ
hostname_octets =
    0 ∷ 3 ∷ 0 ∷ 0 ∷ 0 ∷ 6 ∷ codes "system" ++ 0 ∷ 0 ∷ 0 ∷ 0 ∷ 0 ∷ 6 ∷ codes "config" ++ 0 ∷ 0 ∷ 0
    ∷ 0 ∷ 0 ∷ 8 ∷ codes "hostname" ++ 0 ∷ 0 ∷ []

-- the record of a first Set of it to "r1" at stamp 1000 by author 1
abbrev pub hostname_record : List ℕ
hostname_record =
    0 ∷ 0 ∷ 0 ∷ 1 ∷ 0 ∷ 0 ∷ 0 ∷ 0 ∷ 0 ∷ 0 ∷ 3 ∷ 232 ∷ 1 ∷ 0 ∷ 0 ∷ 0 ∷ 1 ∷ 3
    ∷ (hostname_octets ++ 0 ∷ 0 ∷ 0 ∷ 1 ∷ (hostname_octets ++ 5 ∷ 0 ∷ 0 ∷ 0 ∷ 2 ∷ codes "r1"))

pub hostname_is : record_of hostname_entry ≡ hostname_record
unfolding record_of kind_spelling ops_spelling op_spelling rows_spelling row_spelling path_spelling elem_spelling keys_spelling text_spelling
hostname_is = refl

hostname_length : length (record_of hostname_entry) ≡ 109
unfolding record_of kind_spelling ops_spelling op_spelling rows_spelling row_spelling path_spelling elem_spelling keys_spelling text_spelling
hostname_length = refl

minus_one : value_spelling (values.Int (negsuc 0))
    ≡ 2 ∷ 255 ∷ 255 ∷ 255 ∷ 255 ∷ 255 ∷ 255 ∷ 255 ∷ 255 ∷ []
minus_one = refl

one_and_a_half : value_spelling (values.Dec (pos 150) 2)
    ≡ 4 ∷ 0 ∷ 0 ∷ 0 ∷ 0 ∷ 0 ∷ 0 ∷ 0 ∷ 150 ∷ 2 ∷ []
one_and_a_half = refl

two_values : value_spelling (values.List (values.Bool true ∷ values.Uint 256 ∷ []))
    ≡ 8 ∷ 0 ∷ 0 ∷ 0 ∷ 2 ∷ 1 ∷ 1 ∷ 3 ∷ 0 ∷ 0 ∷ 0 ∷ 0 ∷ 0 ∷ 0 ∷ 1 ∷ 0 ∷ []
unfolding Rattle.base_kinds.specs.declared.value.Value.TheBlock.hidden-the_row-Value-0 denote.Hole.Carrier.hidden
two_values = refl

extend_record : record_of
    (record { number = 3; author = 258; stamp = 1; kind = kinds.Extend 1000000001 })
    ≡ 0 ∷ 0 ∷ 1 ∷ 2 ∷ 0 ∷ 0 ∷ 0 ∷ 0 ∷ 0 ∷ 0 ∷ 0 ∷ 1 ∷ 7 ∷ 0 ∷ 0 ∷ 0 ∷ 0 ∷ 59 ∷ 154 ∷ 202 ∷ 1 ∷ []
unfolding record_of kind_spelling
extend_record = refl

key_octets : key_spelling (codes "n", codes "") ≡ 0 ∷ 0 ∷ 0 ∷ 1 ∷ 110 ∷ 0 ∷ 0 ∷ 0 ∷ 0 ∷ []
unfolding key_spelling text_spelling
key_octets = refl
