-- The numbers of the fields of gnmi.proto's messages that carry data, by their names there.
use Rattle.std.specs.Prelude.{ℕ}

-- Path
abbrev pub path_element : ℕ
path_element = 1

abbrev pub path_origin : ℕ
path_origin = 2

abbrev pub path_elem : ℕ
path_elem = 3

abbrev pub path_target : ℕ
path_target = 4

-- PathElem
abbrev pub elem_name : ℕ
elem_name = 1

abbrev pub elem_key : ℕ
elem_key = 2

-- TypedValue, all of one oneof
abbrev pub string_val : ℕ
string_val = 1

abbrev pub int_val : ℕ
int_val = 2

abbrev pub uint_val : ℕ
uint_val = 3

abbrev pub bool_val : ℕ
bool_val = 4

abbrev pub bytes_val : ℕ
bytes_val = 5

abbrev pub float_val : ℕ
float_val = 6

abbrev pub decimal_val : ℕ
decimal_val = 7

abbrev pub leaflist_val : ℕ
leaflist_val = 8

abbrev pub any_val : ℕ
any_val = 9

abbrev pub json_val : ℕ
json_val = 10

abbrev pub json_ietf_val : ℕ
json_ietf_val = 11

abbrev pub ascii_val : ℕ
ascii_val = 12

abbrev pub proto_bytes : ℕ
proto_bytes = 13

abbrev pub double_val : ℕ
double_val = 14

-- Decimal64
abbrev pub decimal_digits : ℕ
decimal_digits = 1

abbrev pub decimal_precision : ℕ
decimal_precision = 2

-- ScalarArray
abbrev pub array_element : ℕ
array_element = 1

-- Update
abbrev pub update_path : ℕ
update_path = 1

abbrev pub update_val : ℕ
update_val = 3

-- Notification
abbrev pub note_timestamp : ℕ
note_timestamp = 1

abbrev pub note_prefix : ℕ
note_prefix = 2

abbrev pub note_update : ℕ
note_update = 4

abbrev pub note_delete : ℕ
note_delete = 5
