-- Notifications that are written are read back.
use Rattle.std.proofs.Common.{◌≡◌, ℕ, zero, suc, ◌+◌, ◌%◌, ◌^◌, ◌<◌, ◌≤◌, true, false, List, [], ◌∷◌, ◌++◌, length, Option, Some, None, refl, ap, ◌∙◌, arith, append-nil, lit≤}
use Rattle.std.specs.Prelude.{map, unwrap_or}
use Rattle.std.specs.Int.{w64, cast_signed}
use Rattle.std.specs.Option.{option_map}
use Rattle.std.specs.List.{AllByRecursion, concat, last_or}
use Rattle.std.specs.Str.{is_utf8, chars}
use Rattle.std.proofs.lemmas.List.{length-append}
use Rattle.base_kinds.specs.declared.path.Elem.{Elem}
use Rattle.base_kinds.specs.declared.operation.Row.{Row}
use Rattle.base_kinds.specs.declared.request.Given.{Given}
use Rattle.base_kinds.specs.declared.request.Given.TheVariants as given
use Rattle.base_kinds.specs.declared.request.Note.{Note}
use Rattle.base_kinds.specs.declared.value.Value.{Value}
use Rattle.base_kinds.specs.declared.value.Value as v
use Rattle.base_kinds.specs.Schema.{SchemaNode}
use Rattle.gnmi_kinds.specs.declared.ask.Encoding.{Encoding}
use Rattle.gnmi_kinds.specs.declared.ask.Encoding.TheVariants as encodings
use Rattle.gnmi_kinds.specs.declared.path.GnmiPath.{GnmiPath}
use Rattle.pb_wire.specs.declared.field.Field.{Field}
use Rattle.pb_wire.specs.Writing.{octets_field, octets_body}
use Rattle.pb_wire.specs.Values.{occurrences, varints}
use Rattle.pb_message.specs.Fields.{all_fields}
use Rattle.pb_wire.proofs.ValueLaws.{occurrences-written}
use Rattle.pb_wire.proofs.WritingLemmas.{IsMessage-octets}
use Rattle.pb_message.specs.Values.{pieces_under, joined_pieces}
use Rattle.gnmi_data_msg.specs.Numbers.{path_element, path_origin, path_elem, path_target, json_val, json_ietf_val, update_path, update_val, note_timestamp, note_prefix, note_update, note_delete}
use Rattle.gnmi_data_msg.specs.Parts.{each, messages_in}
use Rattle.gnmi_data_msg.specs.Paths.{elem_of, path_of}
use Rattle.gnmi_data_msg.specs.TypedValues.{typed_fields, given_in, typed_of}
use Rattle.gnmi_data_msg.specs.Writing.{text_field, message_fields, number_field, path_message, target_message, value_message}
use Rattle.gnmi_data_msg.proofs.FieldsIn.{is_read}
use Rattle.gnmi_data_msg.proofs.ReadBack.{text_there, text_read, texts_absent, text_short, items_short, path_read}
use Rattle.gnmi_data_msg.proofs.Single.{number_list, last_number}
use Rattle.gnmi_data_msg.proofs.ValuesBack.{scalar_read, list_read}
use Rattle.gnmi_note_msg.specs.Notifications.{update_message, prefix_field, note_message, row_text, json_number, row_value, row_update, note_octets, json_message, whole_octets}
use Rattle.gnmi_note_msg.specs.Reading.{UpdateRead, note_atomic, prefix_given, update_of, note_of}
use Rattle.gnmi_note_msg.specs.ReadBack.{IsTextPath, IsWritableValue, IsWritableIn, IsWritableRow, IsWritableNote, IsWritableWhole, plain_path, read_prefix, read_value, read_row, read_update, read_note, read_whole}
use Rattle.gnmi_note_msg.proofs.Says.{Says, only, nothing, joined, octets_say, messages_say, number_says, octets_long}

-- ---- values

value_read : (value : Value) → IsWritableValue value → typed_of (value_message value) ≡ Some (given.Scalar (read_value value))
value_read (v.Bool b) is = scalar_read (v.Bool b) is
value_read (v.Int number) is = scalar_read (v.Int number) is
value_read (v.Uint number) is = scalar_read (v.Uint number) is
value_read (v.Dec digits places) is = scalar_read (v.Dec digits places) is
value_read (v.Text text) is = scalar_read (v.Text text) is
value_read (v.Bin octets) is = scalar_read (v.Bin octets) is
value_read (v.Enum text) is = scalar_read (v.Enum text) is
value_read (v.List' n items) is = list_read (v.List' n items) is

abbrev held_octets : ℕ → List ℕ → Field
held_octets number octets = record { number = number; body = octets_body octets }

json_held : (message : List ℕ) (fields : List Field) (json : List ℕ) → occurrences message json_val fields ≡ json ∷ [] → given_in message fields ≡ Some (given.Json json)
unfolding given_in
json_held message fields json e = rw e refl

ietf_held : (message : List ℕ) (fields : List Field) (json : List ℕ) → occurrences message json_val fields ≡ [] → occurrences message json_ietf_val fields ≡ json ∷ []
    → given_in message fields ≡ Some (given.Json json)
unfolding given_in
ietf_held message fields json none e = rw (none, e) refl

json_val_read : (json : List ℕ) → length json < 2 ^ 64 → typed_of (octets_field json_val json) ≡ Some (given.Json json)
unfolding typed_of typed_fields
json_val_read json short =
    let message : List ℕ = octets_field json_val json in
    let field : Field = held_octets json_val json in
    let held : given_in message (field ∷ []) ≡ Some (given.Json json) = json_held message (field ∷ []) json (occurrences-written json_val json) in
    rw (is_read message (field ∷ []) (IsMessage-octets json_val json (lit≤ tt) (lit≤ tt) short), held) refl

json_ietf_read : (json : List ℕ) → length json < 2 ^ 64 → typed_of (octets_field json_ietf_val json) ≡ Some (given.Json json)
unfolding typed_of typed_fields
json_ietf_read json short =
    let message : List ℕ = octets_field json_ietf_val json in
    let field : Field = held_octets json_ietf_val json in
    let held : given_in message (field ∷ []) ≡ Some (given.Json json) = ietf_held message (field ∷ []) json refl (occurrences-written json_ietf_val json) in
    rw (is_read message (field ∷ []) (IsMessage-octets json_ietf_val json (lit≤ tt) (lit≤ tt) short), held) refl

json_read : (encoding : Encoding) (json : List ℕ) → length json < 2 ^ 64 → typed_of (json_message encoding json) ≡ Some (given.Json json)
json_read encodings.Json json short = json_val_read json short
json_read encodings.JsonIetf json short = json_ietf_read json short
json_read encodings.Proto json short = json_ietf_read json short
json_read encodings.Other json short = json_ietf_read json short

row_read : (schema : List SchemaNode) (encoding : Encoding) (row : Row) → IsWritableIn encoding row.value → length (row_value schema encoding row) < 2 ^ 64
    → typed_of (row_value schema encoding row) ≡ Some (read_row schema encoding row)
row_read schema encodings.Json row is short =
    let long : length (row_text schema row) < length (octets_field json_val (row_text schema row)) = octets_long json_val (row_text schema row) in
    json_val_read (row_text schema row) (omega (arith, long, short))
row_read schema encodings.JsonIetf row is short =
    let long : length (row_text schema row) < length (octets_field json_ietf_val (row_text schema row)) = octets_long json_ietf_val (row_text schema row) in
    json_ietf_read (row_text schema row) (omega (arith, long, short))
row_read schema encodings.Proto row is short = value_read row.value is
row_read schema encodings.Other row is short = value_read row.value is

-- ---- paths

empty_text : is_utf8 [] ≡ true
unfolding is_utf8 chars lib.Utf8.encode
empty_text = refl

abbrev target_path : List ℕ → GnmiPath
target_path target = record { path = []; origin = []; target = target; old_element = false }

target_read : (target : List ℕ) → is_utf8 target ≡ true → length target < 2 ^ 64 → path_of (target_message target) ≡ Some (target_path target)
unfolding path_of
target_read target is short =
    let there = text_there path_target target (lit≤ tt) (lit≤ tt) short in
    let elems : messages_in elem_of (target_message target) path_elem there.fields ≡ Some [] = ap (each elem_of) (there.holds path_elem) in
    rw (
      is_read (target_message target) there.fields there.is,
      text_read (target_message target) path_origin there.fields [] (there.holds path_origin) empty_text,
      elems,
      text_read (target_message target) path_target there.fields target (there.holds path_target) is,
      texts_absent (target_message target) path_element there.fields (there.holds path_element),
      there.holds path_element,
    ) refl

plain_read : (path : List Elem) → IsTextPath path → length (path_message path) < 2 ^ 64 → path_of (path_message path) ≡ Some (plain_path path)
plain_read path is short = path_read path (record { elems = is; short = short })

paths_read : (paths : List (List Elem)) → AllByRecursion IsTextPath paths → AllByRecursion (λ path. length (path_message path) < 2 ^ 64) paths
    → each path_of (map path_message paths) ≡ Some (map plain_path paths)
paths_read [] all short = refl
paths_read (path ∷ paths) all short = rw (plain_read path all.0 short.0, paths_read paths all.1 short.1) refl

-- ---- updates

update_read : (path : List Elem) (typed : List ℕ) (value : Given) → IsTextPath path → typed_of typed ≡ Some value → length (update_message path typed) < 2 ^ 64
    → update_of (update_message path typed) ≡ Some (read_update path value)
unfolding update_of
update_read path typed value is e short =
    let a : List ℕ = octets_field update_path (path_message path) in
    let b : List ℕ = octets_field update_val typed in
    let sum : length (a ++ b) ≡ length a + length b = length-append a b in
    let long_a : length (path_message path) < length a = octets_long update_path (path_message path) in
    let long_b : length typed < length b = octets_long update_val typed in
    let short_a : length (path_message path) < 2 ^ 64 = omega (arith, sum, long_a, short) in
    let short_b : length typed < 2 ^ 64 = omega (arith, sum, long_b, short) in
    let there = joined (octets_say update_path (path_message path) (lit≤ tt) (lit≤ tt) short_a) (octets_say update_val typed (lit≤ tt) (lit≤ tt) short_b) in
    rw (
      there.is,
      there.pieces_are update_path,
      append-nil (path_message path),
      plain_read path is short_a,
      there.pieces_are update_val,
      append-nil typed,
      e,
      there.numbers_are 4,
    ) refl

rows_read : (schema : List SchemaNode) (encoding : Encoding) (rows : List Row) → AllByRecursion (IsWritableRow encoding) rows
    → AllByRecursion (λ row. length (row_update schema encoding row) < 2 ^ 64) rows
    → each update_of (map (row_update schema encoding) rows) ≡ Some (map (λ (row : Row). read_update row.path (read_row schema encoding row)) rows)
rows_read schema encoding [] all short = refl
rows_read schema encoding (row ∷ rows) all short =
    let typed : List ℕ = row_value schema encoding row in
    let sum : length (update_message row.path typed) ≡ length (octets_field update_path (path_message row.path)) + length (octets_field update_val typed) =
    length-append (octets_field update_path (path_message row.path)) (octets_field update_val typed) in
    let long : length typed < length (octets_field update_val typed) = octets_long update_val typed in
    let first : update_of (update_message row.path typed) ≡ Some (read_update row.path (read_row schema encoding row)) =
    update_read row.path typed (read_row schema encoding row) all.0.path (row_read schema encoding row all.0.value (omega (arith, sum, long, short.0))) short.0 in
    rw (first, rows_read schema encoding rows all.1 short.1) refl

-- ---- notifications

abbrev prefix_pieces : List ℕ → List (List ℕ)
prefix_pieces [] = []
prefix_pieces (octet ∷ target) = target_message (octet ∷ target) ∷ []

prefix_says : (target : List ℕ) → length (prefix_field target) < 2 ^ 64 → Says (prefix_field target) (λ n. []) (only note_prefix (prefix_pieces target))
prefix_says [] short = messages_say target_message note_prefix [] (lit≤ tt) (lit≤ tt) tt
prefix_says (octet ∷ target) short =
    let long : length (target_message (octet ∷ target)) < length (octets_field note_prefix (target_message (octet ∷ target))) = octets_long note_prefix (target_message (octet ∷ target)) in
    octets_say note_prefix (target_message (octet ∷ target)) (lit≤ tt) (lit≤ tt) (omega (arith, long, short))

prefix_read : (target : List ℕ) → is_utf8 target ≡ true → length (prefix_field target) < 2 ^ 64 → prefix_given (joined_pieces (prefix_pieces target)) ≡ Some (read_prefix target)
prefix_read [] is short = refl
prefix_read (octet ∷ target) is short =
    let m : List ℕ = target_message (octet ∷ target) in
    let long : length m < length (octets_field note_prefix m) = octets_long note_prefix m in
    let own : length (octet ∷ target) ≤ length m = text_short path_target (octet ∷ target) in
    rw (append-nil m, target_read (octet ∷ target) is (omega (arith, long, own, short))) refl

note_read : (stamp : ℕ) (target updates : List ℕ) (deletes : List (List Elem)) (pieces : List (List ℕ)) (said : List UpdateRead)
    → stamp < 2 ^ 64 → is_utf8 target ≡ true → AllByRecursion IsTextPath deletes
    → length (note_message stamp target updates deletes) < 2 ^ 64
    → (length updates < 2 ^ 64 → Says updates (λ n. []) (only note_update pieces)) → each update_of pieces ≡ Some said
    → note_of (note_message stamp target updates deletes)
    ≡ Some (record { stamp = cast_signed w64 stamp; prefix = read_prefix target; updates = said; deletes = map plain_path deletes; atomic = false })
unfolding note_of
note_read stamp target updates deletes pieces said fits is are short says e =
    let s : List ℕ = number_field note_timestamp stamp in
    let p : List ℕ = prefix_field target in
    let d : List ℕ = message_fields path_message note_delete deletes in
    let all : length (s ++ p ++ updates ++ d) ≡ length (s ++ p ++ updates) + length d = length-append (s ++ p ++ updates) d in
    let three : length (s ++ p ++ updates) ≡ length (s ++ p) + length updates = length-append (s ++ p) updates in
    let two : length (s ++ p) ≡ length s + length p = length-append s p in
    let short_p : length p < 2 ^ 64 = omega (arith, all, three, two, short) in
    let short_u : length updates < 2 ^ 64 = omega (arith, all, three, short) in
    let short_d : length d < 2 ^ 64 = omega (arith, all, short) in
    let each_short = items_short path_message note_delete deletes short_d in
    let paths : List (List ℕ) = map path_message deletes in
    let there = joined (joined (joined (number_says note_timestamp stamp (lit≤ tt) (lit≤ tt) fits) (prefix_says target short_p)) (says short_u))
    (messages_say path_message note_delete deletes (lit≤ tt) (lit≤ tt) each_short) in
    let prefix_is : pieces_under note_prefix (s ++ p ++ updates ++ d) ≡ prefix_pieces target =
    there.pieces_are note_prefix ∙ append-nil (prefix_pieces target ++ []) ∙ append-nil (prefix_pieces target) in
    let updates_are : pieces_under note_update (s ++ p ++ updates ++ d) ≡ pieces =
    there.pieces_are note_update ∙ append-nil pieces in
    let deletes_are : pieces_under note_delete (s ++ p ++ updates ++ d) ≡ paths = there.pieces_are note_delete in
    let stamp_is : varints note_timestamp (all_fields (s ++ p ++ updates ++ d)) ≡ number_list stamp =
    there.numbers_are note_timestamp ∙ append-nil (number_list stamp ++ [] ++ []) ∙ append-nil (number_list stamp ++ []) ∙ append-nil (number_list stamp) in
    rw (
      there.is,
      prefix_is,
      prefix_read target is short_p,
      updates_are,
      e,
      deletes_are,
      paths_read deletes are each_short,
      stamp_is,
      last_number stamp,
      there.numbers_are note_atomic,
    ) refl

pub rows_note_read : (schema : List SchemaNode) (encoding : Encoding) (target : List ℕ) (note : Note) → IsWritableNote schema encoding target note
    → note_of (note_octets schema encoding target note) ≡ Some (read_note schema encoding target note)
rows_note_read schema encoding target note is =
    let f : Row → List ℕ = row_update schema encoding in
    let updates : List ℕ = message_fields f note_update note.updates in
    let s : List ℕ = number_field note_timestamp note.stamp in
    let p : List ℕ = prefix_field target in
    let d : List ℕ = message_fields path_message note_delete note.deletes in
    let all : length (s ++ p ++ updates ++ d) ≡ length (s ++ p ++ updates) + length d = length-append (s ++ p ++ updates) d in
    let three : length (s ++ p ++ updates) ≡ length (s ++ p) + length updates = length-append (s ++ p) updates in
    let short_u : length updates < 2 ^ 64 = omega (arith, all, three, is.short) in
    let each_short = items_short f note_update note.updates short_u in
    note_read note.stamp target updates note.deletes (map f note.updates) _ is.fits is.is_text is.paths is.short
    (λ short. messages_say f note_update note.updates (lit≤ tt) (lit≤ tt) each_short)
    (rows_read schema encoding note.updates is.rows each_short)

pub whole_note_read : (stamp : ℕ) (path : List Elem) (json target : List ℕ) (encoding : Encoding) → IsWritableWhole stamp path json target encoding
    → note_of (whole_octets stamp path json target encoding) ≡ Some (read_whole stamp path json target)
whole_note_read stamp path json target encoding is =
    let typed : List ℕ = json_message encoding json in
    let update : List ℕ = update_message path typed in
    let updates : List ℕ = octets_field note_update update in
    let s : List ℕ = number_field note_timestamp stamp in
    let p : List ℕ = prefix_field target in
    let all : length (s ++ p ++ updates ++ []) ≡ length (s ++ p ++ updates) + 0 = length-append (s ++ p ++ updates) [] in
    let three : length (s ++ p ++ updates) ≡ length (s ++ p) + length updates = length-append (s ++ p) updates in
    let long : length update < length updates = octets_long note_update update in
    let short_update : length update < 2 ^ 64 = omega (arith, all, three, long, is.short) in
    let sum : length update ≡ length (octets_field update_path (path_message path)) + length (octets_field update_val typed) =
    length-append (octets_field update_path (path_message path)) (octets_field update_val typed) in
    let long_typed : length typed < length (octets_field update_val typed) = octets_long update_val typed in
    let long_json : length json < length typed = octets_long (json_number encoding) json in
    let read : update_of update ≡ Some (read_update path (given.Json json)) =
    update_read path typed (given.Json json) is.is_path (json_read encoding json (omega (arith, sum, long_typed, long_json, short_update))) short_update in
    note_read stamp target updates [] (update ∷ []) (read_update path (given.Json json) ∷ []) is.fits is.is_text tt is.short
    (λ short. octets_say note_update update (lit≤ tt) (lit≤ tt) short_update)
    (rw read refl)
