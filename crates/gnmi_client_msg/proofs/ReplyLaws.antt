-- What a client reads of a response that a target writes.
use Rattle.std.proofs.Common.{◌≡◌, ℕ, ◌^◌, ◌<◌, List, [], ◌∷◌, ◌++◌, length, Option, Some, None, refl, ap, ◌∙◌, arith}
use Rattle.std.specs.Prelude.{pos, map}
use Rattle.std.specs.Int.{w64, cast_signed}
use Rattle.std.specs.List.{AllByRecursion}
use Rattle.std.proofs.lemmas.Int.{to_z-of_z}
use Rattle.base_lists.specs.Options.{◌>>=◌}
use Rattle.base_kinds.specs.declared.path.Elem.{Elem}
use Rattle.base_kinds.specs.declared.operation.Row.{Row}
use Rattle.base_kinds.specs.declared.request.Given.TheVariants as given
use Rattle.base_kinds.specs.declared.request.Note.{Note}
use Rattle.base_kinds.specs.Schema.{SchemaNode}
use Rattle.gnmi_kinds.specs.declared.ask.Encoding.TheVariants as encodings
use Rattle.gnmi_data_msg.specs.Parts.{each}
use Rattle.gnmi_note_msg.specs.Notifications.{note_octets}
use Rattle.gnmi_note_msg.specs.Reading.{UpdateRead}
use Rattle.gnmi_note_msg.specs.ReadBack.{plain_path, read_prefix, read_value, read_update, read_note}
use Rattle.gnmi_note_msg.proofs.ReadBack.{rows_note_read}
use Rattle.gnmi_set_msg.specs.ReadBack.{written_reply}
use Rattle.gnmi_set_msg.specs.Replies.{reply_of}
use Rattle.gnmi_set_msg.proofs.ReadBack.{replied}
use Rattle.gnmi_get_msg.specs.ReadBack.{AreShort}
use Rattle.gnmi_get_msg.specs.Replies.{get_reply}
use Rattle.gnmi_get_msg.proofs.ReadBack.{notes_found}
use Rattle.gnmi_client_msg.specs.Notifications.{not_below_0, row_in, path_in, prefix_in, row_behind, path_behind, note_in, told_of}
use Rattle.gnmi_client_msg.specs.Replies.{set_stamp_of, stamp_in, notes_of}
use Rattle.gnmi_client_msg.specs.ReadBack.{IsWritableReply, read_row, told_note}

stamp_back : (n : ℕ) → n < 2 ^ 63 → cast_signed w64 n ≡ pos n
stamp_back n few = to_z-of_z w64 (pos n) (record { sfits = few })

pub set_stamp_read : (octets reply : List ℕ) (stamp : ℕ) → stamp < 2 ^ 63 → reply_of octets stamp ≡ Some reply → length reply < 2 ^ 64 → set_stamp_of reply ≡ Some stamp
set_stamp_read octets reply stamp fits e short =
    let r = replied octets reply stamp (omega (arith, fits)) e short in
    ap (λ found. found >>= stamp_in) r.2 ∙ ap not_below_0 (stamp_back stamp fits)

rows_told : (rows : List Row) → each row_in (map (λ (row : Row). read_update row.path (given.Scalar (read_value row.value))) rows) ≡ Some (map read_row rows)
rows_told [] = refl
rows_told (row ∷ rows) = rw (rows_told rows) refl

no_prefix : (target : List ℕ) → prefix_in (read_prefix target) ≡ []
no_prefix [] = refl
no_prefix (octet ∷ target) = refl

same_rows : (rows : List Row) → map (row_behind []) (map read_row rows) ≡ map read_row rows
same_rows [] = refl
same_rows (row ∷ rows) = ap (λ (others : List Row). read_row row ∷ others) (same_rows rows)

same_paths : (paths : List (List Elem)) → map (path_behind []) (map path_in (map plain_path paths)) ≡ paths
same_paths [] = refl
same_paths (path ∷ paths) = ap (λ (others : List (List Elem)). path ∷ others) (same_paths paths)

note_told : (schema : List SchemaNode) (target : List ℕ) (note : Note) → IsWritableReply schema target note → told_of (note_octets schema encodings.Proto target note) ≡ Some (told_note note)
note_told schema target note is =
    ap (λ read. read >>= note_in) (rows_note_read schema encodings.Proto target note is.written)
    ∙ rw (stamp_back note.stamp is.stamp, rows_told note.updates, no_prefix target, same_rows note.updates, same_paths note.deletes) refl

notes_told : (schema : List SchemaNode) (target : List ℕ) (notes : List Note) → AllByRecursion (IsWritableReply schema target) notes
    → each told_of (map (note_octets schema encodings.Proto target) notes) ≡ Some (map told_note notes)
notes_told schema target [] all = refl
notes_told schema target (note ∷ notes) all = rw (note_told schema target note all.0, notes_told schema target notes all.1) refl

are_short : (schema : List SchemaNode) (target : List ℕ) (notes : List Note) → AllByRecursion (IsWritableReply schema target) notes → AreShort (map (note_octets schema encodings.Proto target) notes)
are_short schema target [] all = tt
are_short schema target (note ∷ notes) all = (all.0.written.short, are_short schema target notes all.1)

pub get_reply_read : (schema : List SchemaNode) (target : List ℕ) (notes : List Note) → AllByRecursion (IsWritableReply schema target) notes
    → notes_of (get_reply (map (note_octets schema encodings.Proto target) notes)) ≡ Some (map told_note notes)
get_reply_read schema target notes all =
    ap (λ found. found >>= each told_of) (notes_found (map (note_octets schema encodings.Proto target) notes) (are_short schema target notes all))
    ∙ notes_told schema target notes all
