-- What is read in one step is what the message tells.
use Rattle.std.proofs.Common.{◌≡◌, ℕ, Bool, true, false, cond, List, [], ◌∷◌, ◌++◌, Option, Some, None, refl, sym, ap, ◌∙◌}
use Rattle.std.specs.Prelude.{ℤ, pos, negsuc, map, not, ◌==◌, ◌%◌, ◌^◌}
use Rattle.std.specs.Option.{option_map}
use Rattle.std.specs.Int.{w64, cast_signed}
use Rattle.base_lists.specs.Options.{◌>>=◌}
use Rattle.base_kinds.specs.declared.path.Elem.{Elem}
use Rattle.base_kinds.specs.declared.operation.Row.{Row}
use Rattle.base_kinds.specs.declared.request.Given.{Given}
use Rattle.base_kinds.specs.declared.request.Note.{Note}
use Rattle.gnmi_kinds.specs.declared.path.GnmiPath.{GnmiPath}
use Rattle.pb_message.specs.Fields.{is_message}
use Rattle.pb_message.specs.Values.{pieces_under, message_under}
use Rattle.gnmi_data_msg.specs.Numbers.{update_path, update_val, note_timestamp, note_prefix, note_update, note_delete}
use Rattle.gnmi_data_msg.specs.Parts.{each}
use Rattle.gnmi_data_msg.specs.Paths.{path_of}
use Rattle.gnmi_data_msg.specs.TypedValues.{typed_of}
use Rattle.gnmi_data_msg.specs.Singles.{single_message, count_under, enum_under}
use Rattle.gnmi_set_msg.specs.Numbers.{reply_prefix, reply_response, reply_timestamp, result_path, result_op}
use Rattle.gnmi_set_msg.specs.ReadBack.{ResultRead, ReplyRead, result_in, reply_in}
use Rattle.gnmi_set_msg.specs.ReadBack as set
use Rattle.gnmi_get_msg.specs.Numbers.{reply_notification}
use Rattle.gnmi_client_msg.specs.declared.replies.UpdateResult.{UpdateResult}
use Rattle.gnmi_note_msg.specs.Reading.{UpdateRead, NoteRead, prefix_given, update_of, note_of}
use Rattle.gnmi_client_msg.specs.Notifications.{not_below_0, leaf_value, row_in, path_in, prefix_in, row_behind, path_behind, note_in, told_of}
use Rattle.gnmi_client_msg.specs.Replies.{stamp_in, set_stamp_of, notes_of}
use Rattle.gnmi_client_msg.specs.inner.Steps.{stamp_of, prefix_of, elems_of, row_of, note_told, notes_told, result_of, stamp_told}
use Rattle.gnmi_client_msg.proofs.Each.{each_same, each_then, each_mapped}

-- ---- updates

abbrev update_with : ℕ → GnmiPath → Given → UpdateRead
update_with duplicates path value = record { path = path; value = value; duplicates = duplicates }

row_is : (octets : List ℕ) → row_of octets ≡ (update_of octets >>= row_in)
unfolding row_of update_of
row_is octets = by (is_message octets) (path_of (single_message update_path octets)) (typed_of (single_message update_val octets))
  where
    by : (b : Bool) (path : Option GnmiPath) (value : Option Given)
        → cond b (path >>= (λ (p : GnmiPath). value >>= (λ (g : Given). leaf_value g >>= (λ v. Some (record { path = p.path; value = v }))))) None
        ≡ (cond b (path >>= (λ (p : GnmiPath). value >>= (λ (g : Given). Some (update_with (count_under 4 octets % 2 ^ 32) p g)))) None >>= row_in)
    by false path value = refl
    by true None value = refl
    by true (Some p) None = refl
    by true (Some p) (Some g) = refl

rows_are : (pieces : List (List ℕ)) → each row_of pieces ≡ (each update_of pieces >>= each row_in)
rows_are pieces = each_same row_of (λ octets. update_of octets >>= row_in) row_is pieces ∙ each_then update_of row_in pieces

-- ---- notifications

abbrev note_with : List Elem → List (List Elem) → List Row → ℕ → Note
note_with prefix deletes rows stamp = record { stamp = stamp; deletes = map (path_behind prefix) deletes; updates = map (row_behind prefix) rows }

abbrev read_with : ℤ → Bool → Option GnmiPath → List UpdateRead → List GnmiPath → NoteRead
read_with stamp atomic prefix updates deletes = record { stamp = stamp; prefix = prefix; updates = updates; deletes = deletes; atomic = atomic }

note_is : (octets : List ℕ) → note_told octets ≡ told_of octets
unfolding note_told note_of
note_is octets =
    rw (rows_are (pieces_under note_update octets), each_mapped path_of path_in (pieces_under note_delete octets))
    (by (is_message octets) (prefix_given (message_under note_prefix octets)) (each update_of (pieces_under note_update octets)) (each path_of (pieces_under note_delete octets)))
  where
    z : ℤ
    z = cast_signed w64 (count_under note_timestamp octets)

    atomic : Bool
    atomic = not (count_under 6 octets == 0)

    nothing : {A : Type 0} (o : Option A) → ◌≡◌ {A = Option Note} (o >>= (λ a. None)) None
    nothing None = refl
    nothing (Some a) = refl

    by : (b : Bool) (prefix : Option (Option GnmiPath)) (updates : Option (List UpdateRead)) (deletes : Option (List GnmiPath))
        → cond b (not_below_0 z >>= (λ (s : ℕ). option_map prefix_in prefix >>= (λ (p : List Elem). (updates >>= each row_in) >>= (λ (rs : List Row). option_map (map path_in) deletes >>= (λ (ds : List (List Elem)). Some (note_with p ds rs s)))))) None
        ≡ (cond b (prefix >>= (λ (p : Option GnmiPath). updates >>= (λ (us : List UpdateRead). deletes >>= (λ (ds : List GnmiPath). Some (read_with z atomic p us ds))))) None >>= note_in)
    by false prefix updates deletes = refl
    by true None updates deletes = nothing (not_below_0 z)
    by true (Some p) None deletes = nothing (not_below_0 z)
    by true (Some p) (Some us) None = two (not_below_0 z) (each row_in us)
      where
        two : (s : Option ℕ) (rs : Option (List Row)) → ◌≡◌ {A = Option Note} (s >>= (λ n. rs >>= (λ r. None))) None
        two None rs = refl
        two (Some n) None = refl
        two (Some n) (Some r) = refl
    by true (Some p) (Some us) (Some ds) = refl

pub notes_is : (octets : List ℕ) → notes_told octets ≡ notes_of octets
unfolding notes_told
notes_is octets = rw (each_same note_told told_of note_is (pieces_under reply_notification octets)) (by (is_message octets))
  where
    by : (b : Bool) → cond b (each told_of (pieces_under reply_notification octets)) None
        ≡ (cond b (Some (pieces_under reply_notification octets)) None >>= each told_of)
    by true = refl
    by false = refl

-- ---- the reply to a Set

abbrev result_with : ResultRead → UpdateResult
result_with result = record { path = result.path }

result_is : (octets : List ℕ) → result_of octets ≡ option_map result_with (result_in octets)
unfolding result_of result_in
result_is octets = by (is_message octets) (path_of (single_message result_path octets))
  where
    read : GnmiPath → ResultRead
    read path = record { path = path; op = enum_under result_op octets }

    by : (b : Bool) (path : Option GnmiPath)
        → cond b (path >>= (λ (p : GnmiPath). Some (result_with (read p)))) None
        ≡ option_map result_with (cond b (path >>= (λ (p : GnmiPath). Some (read p))) None)
    by false path = refl
    by true None = refl
    by true (Some p) = refl

results_are : (pieces : List (List ℕ)) → each result_of pieces ≡ option_map (map result_with) (each result_in pieces)
results_are pieces = each_same result_of (λ octets. option_map result_with (result_in octets)) result_is pieces ∙ each_mapped result_in result_with pieces

same_prefix : (message : Option (List ℕ)) → set.prefix_in message ≡ prefix_given message
same_prefix None = refl
same_prefix (Some octets) = refl

pub stamp_is : (octets : List ℕ) → stamp_told octets ≡ set_stamp_of octets
unfolding stamp_told reply_in
stamp_is octets =
    rw (results_are (pieces_under reply_response octets), same_prefix (message_under reply_prefix octets))
    (by (is_message octets) (prefix_given (message_under reply_prefix octets)) (each result_in (pieces_under reply_response octets)))
  where
    z : ℤ
    z = cast_signed w64 (count_under reply_timestamp octets)

    reply : Option GnmiPath → List ResultRead → ReplyRead
    reply prefix results = record { prefix = prefix; results = results; stamp = z }

    by : (b : Bool) (prefix : Option (Option GnmiPath)) (results : Option (List ResultRead))
        → cond b (option_map prefix_in prefix >>= (λ (p : List Elem). option_map (map result_with) results >>= (λ (rs : List UpdateResult). not_below_0 z))) None
        ≡ (cond b (prefix >>= (λ (p : Option GnmiPath). results >>= (λ (rs : List ResultRead). Some (reply p rs)))) None >>= stamp_in)
    by false prefix results = refl
    by true None results = refl
    by true (Some p) None = refl
    by true (Some p) (Some rs) = refl
