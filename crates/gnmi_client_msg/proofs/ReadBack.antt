-- What a target reads of a request that is written.
use Rattle.std.proofs.Common.{◌≡◌, ℕ, zero, suc, ◌+◌, ◌%◌, ◌^◌, ◌<◌, ◌≤◌, Bool, true, false, cond, eqb, List, [], ◌∷◌, ◌++◌, length, Option, Some, None, refl, sym, ap, ◌∙◌, subst, arith, append-nil, lit≤}
use Rattle.std.specs.Prelude.{map, filter, unwrap_or, nat_lt, ◌||◌}
use Rattle.std.specs.List.{AllByRecursion, list_any, last_or}
use Rattle.std.specs.Str.{is_utf8, chars}
use Rattle.std.proofs.lemmas.Bool.{le-ltb}
use Rattle.std.proofs.lemmas.List.{length-append}
use Rattle.base_lists.specs.Options.{◌>>=◌}
use Rattle.base_kinds.specs.declared.path.Elem.{Elem}
use Rattle.base_kinds.specs.declared.request.Action.{Action}
use Rattle.base_kinds.specs.declared.request.Action.TheVariants as actions
use Rattle.base_kinds.specs.declared.request.Change.{Change}
use Rattle.base_kinds.specs.declared.request.Given.{Given}
use Rattle.base_kinds.specs.declared.request.Given.TheVariants as given
use Rattle.base_kinds.specs.declared.request.UnresolvedSet.{UnresolvedSet}
use Rattle.base_kinds.specs.declared.value.Value.{Value}
use Rattle.base_kinds.specs.declared.value.Value as v
use Rattle.gnmi_kinds.specs.declared.path.GnmiPath.{GnmiPath}
use Rattle.pb_wire.specs.declared.field.Field.{Field}
use Rattle.pb_wire.specs.Message.{IsMessage}
use Rattle.pb_wire.specs.Varint.{shortest}
use Rattle.pb_wire.specs.Writing.{octets_field, octets_body, shifted}
use Rattle.pb_wire.specs.Values.{occurrences, is_member}
use Rattle.pb_wire.proofs.LawLemmas.{IsMessage-append}
use Rattle.pb_wire.proofs.ValueLaws.{occurrences-written}
use Rattle.pb_wire.proofs.WritingLemmas.{IsMessage-octets}
use Rattle.pb_message.specs.Fields.{all_fields, is_message}
use Rattle.pb_message.specs.Values.{pieces_under, joined_pieces, has_number_above, message_members}
use Rattle.pb_message.proofs.FieldSteps.{read_is_message}
use Rattle.pb_message.proofs.Repeated.{empty_fields, empty_passes}
use Rattle.pb_message.proofs.Written.{fields_are, octets_fields, octets_pass, member_written}
use Rattle.gnmi_data_msg.specs.Numbers.{path_element, path_origin, path_elem, path_target, json_val, json_ietf_val, update_path, update_val}
use Rattle.gnmi_data_msg.specs.Parts.{each, fields_in, messages_in}
use Rattle.gnmi_data_msg.specs.Paths.{elem_of, path_of}
use Rattle.gnmi_data_msg.specs.TypedValues.{members, typed_fields, scalar_in, number_in, given_in, typed_of}
use Rattle.gnmi_data_msg.specs.ReadBack.{IsTextElem}
use Rattle.gnmi_data_msg.specs.Writing.{text_field, message_fields, number_field, elem_message, path_message, value_message}
use Rattle.gnmi_data_msg.proofs.FieldsIn.{is_read}
use Rattle.gnmi_data_msg.proofs.ReadBack.{appended, text_there, text_pieces, text_read, text_short, texts_absent, messages_there, items_short, path_read}
use Rattle.gnmi_data_msg.proofs.ValuesBack.{scalar_read, list_read}
use Rattle.gnmi_ext_msg.specs.declared.extension.Extension.{Extension}
use Rattle.gnmi_ext_msg.specs.declared.extension.Extension.TheVariants as extensions
use Rattle.gnmi_ext_msg.specs.Extensions.{extension_of}
use Rattle.gnmi_ext_msg.specs.Numbers.{extension_commit, extension_members}
use Rattle.gnmi_ext_msg.specs.ReadBack as ext
use Rattle.gnmi_ext_msg.specs.Writing.{commit_message}
use Rattle.gnmi_ext_msg.proofs.ReadBack.{commit_read}
use Rattle.gnmi_data_msg.specs.Encodings.{encoding_proto}
use Rattle.gnmi_data_msg.specs.Models.{model_of}
use Rattle.gnmi_data_msg.specs.Profile.{is_foreign, path_in}
use Rattle.gnmi_ext_msg.specs.Extensions.{is_other}
use Rattle.gnmi_data_msg.specs.Singles.{single_message}
use Rattle.gnmi_set_msg.specs.declared.request.Update.{Update}
use Rattle.gnmi_set_msg.specs.declared.request.SetRequest.{SetRequest}
use Rattle.gnmi_set_msg.specs.Numbers.{set_prefix, set_delete, set_replace, set_update, set_extension}
use Rattle.gnmi_set_msg.specs.Requests.{update_of, request_of}
use Rattle.gnmi_set_msg.specs.Asks.{action_of, change_of, ask_of, set_of}
use Rattle.gnmi_get_msg.specs.Numbers.{get_prefix, get_path, get_type, get_encoding, get_use_models, get_extension}
use Rattle.gnmi_get_msg.specs.Asks.{get_of}
use Rattle.gnmi_note_msg.specs.ReadBack.{IsTextPath, IsWritableValue, read_value, plain_path}
use Rattle.gnmi_client_msg.specs.Requests.{given_field, change_message, prefix_message, commit_field, set_message, get_message}
use Rattle.gnmi_client_msg.specs.ReadBack.{IsWritableGiven, IsWritableChange, IsWritableAction, IsWritableSet, read_given, read_change, read_ask, get_asked}
use Rattle.gnmi_note_msg.proofs.Says.{Says, no_numbers, no_pieces, only, nothing, joined, said_as, octets_say, messages_say, number_says, octets_long}

-- ---- fields

pub text_says : (number : ℕ) (text : List ℕ) → 1 ≤ number → number ≤ 15 → length text < 2 ^ 64 → Says (text_field number text) no_numbers (only number (text_pieces text))
text_says number [] low high short = messages_say {A = List ℕ} (λ text. text) number [] low high tt
text_says number (octet ∷ octets) low high short = octets_say number (octet ∷ octets) low high short

pub fields_are_read : {octets : List ℕ} {numbers : ℕ → List ℕ} {pieces : ℕ → List (List ℕ)} → Says octets numbers pieces → fields_in octets ≡ Some (all_fields octets)
unfolding fields_in
fields_are_read says = rw says.is refl

-- a single message is read as it is written, also where it isn't written since it has no octets
single_read : (message : List ℕ) → unwrap_or (joined_pieces (text_pieces message)) [] ≡ message
single_read [] = refl
single_read (octet ∷ octets) = append-nil (octet ∷ octets)

-- ---- numbers of fields

abbrev IsAbove : ℕ → Field → Bool
IsAbove most field = nat_lt most field.number

any_both : (most : ℕ) (xs ys : List Field) → list_any (IsAbove most) xs ≡ false → list_any (IsAbove most) ys ≡ false → list_any (IsAbove most) (xs ++ ys) ≡ false
any_both most [] ys x y = y
any_both most (field ∷ xs) ys x y = by (IsAbove most field) (λ none. any_both most xs ys none y) x
  where
    by : (b : Bool) → (list_any (IsAbove most) xs ≡ false → list_any (IsAbove most) (xs ++ ys) ≡ false) → (b || list_any (IsAbove most) xs) ≡ false → (b || list_any (IsAbove most) (xs ++ ys)) ≡ false
    by true others e = e
    by false others e = others e

any_shifted : (most by : ℕ) (xs : List Field) → list_any (IsAbove most) (shifted by xs) ≡ list_any (IsAbove most) xs
any_shifted most by [] = refl
any_shifted most by (field ∷ xs) = ap (λ (b : Bool). IsAbove most field || b) (any_shifted most by xs)

above_both : (most : ℕ) (a b : List ℕ) → is_message a ≡ true → is_message b ≡ true → has_number_above most a ≡ false → has_number_above most b ≡ false → has_number_above most (a ++ b) ≡ false
above_both most a b is_a is_b x y =
    ap (list_any (IsAbove most)) (fields_are (a ++ b) _ (IsMessage-append a b (all_fields a) (all_fields b) (read_is_message a is_a) (read_is_message b is_b)))
    ∙ any_both most (all_fields a) (shifted (length a) (all_fields b)) x (any_shifted most (length a) (all_fields b) ∙ y)

above_octets : (most number : ℕ) (octets : List ℕ) → 1 ≤ number → number ≤ 15 → number ≤ most → length octets < 2 ^ 64 → has_number_above most (octets_field number octets) ≡ false
above_octets most number octets low high le short =
    ap (list_any (IsAbove most)) (octets_fields number octets low high short) ∙ ap (λ (b : Bool). b || false) (le-ltb most number le)

above_nothing : (most : ℕ) → has_number_above most [] ≡ false
above_nothing most = ap (list_any (IsAbove most)) empty_fields

-- octets that hold these pieces, under numbers up to that of extensions
record Part (octets : List ℕ) (pieces : ℕ → List (List ℕ)) : Type 0 where
  says : Says octets no_numbers pieces
  low : has_number_above set_extension octets ≡ false

both : {a b : List ℕ} {p q : ℕ → List (List ℕ)} → Part a p → Part b q → Part (a ++ b) (λ k. p k ++ q k)
both {a} {b} x y = record { says = joined x.says y.says; low = above_both set_extension a b x.says.is y.says.is x.low y.low }

text_part : (number : ℕ) (text : List ℕ) → 1 ≤ number → number ≤ 5 → length text < 2 ^ 64 → Part (text_field number text) (only number (text_pieces text))
text_part number text low high short = record { says = text_says number text low (omega (arith, high)) short; low = above text short }
  where
    above : (text : List ℕ) → length text < 2 ^ 64 → has_number_above set_extension (text_field number text) ≡ false
    above [] short = above_nothing set_extension
    above (octet ∷ octets) short = above_octets set_extension number (octet ∷ octets) low (omega (arith, high)) high short

messages_part : {A : Type 0} (f : A → List ℕ) (number : ℕ) (items : List A) → 1 ≤ number → number ≤ 5 → AllByRecursion (λ item. length (f item) < 2 ^ 64) items → Part (message_fields f number items) (only number (map f items))
messages_part {A} f number items low high short = record { says = messages_say f number items low (omega (arith, high)) short; low = above items short }
  where
    above : (items : List A) → AllByRecursion (λ item. length (f item) < 2 ^ 64) items → has_number_above set_extension (message_fields f number items) ≡ false
    above [] short = above_nothing set_extension
    above (item ∷ items) short =
        above_both set_extension (octets_field number (f item)) (message_fields f number items)
        (octets_pass number (f item) low (omega (arith, high)) short.0) (messages_say f number items low (omega (arith, high)) short.1).is
        (above_octets set_extension number (f item) low (omega (arith, high)) high short.0) (above items short.1)

-- ---- paths

empty_text : is_utf8 [] ≡ true
unfolding is_utf8 chars lib.Utf8.encode
empty_text = refl

same_some : {A : Type 0} (a b : A) → ◌≡◌ {A = Option A} (Some a) (Some b) → a ≡ b
same_some a b e = cc

-- a path is read by its elements
by_elems : (path : List Elem) (elems : Option (List Elem)) → length (path_message path) < 2 ^ 64 → each elem_of (map elem_message path) ≡ elems
    → path_of (path_message path) ≡ (elems >>= (λ (found : List Elem). Some (plain_path found)))
unfolding path_of
by_elems path elems short e =
    let there = messages_there elem_message path_elem path (lit≤ tt) (lit≤ tt) (items_short elem_message path_elem path short) in
    rw (
      is_read (path_message path) there.fields there.is,
      text_read (path_message path) path_origin there.fields [] (there.holds path_origin) empty_text,
      there.holds path_elem,
      e,
      text_read (path_message path) path_target there.fields [] (there.holds path_target) empty_text,
      texts_absent (path_message path) path_element there.fields (there.holds path_element),
      there.holds path_element,
    ) refl

plain_read : (path : List Elem) → IsTextPath path → length (path_message path) < 2 ^ 64 → path_of (path_message path) ≡ Some (plain_path path)
plain_read path is short = path_read path (record { elems = is; short = short })

elems_read : (path : List Elem) → IsTextPath path → length (path_message path) < 2 ^ 64 → each elem_of (map elem_message path) ≡ Some path
elems_read path is short = by (each elem_of (map elem_message path)) refl
  where
    by : (elems : Option (List Elem)) → each elem_of (map elem_message path) ≡ elems → each elem_of (map elem_message path) ≡ Some path
    by None e = absurd (let none : ◌≡◌ {A = Option GnmiPath} None (Some (plain_path path)) = sym (by_elems path None short e) ∙ plain_read path is short in cc)
    by (Some elems) e =
        let same : plain_path elems ≡ plain_path path = same_some (plain_path elems) (plain_path path) (sym (by_elems path (Some elems) short e) ∙ plain_read path is short) in
        e ∙ ap (λ (p : GnmiPath). Some p.path) same

paths_read : (paths : List (List Elem)) → AllByRecursion IsTextPath paths → AllByRecursion (λ path. length (path_message path) < 2 ^ 64) paths
    → each path_of (map path_message paths) ≡ Some (map plain_path paths)
paths_read [] all short = refl
paths_read (path ∷ paths) all short = rw (plain_read path all.0 short.0, paths_read paths all.1 short.1) refl

abbrev target_path : List Elem → List ℕ → GnmiPath
target_path prefix target = record { path = prefix; origin = []; target = target; old_element = false }

prefix_read : (prefix : List Elem) (target : List ℕ) → IsTextPath prefix → is_utf8 target ≡ true → length (prefix_message prefix target) < 2 ^ 64
    → path_of (prefix_message prefix target) ≡ Some (target_path prefix target)
unfolding path_of
prefix_read prefix target is text short =
    let e : List ℕ = path_message prefix in
    let t : List ℕ = text_field path_target target in
    let m : List ℕ = e ++ t in
    let sum : length (e ++ t) ≡ length e + length t = length-append e t in
    let own = text_short path_target target in
    let short_e : length e < 2 ^ 64 = omega (arith, sum, short) in
    let there = appended (messages_there elem_message path_elem prefix (lit≤ tt) (lit≤ tt) (items_short elem_message path_elem prefix short_e))
    (text_there path_target target (lit≤ tt) (lit≤ tt) (omega (arith, sum, own, short))) in
    let elems = there.holds path_elem ∙ append-nil (map elem_message prefix) in
    rw (
      is_read m there.fields there.is,
      text_read m path_origin there.fields [] (there.holds path_origin) empty_text,
      elems,
      elems_read prefix is short_e,
      text_read m path_target there.fields target (there.holds path_target) text,
      texts_absent m path_element there.fields (there.holds path_element),
      there.holds path_element,
    ) refl

-- ---- values

value_read : (value : Value) → IsWritableValue value → typed_of (value_message value) ≡ Some (given.Scalar (read_value value))
value_read (v.Bool b) is = scalar_read (v.Bool b) is
value_read (v.Int number) is = scalar_read (v.Int number) is
value_read (v.Uint number) is = scalar_read (v.Uint number) is
value_read (v.Dec digits places) is = scalar_read (v.Dec digits places) is
value_read (v.Text text) is = scalar_read (v.Text text) is
value_read (v.Bin octets) is = scalar_read (v.Bin octets) is
value_read (v.Enum text) is = scalar_read (v.Enum text) is
value_read (v.List' n items) is = list_read (v.List' n items) is

ietf_held : (message : List ℕ) (fields : List Field) (json : List ℕ) → occurrences message json_val fields ≡ [] → occurrences message json_ietf_val fields ≡ json ∷ []
    → given_in message fields ≡ Some (given.Json json)
unfolding given_in
ietf_held message fields json none e = rw (none, e) refl

json_read : (json : List ℕ) → length json < 2 ^ 64 → typed_of (octets_field json_ietf_val json) ≡ Some (given.Json json)
unfolding typed_of typed_fields
json_read json short =
    let message : List ℕ = octets_field json_ietf_val json in
    let field : Field = record { number = json_ietf_val; body = octets_body json } in
    let held : given_in message (field ∷ []) ≡ Some (given.Json json) = ietf_held message (field ∷ []) json refl (occurrences-written json_ietf_val json) in
    rw (is_read message (field ∷ []) (IsMessage-octets json_ietf_val json (lit≤ tt) (lit≤ tt) short), held) refl

no_octets : IsMessage [] []
no_octets = record { are_fields = refl }

missing_read : typed_of [] ≡ Some given.Missing
unfolding typed_of typed_fields given_in scalar_in number_in
missing_read = rw (is_read [] [] no_octets) refl

-- ---- updates

abbrev given_typed : Given → List (List ℕ)
given_typed (given.Json json) = octets_field json_ietf_val json ∷ []
given_typed (given.Scalar value) = value_message value ∷ []
given_typed given.Missing = []

given_says : (value : Given) → length (given_field value) < 2 ^ 64 → Says (given_field value) no_numbers (only update_val (given_typed value))
given_says (given.Json json) short =
    let typed : List ℕ = octets_field json_ietf_val json in
    let long : length typed < length (octets_field update_val typed) = octets_long update_val typed in
    octets_say update_val typed (lit≤ tt) (lit≤ tt) (omega (arith, long, short))
given_says (given.Scalar value) short =
    let typed : List ℕ = value_message value in
    let long : length typed < length (octets_field update_val typed) = octets_long update_val typed in
    octets_say update_val typed (lit≤ tt) (lit≤ tt) (omega (arith, long, short))
given_says given.Missing short = messages_say {A = List ℕ} (λ text. text) update_val [] (lit≤ tt) (lit≤ tt) tt

given_read : (value : Given) → IsWritableGiven value → length (given_field value) < 2 ^ 64 → typed_of (unwrap_or (joined_pieces (given_typed value)) []) ≡ Some (read_given value)
given_read (given.Json json) is short =
    let typed : List ℕ = octets_field json_ietf_val json in
    let long : length typed < length (octets_field update_val typed) = octets_long update_val typed in
    let longer : length json < length typed = octets_long json_ietf_val json in
    rw (append-nil typed) (json_read json (omega (arith, long, longer, short)))
given_read (given.Scalar value) is short = rw (append-nil (value_message value)) (value_read value is)
given_read given.Missing is short = missing_read

abbrev read_update : Change → Update
read_update change = record { path = plain_path change.path; given = read_given change.given }

update_read : (change : Change) → IsWritableChange change → length (change_message change) < 2 ^ 64 → update_of (change_message change) ≡ Some (read_update change)
unfolding update_of
update_read change is short =
    let m : List ℕ = path_message change.path in
    let a : List ℕ = octets_field update_path m in
    let b : List ℕ = given_field change.given in
    let sum : length (a ++ b) ≡ length a + length b = length-append a b in
    let long : length m < length a = octets_long update_path m in
    let short_m : length m < 2 ^ 64 = omega (arith, sum, long, short) in
    let short_b : length b < 2 ^ 64 = omega (arith, sum, short) in
    let there = joined (octets_say update_path m (lit≤ tt) (lit≤ tt) short_m) (given_says change.given short_b) in
    rw (
      there.is,
      there.pieces_are update_path,
      append-nil m,
      plain_read change.path is.path short_m,
      there.pieces_are update_val,
      given_read change.given is.value short_b,
    ) refl

updates_read : (changes : List Change) → AllByRecursion IsWritableChange changes → AllByRecursion (λ change. length (change_message change) < 2 ^ 64) changes
    → each update_of (map change_message changes) ≡ Some (map read_update changes)
updates_read [] all short = refl
updates_read (change ∷ changes) all short = rw (update_read change all.0 short.0, updates_read changes all.1 short.1) refl

-- ---- the commit

abbrev commit_pieces : Action → List (List ℕ)
commit_pieces actions.Plain = []
commit_pieces action = octets_field extension_commit (commit_message action) ∷ []

abbrev commits : Action → List Extension
commits actions.Plain = []
commits action = extensions.Commit action ∷ []

extension_part : (message : List ℕ) → length (octets_field set_extension message) < 2 ^ 64 → Part (octets_field set_extension message) (only set_extension (message ∷ []))
extension_part message short =
    let long : length message < length (octets_field set_extension message) = octets_long set_extension message in
    let small : length message < 2 ^ 64 = omega (arith, long, short) in
    record { says = octets_say set_extension message (lit≤ tt) (lit≤ tt) small; low = above_octets set_extension set_extension message (lit≤ tt) (lit≤ tt) (lit≤ tt) small }

commit_part : (action : Action) → length (commit_field action) < 2 ^ 64 → Part (commit_field action) (only set_extension (commit_pieces action))
commit_part actions.Plain short = text_part set_extension [] (lit≤ tt) (lit≤ tt) (lit≤ tt)
commit_part (actions.Trial id span) short = extension_part (octets_field extension_commit (commit_message (actions.Trial id span))) short
commit_part (actions.Confirm id) short = extension_part (octets_field extension_commit (commit_message (actions.Confirm id))) short
commit_part (actions.Cancel id) short = extension_part (octets_field extension_commit (commit_message (actions.Cancel id))) short
commit_part (actions.Extend id span) short = extension_part (octets_field extension_commit (commit_message (actions.Extend id span))) short
commit_part actions.Mixed short = extension_part (octets_field extension_commit (commit_message actions.Mixed)) short

extension_read : (action : Action) → ext.IsWritable action → length (octets_field set_extension (octets_field extension_commit (commit_message action))) < 2 ^ 64
    → extension_of (octets_field extension_commit (commit_message action)) ≡ Some (extensions.Commit action)
unfolding extension_of
extension_read action is short =
    let m : List ℕ = commit_message action in
    let x : List ℕ = octets_field extension_commit m in
    let long : length m < length x = octets_long extension_commit m in
    let longer : length x < length (octets_field set_extension x) = octets_long set_extension x in
    let short_m : length m < 2 ^ 64 = omega (arith, long, longer, short) in
    rw (
      octets_pass extension_commit m (lit≤ tt) (lit≤ tt) short_m,
      member_written extension_members [] extension_commit m (lit≤ tt) (lit≤ tt) short_m empty_passes (ap (filter (is_member (message_members extension_members))) empty_fields) refl,
      commit_read action is,
    ) refl

commits_read : (action : Action) → IsWritableAction action → length (commit_field action) < 2 ^ 64 → each extension_of (commit_pieces action) ≡ Some (commits action)
commits_read actions.Plain is short = refl
commits_read (actions.Trial id span) is short = rw (extension_read (actions.Trial id span) is short) refl
commits_read (actions.Confirm id) is short = rw (extension_read (actions.Confirm id) is short) refl
commits_read (actions.Cancel id) is short = rw (extension_read (actions.Cancel id) is short) refl
commits_read (actions.Extend id span) is short = rw (extension_read (actions.Extend id span) is short) refl
commits_read actions.Mixed is short = rw (extension_read actions.Mixed is short) refl

action_is : (action : Action) → action_of (commits action) ≡ action
action_is actions.Plain = refl
action_is (actions.Trial id span) = refl
action_is (actions.Confirm id) = refl
action_is (actions.Cancel id) = refl
action_is (actions.Extend id span) = refl
action_is actions.Mixed = refl

no_other : (action : Action) → list_any is_other (commits action) ≡ false
no_other actions.Plain = refl
no_other (actions.Trial id span) = refl
no_other (actions.Confirm id) = refl
no_other (actions.Cancel id) = refl
no_other (actions.Extend id span) = refl
no_other actions.Mixed = refl

-- ---- what is asked

paths_are : (paths : List (List Elem)) → map path_in (map plain_path paths) ≡ paths
paths_are [] = refl
paths_are (path ∷ paths) = ap (λ (others : List (List Elem)). path ∷ others) (paths_are paths)

changes_are : (changes : List Change) → map change_of (map read_update changes) ≡ map read_change changes
changes_are [] = refl
changes_are (change ∷ changes) = ap (λ (others : List Change). read_change change ∷ others) (changes_are changes)

none_foreign : (paths : List (List Elem)) → list_any is_foreign (map plain_path paths) ≡ false
none_foreign [] = refl
none_foreign (path ∷ paths) = none_foreign paths

no_foreign : (changes : List Change) → list_any (λ (update : Update). is_foreign update.path) (map read_update changes) ≡ false
no_foreign [] = refl
no_foreign (change ∷ changes) = no_foreign changes

abbrev prefix_octets : UnresolvedSet → List ℕ
prefix_octets ask = text_field set_prefix (prefix_message ask.prefix ask.target)

pub set_read : (ask : UnresolvedSet) → IsWritableSet ask → set_of (set_message ask) ≡ Some (read_ask ask)
unfolding request_of
set_read ask is =
    let m : List ℕ = prefix_message ask.prefix ask.target in
    let p : List ℕ = text_field set_prefix m in
    let d : List ℕ = message_fields path_message set_delete ask.deletes in
    let r : List ℕ = message_fields change_message set_replace ask.replaces in
    let u : List ℕ = message_fields change_message set_update ask.updates in
    let x : List ℕ = commit_field ask.action in
    let all : length (p ++ d ++ r ++ u ++ x) ≡ length (p ++ d ++ r ++ u) + length x = length-append (p ++ d ++ r ++ u) x in
    let four : length (p ++ d ++ r ++ u) ≡ length (p ++ d ++ r) + length u = length-append (p ++ d ++ r) u in
    let three : length (p ++ d ++ r) ≡ length (p ++ d) + length r = length-append (p ++ d) r in
    let two : length (p ++ d) ≡ length p + length d = length-append p d in
    let own : length m ≤ length p = text_short set_prefix m in
    let short = is.short in
    let short_m : length m < 2 ^ 64 = omega (arith, all, four, three, two, own, short) in
    let short_d = items_short path_message set_delete ask.deletes (omega (arith, all, four, three, two, short)) in
    let short_r = items_short change_message set_replace ask.replaces (omega (arith, all, four, three, short)) in
    let short_u = items_short change_message set_update ask.updates (omega (arith, all, four, short)) in
    let short_x : length x < 2 ^ 64 = omega (arith, all, short) in
    let there = both (both (both (both
    (text_part set_prefix m (lit≤ tt) (lit≤ tt) short_m)
    (messages_part path_message set_delete ask.deletes (lit≤ tt) (lit≤ tt) short_d))
    (messages_part change_message set_replace ask.replaces (lit≤ tt) (lit≤ tt) short_r))
    (messages_part change_message set_update ask.updates (lit≤ tt) (lit≤ tt) short_u))
    (commit_part ask.action short_x) in
    let ds : List (List ℕ) = map path_message ask.deletes in
    let rs : List (List ℕ) = map change_message ask.replaces in
    let us : List (List ℕ) = map change_message ask.updates in
    let ps : List (List ℕ) = text_pieces m in
    let prefix_is : pieces_under set_prefix (set_message ask) ≡ ps =
    there.says.pieces_are set_prefix ∙ append-nil (ps ++ [] ++ [] ++ []) ∙ append-nil (ps ++ [] ++ []) ∙ append-nil (ps ++ []) ∙ append-nil ps in
    let deletes_are : pieces_under set_delete (set_message ask) ≡ ds =
    there.says.pieces_are set_delete ∙ append-nil (ds ++ [] ++ []) ∙ append-nil (ds ++ []) ∙ append-nil ds in
    let replaces_are : pieces_under set_replace (set_message ask) ≡ rs =
    there.says.pieces_are set_replace ∙ append-nil (rs ++ []) ∙ append-nil rs in
    let updates_are : pieces_under set_update (set_message ask) ≡ us =
    there.says.pieces_are set_update ∙ append-nil us in
    let extensions_are : pieces_under set_extension (set_message ask) ≡ commit_pieces ask.action =
    there.says.pieces_are set_extension in
    rw (
      fields_are_read there.says,
      prefix_is,
      single_read m,
      prefix_read ask.prefix ask.target is.prefix is.target short_m,
      deletes_are,
      paths_read ask.deletes is.deletes short_d,
      replaces_are,
      updates_read ask.replaces is.replaces short_r,
      updates_are,
      updates_read ask.updates is.updates short_u,
      extensions_are,
      commits_read ask.action is.action short_x,
      there.low,
      no_other ask.action,
      none_foreign ask.deletes,
      no_foreign ask.replaces,
      no_foreign ask.updates,
      paths_are ask.deletes,
      changes_are ask.replaces,
      changes_are ask.updates,
      action_is ask.action,
      is.supported,
    ) refl

-- ---- Get

pub get_read : (path : List Elem) → IsTextPath path → length (get_message path) < 2 ^ 64 → get_of (get_message path) ≡ Some (get_asked path)
unfolding get_of
get_read path is short =
    let m : List ℕ = path_message path in
    let a : List ℕ = octets_field get_path m in
    let b : List ℕ = number_field get_encoding encoding_proto in
    let sum : length (a ++ b) ≡ length a + length b = length-append a b in
    let long : length m < length a = octets_long get_path m in
    let short_m : length m < 2 ^ 64 = omega (arith, sum, long, short) in
    let there = joined (octets_say get_path m (lit≤ tt) (lit≤ tt) short_m) (number_says get_encoding encoding_proto (lit≤ tt) (lit≤ tt) (omega arith)) in
    let paths_are : pieces_under get_path (get_message path) ≡ m ∷ [] = there.pieces_are get_path in
    rw (
      fields_are_read there,
      there.pieces_are get_prefix,
      plain_read [] tt (lit≤ tt),
      paths_are,
      plain_read path is short_m,
      there.pieces_are get_use_models,
      there.pieces_are get_extension,
      there.numbers_are get_encoding,
      there.numbers_are get_type,
    ) refl
