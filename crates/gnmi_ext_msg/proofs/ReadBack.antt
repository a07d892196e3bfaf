-- What is written is read back.
use Rattle.std.proofs.Common.{◌≡◌, ℕ, zero, suc, ◌+◌, ◌%◌, ◌^◌, ◌<◌, ◌≤◌, true, false, cond, eqb, List, [], ◌∷◌, ◌++◌, length, Option, Some, None, refl, ap, ◌∙◌, arith, append-nil, lit≤}
use Rattle.std.specs.Prelude.{ℤ, pos, filter, unwrap_or, FitsSigned}
use Rattle.std.specs.Int.{w32, w64, cast_signed, cast_unsigned}
use Rattle.std.specs.List.{last_or, list_all}
use Rattle.std.specs.Str.{is_utf8}
use Rattle.std.proofs.lemmas.Int.{to_z-of_z}
use Rattle.std.proofs.lemmas.List.{length-append}
use Rattle.std.proofs.Math.Nat.{mod-eq_of_lt}
use Rattle.std.proofs.Math.Facts.{Fits-of_z}
use Rattle.base_kinds.specs.declared.request.Action.{Action}
use Rattle.base_kinds.specs.declared.request.Action.TheVariants as actions
use Rattle.base_kinds.specs.declared.request.Span.{Span}
use Rattle.base_kinds.specs.declared.request.Span.TheVariants as spans
use Rattle.pb_wire.specs.Varint.{shortest}
use Rattle.pb_wire.specs.Writing.{octets_field}
use Rattle.pb_wire.specs.Values.{varints, is_member, has_member}
use Rattle.pb_wire.proofs.WritingLemmas.{IsVarint-shortest}
use Rattle.pb_message.specs.Fields.{all_fields, is_message}
use Rattle.pb_message.specs.Values.{pieces_under, text_under, member_under, message_members}
use Rattle.pb_message.proofs.Repeated.{empty_fields, empty_passes, empty_pieces}
use Rattle.pb_message.proofs.Written.{message_appended, pieces_appended, numbers_appended, octets_fields, octets_pass, varint_passes, pieces_here, pieces_elsewhere, numbers_here, numbers_elsewhere, member_written}
use Rattle.gnmi_data_msg.specs.Writing.{text_field, number_field}
use Rattle.gnmi_ext_msg.specs.Numbers.{commit_id, commit_commit, commit_confirm, commit_cancel, commit_set_rollback_duration, commit_actions, rollback_duration, duration_seconds, duration_nanos}
use Rattle.gnmi_ext_msg.specs.Commits.{duration_of, span_of, action_of, commit_of}
use Rattle.gnmi_ext_msg.specs.ReadBack.{IsWritableId, IsWritableSpan, IsWritable}
use Rattle.gnmi_ext_msg.specs.Writing.{span_message, commit_message}

-- ---- single numbers

abbrev number_list : ℕ → List ℕ
number_list zero = []
number_list (suc n) = suc n ∷ []

number_passes : (number n : ℕ) → 1 ≤ number → number ≤ 15 → n < 2 ^ 64 → is_message (number_field number n) ≡ true
number_passes number zero low high fits = empty_passes
number_passes number (suc n) low high fits = varint_passes number (suc n) low high fits

number_there : (number n : ℕ) → 1 ≤ number → number ≤ 15 → n < 2 ^ 64 → varints number (all_fields (number_field number n)) ≡ number_list n
number_there number zero low high fits = ap (varints number) empty_fields
number_there number (suc n) low high fits = numbers_here number (suc n) low high fits

number_not_there : (other number n : ℕ) → 1 ≤ number → number ≤ 15 → n < 2 ^ 64 → eqb number other ≡ false → varints other (all_fields (number_field number n)) ≡ []
number_not_there other number zero low high fits differ = ap (varints other) empty_fields
number_not_there other number (suc n) low high fits differ = numbers_elsewhere other number (suc n) low high fits differ

last_number : (n : ℕ) → unwrap_or (last_or None (number_list n)) 0 ≡ n
last_number zero = refl
last_number (suc n) = refl

number_short : (number n : ℕ) → n < 2 ^ 64 → length (number_field number n) ≤ 11
number_short number zero fits = lit≤ tt
number_short number (suc n) fits =
    let v = IsVarint-shortest (suc n) fits in
    let all : length (number_field number (suc n)) ≡ suc (length (shortest (suc n))) = refl in
    omega (arith, all, v.short)

-- ---- durations

abbrev duration_message : ℕ → ℕ → List ℕ
duration_message seconds nanos = number_field duration_seconds seconds ++ number_field duration_nanos nanos

duration_read : (seconds nanos : ℕ) → seconds < 2 ^ 64 → nanos < 2 ^ 32
    → duration_of (duration_message seconds nanos) ≡ Some (spans.Of (cast_signed w64 seconds) (cast_signed w32 nanos))
unfolding duration_of
duration_read seconds nanos s n =
    let a : List ℕ = number_field duration_seconds seconds in
    let b : List ℕ = number_field duration_nanos nanos in
    let wide : nanos < 2 ^ 64 = omega (arith, n) in
    let is_a : is_message a ≡ true = number_passes duration_seconds seconds (lit≤ tt) (lit≤ tt) s in
    let is_b : is_message b ≡ true = number_passes duration_nanos nanos (lit≤ tt) (lit≤ tt) wide in
    let first : varints duration_seconds (all_fields (a ++ b)) ≡ number_list seconds =
    numbers_appended duration_seconds a b is_a is_b
    ∙ ap (λ (ns : List ℕ). ns ++ varints duration_seconds (all_fields b)) (number_there duration_seconds seconds (lit≤ tt) (lit≤ tt) s)
    ∙ ap (λ (ns : List ℕ). number_list seconds ++ ns) (number_not_there duration_seconds duration_nanos nanos (lit≤ tt) (lit≤ tt) wide refl)
    ∙ append-nil (number_list seconds) in
    let second : varints duration_nanos (all_fields (a ++ b)) ≡ number_list nanos =
    numbers_appended duration_nanos a b is_a is_b
    ∙ ap (λ (ns : List ℕ). ns ++ varints duration_nanos (all_fields b)) (number_not_there duration_nanos duration_seconds seconds (lit≤ tt) (lit≤ tt) s refl)
    ∙ number_there duration_nanos nanos (lit≤ tt) (lit≤ tt) wide in
    let low : nanos % 2 ^ 32 ≡ nanos = mod-eq_of_lt n in
    rw (message_appended a b is_a is_b, first, second, last_number seconds, last_number nanos, low) refl

duration_short : (seconds nanos : ℕ) → seconds < 2 ^ 64 → nanos < 2 ^ 64 → length (duration_message seconds nanos) < 2 ^ 64
duration_short seconds nanos s n =
    let sum : length (duration_message seconds nanos) ≡ length (number_field duration_seconds seconds) + length (number_field duration_nanos nanos) = length-append (number_field duration_seconds seconds) (number_field duration_nanos nanos) in
    omega (arith, sum, number_short duration_seconds seconds s, number_short duration_nanos nanos n)

nanos_back : (n : ℕ) → n < 2 ^ 31 → cast_signed w32 n ≡ pos n
nanos_back n few = to_z-of_z w32 (pos n) (record { sfits = few })

span_read : (span : Span) → IsWritableSpan span → span_of (span_message span) ≡ Some span
unfolding span_of
span_read spans.Absent is = rw (empty_passes, empty_pieces rollback_duration) refl
span_read (spans.Of seconds nanos) is = by nanos is.count is.is_count is.few is.seconds_fit
  where
    by : (nanos : ℤ) (count : ℕ) → nanos ≡ pos count → count < 2 ^ 31 → FitsSigned w64 seconds → span_of (span_message (spans.Of seconds nanos)) ≡ Some (spans.Of seconds nanos)
    by nanos count e few fit =
        let s : ℕ = cast_unsigned w64 seconds in
        let back : cast_signed w64 s ≡ seconds = to_z-of_z w64 seconds fit in
        let s_fits : s < 2 ^ 64 = (Fits-of_z fit).fits in
        let n_fits : count < 2 ^ 32 = omega (arith, few) in
        let d : List ℕ = duration_message s count in
        let short : length d < 2 ^ 64 = duration_short s count s_fits (omega (arith, few)) in
        let pieces : pieces_under rollback_duration (octets_field rollback_duration d) ≡ d ∷ [] = pieces_here rollback_duration d (lit≤ tt) (lit≤ tt) short in
        let passes : is_message (octets_field rollback_duration d) ≡ true = octets_pass rollback_duration d (lit≤ tt) (lit≤ tt) short in
        let read : duration_of d ≡ Some (spans.Of seconds (pos count)) =
        duration_read s count s_fits n_fits ∙ rw (back, nanos_back count few) refl in
        let whole : span_of (octets_field rollback_duration d) ≡ Some (spans.Of seconds (pos count)) =
        rw (passes, pieces, append-nil d, read) refl in
        rw (e) whole

span_short : (span : Span) → IsWritableSpan span → length (span_message span) < 2 ^ 64
span_short spans.Absent is = lit≤ tt
span_short (spans.Of seconds nanos) is =
    let s : ℕ = cast_unsigned w64 seconds in
    let n : ℕ = cast_unsigned w64 nanos in
    let s_fits : s < 2 ^ 64 = (Fits-of_z is.seconds_fit).fits in
    let n_same : n ≡ is.count = ap (cast_unsigned w64) is.is_count in
    let n_fits : n < 2 ^ 64 = omega (arith, n_same, is.few) in
    let d : List ℕ = duration_message s n in
    let sum : length d ≡ length (number_field duration_seconds s) + length (number_field duration_nanos n) = length-append (number_field duration_seconds s) (number_field duration_nanos n) in
    let first = number_short duration_seconds s s_fits in
    let second = number_short duration_nanos n n_fits in
    let few : length d < 2 ^ 64 = omega (arith, sum, first, second) in
    let len = (IsVarint-shortest (length d) few).short in
    let own : length (octets_field rollback_duration d) ≡ suc (length (shortest (length d)) + length d) = ap suc (length-append (shortest (length d)) d) in
    omega (arith, own, len, sum, first, second)

-- ---- the id

abbrev id_pieces : List ℕ → List (List ℕ)
id_pieces [] = []
id_pieces (octet ∷ octets) = (octet ∷ octets) ∷ []

id_passes : (id : List ℕ) → length id < 2 ^ 64 → is_message (text_field commit_id id) ≡ true
id_passes [] short = empty_passes
id_passes (octet ∷ octets) short = octets_pass commit_id (octet ∷ octets) (lit≤ tt) (lit≤ tt) short

id_there : (id : List ℕ) → length id < 2 ^ 64 → pieces_under commit_id (text_field commit_id id) ≡ id_pieces id
id_there [] short = empty_pieces commit_id
id_there (octet ∷ octets) short = pieces_here commit_id (octet ∷ octets) (lit≤ tt) (lit≤ tt) short

id_no_member : (id : List ℕ) → length id < 2 ^ 64 → filter (is_member (message_members commit_actions)) (all_fields (text_field commit_id id)) ≡ []
id_no_member [] short = ap (filter (is_member (message_members commit_actions))) empty_fields
id_no_member (octet ∷ octets) short =
    ap (filter (is_member (message_members commit_actions))) (octets_fields commit_id (octet ∷ octets) (lit≤ tt) (lit≤ tt) short)

abbrev last_text : List (List ℕ) → Option (List ℕ)
last_text pieces = cond (list_all is_utf8 pieces) (Some (unwrap_or (last_or None pieces) [])) None

id_read : (id : List ℕ) → is_utf8 id ≡ true → last_text (id_pieces id) ≡ Some id
id_read [] is = refl
id_read (octet ∷ octets) is = rw is refl

-- ---- the action

written_read : (id : List ℕ) (number : ℕ) (message : List ℕ) (action : Action) → IsWritableId id → length message < 2 ^ 64
    → 2 ≤ number → number ≤ 15 → eqb number commit_id ≡ false → has_member (message_members commit_actions) number 2 ≡ true
    → action_of id number message ≡ Some action
    → commit_of (text_field commit_id id ++ octets_field number message) ≡ Some action
unfolding commit_of
written_read id number message action is short low high differ member e =
    let a : List ℕ = text_field commit_id id in
    let b : List ℕ = octets_field number message in
    let some : 1 ≤ number = omega (arith, low) in
    let is_a : is_message a ≡ true = id_passes id is.short in
    let is_b : is_message b ≡ true = octets_pass number message some high short in
    let pieces : pieces_under commit_id (a ++ b) ≡ id_pieces id =
    pieces_appended commit_id a b is_a is_b
    ∙ ap (λ (ps : List (List ℕ)). ps ++ pieces_under commit_id b) (id_there id is.short)
    ∙ ap (λ (ps : List (List ℕ)). id_pieces id ++ ps) (pieces_elsewhere commit_id number message some high short differ)
    ∙ append-nil (id_pieces id) in
    let text : text_under commit_id (a ++ b) ≡ Some id = ap last_text pieces ∙ id_read id is.is_text in
    let held : member_under commit_actions (a ++ b) ≡ Some (number, message) =
    member_written commit_actions a number message some high short is_a (id_no_member id is.short) member in
    rw (message_appended a b is_a is_b, text, held, e) refl

nothing_read : commit_of [] ≡ Some actions.Mixed
unfolding commit_of
nothing_read = rw (empty_passes, empty_fields) refl

trial_read : (id : List ℕ) (span : Span) → IsWritableSpan span → action_of id commit_commit (span_message span) ≡ Some (actions.Trial id span)
unfolding action_of
trial_read id span is = rw (span_read span is) refl

extend_read : (id : List ℕ) (span : Span) → IsWritableSpan span → action_of id commit_set_rollback_duration (span_message span) ≡ Some (actions.Extend id span)
unfolding action_of
extend_read id span is = rw (span_read span is) refl

confirm_read : (id : List ℕ) → action_of id commit_confirm [] ≡ Some (actions.Confirm id)
unfolding action_of
confirm_read id = rw (empty_passes) refl

cancel_read : (id : List ℕ) → action_of id commit_cancel [] ≡ Some (actions.Cancel id)
unfolding action_of
cancel_read id = rw (empty_passes) refl

pub commit_read : (action : Action) → IsWritable action → commit_of (commit_message action) ≡ Some action
commit_read actions.Plain is = absurd is
commit_read (actions.Trial id span) is =
    written_read id commit_commit (span_message span) (actions.Trial id span) is.0 (span_short span is.1) (lit≤ tt) (lit≤ tt) refl refl (trial_read id span is.1)
commit_read (actions.Confirm id) is =
    written_read id commit_confirm [] (actions.Confirm id) is (lit≤ tt) (lit≤ tt) (lit≤ tt) refl refl (confirm_read id)
commit_read (actions.Cancel id) is =
    written_read id commit_cancel [] (actions.Cancel id) is (lit≤ tt) (lit≤ tt) (lit≤ tt) refl refl (cancel_read id)
commit_read (actions.Extend id span) is =
    written_read id commit_set_rollback_duration (span_message span) (actions.Extend id span) is.0 (span_short span is.1) (lit≤ tt) (lit≤ tt) refl refl (extend_read id span is.1)
commit_read actions.Mixed is = nothing_read
