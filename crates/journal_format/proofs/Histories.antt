-- A history with an entry more.
use Rattle.std.proofs.Common.{◌≡◌, ℕ, ◌+◌, List, [], ◌∷◌, ◌++◌, length, true, refl, sym, ap, subst, ◌∙◌, arith, append_assoc, sum_by, Option, Some, None}
use Rattle.std.proofs.lemmas.List.{length-append, append-nil}
use Rattle.std.proofs.lemmas.List.Sums.{sum_by-cons}
use Rattle.std.specs.List.{flat_map}
use Rattle.base_kinds.specs.declared.entry.Entry.{Entry}
use Rattle.base_kinds.specs.declared.entry.Limits.{Limits}
use Rattle.base_kinds.specs.declared.entry.Kind.{Kind}
use Rattle.base_kinds.specs.declared.entry.Kind.TheVariants as kinds
use Rattle.base_kinds.specs.History.{World, OpenTrial, world_of, world_from, world_after, last_stamp, extended}
use Rattle.base_kinds.specs.Step.{is_open}
use Rattle.base_kinds.specs.Records.{record_octets}
use Rattle.base_kinds.specs.Rules.{size_of}
use Rattle.journal_record.proofs.Lengths.{record_length}
use Rattle.journal_format.specs.Histories.{MayFollow, FollowInTurn, IsJournalHistory, has_trial, happens}
use Rattle.journal_format.specs.Journal.{header, gated_record, journal_prefix}
use Rattle.journal_format.specs.inner.Progress.{opens}

world_more : (world : World) (h : List Entry) (entry : Entry) → world_from world (h ++ entry ∷ []) ≡ world_after entry.kind (world_from world h)
world_more world [] entry = refl
world_more world (first ∷ h) entry = world_more (world_after first.kind world) h entry

pub stamp_more : (stamp : ℕ) (h : List Entry) (entry : Entry) → last_stamp stamp (h ++ entry ∷ []) ≡ entry.stamp
stamp_more stamp [] entry = refl
stamp_more stamp (first ∷ h) entry = stamp_more first.stamp h entry

open_after : (kind : Kind) (world : World) → happens kind (is_open world.trial) ≡ true → is_open (world_after kind world).trial ≡ opens kind
open_after (kinds.Apply ops) world e = refl
open_after (kinds.Trial id ops deadline) world e = refl
open_after kinds.Confirm world e = refl
open_after kinds.Cancel world e = refl
open_after kinds.Expire world e = refl
open_after kinds.Restart world e = refl
open_after (kinds.Extend deadline) world e = open_extended deadline world.trial e
  where
    open_extended : (deadline : ℕ) (trial : Option OpenTrial) → is_open trial ≡ true → is_open (extended deadline trial) ≡ true
    open_extended deadline None e = e
    open_extended deadline (Some trial) e = refl

pub has_trial_more : (h : List Entry) (entry : Entry) → happens entry.kind (has_trial h) ≡ true → has_trial (h ++ entry ∷ []) ≡ opens entry.kind
has_trial_more h entry e =
    ap (λ (world : World). is_open world.trial) (world_more _ h entry) ∙ open_after entry.kind (world_of h) e

abbrev gated_octets : Entry → ℕ
gated_octets entry = 1 + record_octets entry

sum_more : (h : List Entry) (entry : Entry) → sum_by gated_octets (h ++ entry ∷ []) ≡ sum_by gated_octets h + (1 + record_octets entry)
sum_more [] entry = omega (arith, sum_by-cons gated_octets entry [])
sum_more (first ∷ h) entry = omega (arith, sum_by-cons gated_octets first (h ++ entry ∷ []), sum_by-cons gated_octets first h, sum_more h entry)

pub size_more : (h : List Entry) (entry : Entry) → size_of (h ++ entry ∷ []) ≡ size_of h + 1 + record_octets entry
size_more h entry = omega (arith, sum_more h entry)

pub length_more : (h : List Entry) (entry : Entry) → length (h ++ entry ∷ []) ≡ length h + 1
length_more h entry = omega (arith, length-append h (entry ∷ []))

-- ---- the octets in front of the gate

gated_more : (h : List Entry) (entry : Entry) → flat_map gated_record (h ++ entry ∷ []) ≡ flat_map gated_record h ++ gated_record entry
gated_more [] entry = simp append-nil
gated_more (first ∷ h) entry = ap (λ (l : List ℕ). gated_record first ++ l) (gated_more h entry) ∙ sym (append_assoc (gated_record first) (flat_map gated_record h) (gated_record entry))

pub front_more : (limits : Limits) (h : List Entry) (entry : Entry) → journal_prefix limits (h ++ entry ∷ []) ≡ journal_prefix limits h ++ gated_record entry
front_more limits h entry = ap (λ (l : List ℕ). header limits ++ l) (gated_more h entry) ∙ sym (append_assoc (header limits) (flat_map gated_record h) (gated_record entry))

pub header_length : (limits : Limits) → length (header limits) ≡ 16
unfolding header
header_length limits = refl

gated_length : (h : List Entry) → length (flat_map gated_record h) ≡ sum_by gated_octets h
gated_length [] = refl
gated_length (first ∷ h) = omega (arith, length-append (gated_record first) (flat_map gated_record h), record_length first, gated_length h, sum_by-cons gated_octets first h)

pub front_length : (limits : Limits) (h : List Entry) → length (journal_prefix limits h) + 1 ≡ size_of h
front_length limits h = omega (arith, length-append (header limits) (flat_map gated_record h), header_length limits, gated_length h)

-- ---- legal histories

turn_more : (limits : Limits) (h entries : List Entry) (entry : Entry) → FollowInTurn limits h entries → MayFollow limits (h ++ entries) entry → FollowInTurn limits h (entries ++ entry ∷ [])
turn_more limits h [] entry turn next = (subst (λ (l : List Entry). MayFollow limits l entry) (append-nil h) next, tt)
turn_more limits h (first ∷ entries) entry turn next =
    (turn.0, turn_more limits (h ++ first ∷ []) entries entry turn.1 (subst (λ (l : List Entry). MayFollow limits l entry) (sym (append_assoc h (first ∷ []) entries)) next))

turn_less : (limits : Limits) (h entries : List Entry) (entry : Entry) → FollowInTurn limits h (entries ++ entry ∷ []) → FollowInTurn limits h entries × MayFollow limits (h ++ entries) entry
turn_less limits h [] entry turn = (tt, subst (λ (l : List Entry). MayFollow limits l entry) (sym (append-nil h)) turn.0)
turn_less limits h (first ∷ entries) entry turn =
    let t = turn_less limits (h ++ first ∷ []) entries entry turn.1 in
    ((turn.0, t.0), subst (λ (l : List Entry). MayFollow limits l entry) (append_assoc h (first ∷ []) entries) t.1)

pub legal_more : (limits : Limits) (h : List Entry) (entry : Entry) → IsJournalHistory limits h → MayFollow limits h entry → IsJournalHistory limits (h ++ entry ∷ [])
legal_more limits h entry legal next = record { in_range = legal.in_range; in_turn = turn_more limits [] h entry legal.in_turn next }

pub legal_less : (limits : Limits) (h : List Entry) (entry : Entry) → IsJournalHistory limits (h ++ entry ∷ []) → IsJournalHistory limits h × MayFollow limits h entry
legal_less limits h entry legal =
    let t = turn_less limits [] h entry legal.in_turn in
    (record { in_range = legal.in_range; in_turn = t.0 }, t.1)

pub turn_one_more : (limits : Limits) (h : List Entry) (entry : Entry) → FollowInTurn limits [] h → MayFollow limits h entry → FollowInTurn limits [] (h ++ entry ∷ [])
turn_one_more limits h entry turn next = turn_more limits [] h entry turn next
