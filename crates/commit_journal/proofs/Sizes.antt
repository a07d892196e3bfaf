-- How long the octets of a history are.
use Rattle.std.proofs.Common.{◌≡◌, ◌≤◌, ◌<◌, ◌^◌, ℕ, ◌+◌, Bool, true, false, IsTrue, List, [], ◌∷◌, ◌++◌, length, sum_by, refl, sym, ap, ◌∙◌, subst, arith, rules, append_assoc, length-append, if◌then◌else◌, nat_le, ◌&&◌}
use Rattle.std.proofs.lemmas.List.{append-nil}
use Rattle.std.proofs.lemmas.List.Sums.{sum_by-cons}
use Rattle.std.specs.List.{flat_map}
use Rattle.base_kinds.specs.declared.entry.Entry.{Entry}
use Rattle.base_kinds.specs.declared.entry.Limits.{Limits}
use Rattle.base_kinds.specs.Records.{record_octets}
use Rattle.base_kinds.specs.Rules.{limited, size_of}
use Rattle.journal_record.specs.Spelling.{record_of}
use Rattle.journal_record.proofs.Lengths.{record_length}
use Rattle.journal_format.specs.Histories.{MayFollow, FollowInTurn, IsJournalHistory, has_trial, has_room}
use Rattle.journal_format.specs.Journal.{header, gated_record, journal_prefix}
use Rattle.commit_journal.proofs.Histories.{front_more}

gates_length : (h : List Entry) → length (flat_map gated_record h) ≡ sum_by (λ entry. 1 + record_octets entry) h
gates_length [] = refl
gates_length (e ∷ h) = omega (arith, length-append (gated_record e) (flat_map gated_record h), record_length e, gates_length h, sum_by-cons (λ entry. 1 + record_octets entry) e h)

header_length : (limits : Limits) → length (header limits) ≡ 16
unfolding header
header_length limits = refl

pub front_length : (limits : Limits) (h : List Entry) → length (journal_prefix limits h) + 1 ≡ size_of h
front_length limits h = omega (arith, length-append (header limits) (flat_map gated_record h), header_length limits, gates_length h)

limited_size : (limits : Limits) (h : List Entry) (entries octets : ℕ) → IsTrue (limited limits h entries octets) → size_of h ≤ limits.octets
limited_size limits h entries octets is = grind (arith, is)

room_size : (limits : Limits) (h : List Entry) → IsTrue (has_room limits h) → size_of h ≤ limits.octets
room_size limits h room =
    elim (has_trial h) as (λ b. IsTrue (if b then limited limits h 1 14 else limited limits h 0 0) → size_of h ≤ limits.octets) [
      | true ↦ λ is. limited_size limits h 1 14 is
      | false ↦ λ is. limited_size limits h 0 0 is
    ] room

follow_size : (limits : Limits) (before h : List Entry) → FollowInTurn limits before h → size_of before ≤ limits.octets → size_of (before ++ h) ≤ limits.octets
follow_size limits before [] follow size = subst (λ b. size_of b ≤ limits.octets) (sym (append-nil before)) size
follow_size limits before (e ∷ h) follow size =
    subst (λ b. size_of b ≤ limits.octets) (append_assoc before (e ∷ []) h) (follow_size limits (before ++ e ∷ []) h follow.1 (room_size limits (before ++ e ∷ []) follow.0.room))

pub legal_size : (limits : Limits) (h : List Entry) → IsJournalHistory limits h → length (journal_prefix limits h) + 1 ≤ 268435456
legal_size limits h legal =
    let start : size_of [] ≤ limits.octets = omega (arith, legal.in_range.least_octets) in
    omega (arith, front_length limits h, follow_size limits [] h legal.in_turn start, legal.in_range.most_octets)

-- the place of the gate behind one entry more
pub gate_more : (limits : Limits) (h : List Entry) (entry : Entry) (piece : List ℕ) → piece ≡ record_of entry ++ 0 ∷ [] → length (journal_prefix limits (h ++ entry ∷ [])) ≡ length (journal_prefix limits h) + length piece
gate_more limits h entry piece is = omega (arith, ap length (append-nil (journal_prefix limits (h ++ entry ∷ []))), ap length (front_more limits h entry []), length-append (journal_prefix limits h) (165 ∷ (record_of entry ++ [])), ap length is, length-append (record_of entry) (0 ∷ []), length-append (record_of entry) [])
