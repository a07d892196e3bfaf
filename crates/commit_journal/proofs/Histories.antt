-- A history with one entry more.
use Rattle.std.proofs.Common.{◌≡◌, List, [], ◌∷◌, ◌++◌, ℕ, sym, ap, ◌∙◌, subst, append_assoc}
use Rattle.std.proofs.lemmas.List.{append-nil}
use Rattle.std.specs.List.{flat_map, AllByRecursion}
use Rattle.base_kinds.specs.declared.entry.Entry.{Entry}
use Rattle.base_kinds.specs.declared.entry.Limits.{Limits}
use Rattle.journal_record.specs.Spelling.{record_of}
use Rattle.journal_record.specs.Representable.{IsRepresentable}
use Rattle.journal_format.specs.Histories.{MayFollow, FollowInTurn, IsJournalHistory}
use Rattle.journal_format.specs.Journal.{header, gated_record, journal_prefix, AreRepresentable}

gates_more : (h : List Entry) (entry : Entry) (rest : List ℕ) → flat_map gated_record (h ++ entry ∷ []) ++ rest ≡ flat_map gated_record h ++ 165 ∷ (record_of entry ++ rest)
gates_more [] entry rest = ap (λ l. 165 ∷ (l ++ rest)) (append-nil (record_of entry))
gates_more (e ∷ h) entry rest =
    append_assoc (gated_record e) (flat_map gated_record (h ++ entry ∷ [])) rest
    ∙ ap (λ l. gated_record e ++ l) (gates_more h entry rest)
    ∙ sym (append_assoc (gated_record e) (flat_map gated_record h) (165 ∷ (record_of entry ++ rest)))

pub front_more : (limits : Limits) (h : List Entry) (entry : Entry) (rest : List ℕ) → journal_prefix limits (h ++ entry ∷ []) ++ rest ≡ journal_prefix limits h ++ 165 ∷ (record_of entry ++ rest)
front_more limits h entry rest =
    append_assoc (header limits) (flat_map gated_record (h ++ entry ∷ [])) rest
    ∙ ap (λ l. header limits ++ l) (gates_more h entry rest)
    ∙ sym (append_assoc (header limits) (flat_map gated_record h) (165 ∷ (record_of entry ++ rest)))

follow_more : (limits : Limits) (before h : List Entry) (entry : Entry) → FollowInTurn limits before h → MayFollow limits (before ++ h) entry → FollowInTurn limits before (h ++ entry ∷ [])
follow_more limits before [] entry follow next = (subst (λ b. MayFollow limits b entry) (append-nil before) next, tt)
follow_more limits before (e ∷ h) entry follow next =
    (follow.0, follow_more limits (before ++ e ∷ []) h entry follow.1 (subst (λ b. MayFollow limits b entry) (sym (append_assoc before (e ∷ []) h)) next))

pub legal_more : (limits : Limits) (h : List Entry) (entry : Entry) → IsJournalHistory limits h → MayFollow limits h entry → IsJournalHistory limits (h ++ entry ∷ [])
legal_more limits h entry legal next = record { in_range = legal.in_range; in_turn = follow_more limits [] h entry legal.in_turn next }

pub kept_more : (h : List Entry) (entry : Entry) → AreRepresentable h → IsRepresentable entry → AreRepresentable (h ++ entry ∷ [])
kept_more [] entry kept one = (one, tt)
kept_more (e ∷ h) entry kept one = (kept.0, kept_more h entry kept.1 one)
