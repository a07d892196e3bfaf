-- Which octets are a journal, of which history, and where other octets are damaged. The format is
-- this project's own.
use Rattle.std.specs.Prelude.{◌≡◌, ◌≢◌, ◌⊎◌, ℕ, List, [], ◌∷◌, ◌++◌, codes, length}
use Rattle.std.specs.List.{flat_map, AllByRecursion}
use Rattle.std.specs.Int.{w32, to_be_bytes}
use Rattle.base_kinds.specs.declared.entry.Entry.{Entry}
use Rattle.base_kinds.specs.declared.entry.Limits.{Limits}
use Rattle.base_kinds.specs.Limits.{AreInRange}
use Rattle.journal_record.specs.Spelling.{record_of}
use Rattle.journal_record.specs.Representable.{IsRepresentable}
use Rattle.journal_format.specs.Gates.{open_gate}
use Rattle.journal_format.specs.Histories.{MayFollow, IsJournalHistory}

-- 16 octets: a mark, the limit of entries, and that of octets
unfoldable pub header : Limits → List ℕ
header limits =
    codes "GNMIJRN1" ++ (to_be_bytes w32 limits.entries ++ to_be_bytes w32 limits.octets)

-- an entry's record behind its gate, which is open
abbrev pub gated_record : Entry → List ℕ
gated_record entry = open_gate ∷ record_of entry

-- each entry's record behind its gate: all that stands between the header and the closed gate
abbrev pub gated_records : List Entry → List ℕ
gated_records h = flat_map gated_record h

-- all that stands in front of the closed gate
abbrev pub journal_prefix : Limits → List Entry → List ℕ
journal_prefix limits h = header limits ++ gated_records h

-- the entries are such that their types can hold them
abbrev pub AreRepresentable : List Entry → Type 0
AreRepresentable h = AllByRecursion IsRepresentable h

-- The octets are a journal of this history, with these limits: the header, each entry's record
-- behind an open gate, then an octet that is no open gate, and then anything.
pub record IsJournal (octets : List ℕ) (limits : Limits) (h : List Entry) : Type 0 where
  pub gate : ℕ
  pub rest : List ℕ
  pub parts : octets ≡ journal_prefix limits h ++ gate ∷ rest
  pub is_closed : gate ≢ open_gate
  pub legal : IsJournalHistory limits h
  pub kept : AreRepresentable h

-- no header with limits in range stands first
abbrev pub HasNoHeader : List ℕ → Type 0
HasNoHeader octets = (limits : Limits) (rest : List ℕ) → AreInRange limits
    → octets ≡ header limits ++ rest → ⊥

-- no record stands first whose entry may stand behind the history
abbrev pub HasNoNext : Limits → List Entry → List ℕ → Type 0
HasNoNext limits h octets = (entry : Entry) (rest : List ℕ) → MayFollow limits h entry
    → IsRepresentable entry → octets ≡ record_of entry ++ rest → ⊥

-- a gate is missing here, or it is open and has no such record behind it
abbrev pub IsNoGate : Limits → List Entry → List ℕ → Type 0
IsNoGate limits h [] = Unit {0}
IsNoGate limits h (gate ∷ rest) = (gate ≡ open_gate) × HasNoNext limits h rest

-- in front of the place stands all of a legal history, and no gate stands there
pub record IsCutAt (octets : List ℕ) (place : ℕ) : Type 0 where
  pub limits : Limits
  pub before : List Entry
  pub rest : List ℕ
  pub parts : octets ≡ journal_prefix limits before ++ rest
  pub legal : IsJournalHistory limits before
  pub kept : AreRepresentable before
  pub place_is : place ≡ length (journal_prefix limits before)
  pub no_gate : IsNoGate limits before rest

-- The octets are no journal from this place on: 0 where the header is bad, and else the place of
-- the first gate that is missing, or that is open and has no record behind it that may follow those
-- before.
abbrev pub IsDamaged : List ℕ → ℕ → Type 0
IsDamaged octets place = ((place ≡ 0) × HasNoHeader octets) ⊎ IsCutAt octets place
