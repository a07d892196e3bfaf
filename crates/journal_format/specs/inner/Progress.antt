-- What a reader knows of the entries that it has read, and whether another entry may follow. Which
-- entries may follow stands in Histories.antt, and each step is proved to agree with it.
use Rattle.std.specs.Prelude.{◌≡◌, ℕ, ◌+◌, ◌≤◌, List, [], ◌∷◌, ◌++◌, Bool, true, false, ◌&&◌, nat_le, nat_lt, length, Option, Some, None, if◌then◌else◌}
use Rattle.base_kinds.specs.declared.entry.Entry.{Entry}
use Rattle.base_kinds.specs.declared.entry.Limits.{Limits}
use Rattle.base_kinds.specs.declared.entry.Kind.{Kind}
use Rattle.base_kinds.specs.declared.entry.Kind.TheVariants as kinds
use Rattle.base_kinds.specs.Legal.{is_fit_id}
use Rattle.base_kinds.specs.Limits.{AreInRange, latest_reading, gate_octets, closing_octets}
use Rattle.base_kinds.specs.History.{stamp_of}
use Rattle.base_kinds.specs.Rules.{size_of}
use Rattle.journal_format.specs.declared.progress.Progress.{Progress}
use Rattle.journal_record.specs.Spelling.{record_of}
use Rattle.journal_record.specs.Representable.{IsRepresentable}
use Rattle.base_lists.specs.Options.{◌>>=◌}
use Rattle.journal_record.specs.inner.Reading.{number_at}
use Rattle.std.specs.Int.{w32, to_be_bytes}
use Rattle.journal_format.specs.Histories.{is_author_of, happens, is_fit_deadline, has_trial, MayFollow}
use Rattle.journal_format.specs.Journal.{HasNoNext}

-- the history that was read
pub record Summarizes (so_far : Progress) (h : List Entry) : Type 0 where
  pub count_is : so_far.count ≡ length h
  pub stamp_is : so_far.stamp ≡ stamp_of h
  pub open_is : so_far.is_open ≡ has_trial h
  pub octets_are : so_far.octets ≡ size_of h

pub record IsWithinLimits (limits : Limits) (so_far : Progress) : Type 0 where
  pub entries_within : so_far.count ≤ limits.entries
  pub octets_within : so_far.octets ≤ limits.octets

-- a trial is open after an entry of this kind
abbrev pub opens : Kind → Bool
opens (kinds.Apply ops) = false
opens (kinds.Trial id ops deadline) = true
opens kinds.Confirm = false
opens kinds.Cancel = false
opens kinds.Expire = false
opens kinds.Restart = false
opens (kinds.Extend deadline) = true

-- a kind fits, whose operations do
abbrev pub is_fit_but_for_ops : ℕ → Kind → Bool
is_fit_but_for_ops stamp (kinds.Apply ops) = true
is_fit_but_for_ops stamp (kinds.Trial id ops deadline) =
    is_fit_id id && is_fit_deadline stamp deadline
is_fit_but_for_ops stamp kinds.Confirm = true
is_fit_but_for_ops stamp kinds.Cancel = true
is_fit_but_for_ops stamp kinds.Expire = true
is_fit_but_for_ops stamp kinds.Restart = true
is_fit_but_for_ops stamp (kinds.Extend deadline) = is_fit_deadline stamp deadline

abbrev pub is_later : ℕ → Entry → Bool
is_later stamp entry =
    nat_lt stamp entry.stamp && nat_le entry.stamp (latest_reading + entry.number)

abbrev pub may_happen : Progress → Entry → Bool
may_happen so_far entry =
    is_later so_far.stamp entry
    && is_author_of entry.kind entry.author
    && happens entry.kind so_far.is_open
    && is_fit_but_for_ops entry.stamp entry.kind

-- what is known with an entry more, whose record has so many octets
abbrev pub with_entry : Progress → Entry → ℕ → Progress
with_entry so_far entry octets = record {
  count = so_far.count + 1;
  stamp = entry.stamp;
  is_open = opens entry.kind;
  octets = so_far.octets + gate_octets + octets;
}

abbrev pub has_so_much_room : Limits → Progress → ℕ → ℕ → Bool
has_so_much_room limits so_far entries octets =
    nat_le (so_far.count + entries) limits.entries && nat_le (so_far.octets + octets) limits.octets

abbrev pub leaves_room : Limits → Progress → Bool
leaves_room limits so_far =
    if so_far.is_open then has_so_much_room limits so_far 1 closing_octets
    else has_so_much_room limits so_far 0 0

-- what is known with the entry, if it may follow
abbrev pub follow : Limits → Progress → Entry → ℕ → Option Progress
follow limits so_far entry octets =
    if nat_lt limits.octets octets then None
    else (
    if may_happen so_far entry && leaves_room limits (with_entry so_far entry octets)
    then Some (with_entry so_far entry octets)
    else None
    )

-- The entry and the rest are what stands in the octets behind an open gate, and this is then known
-- of the history.
pub record Follows (limits : Limits) (so_far : Progress) (octets : List ℕ) (entry : Entry)
    (next : Progress) (rest : List ℕ) (h : List Entry) : Type 0 where
  pub parts : octets ≡ record_of entry ++ rest
  pub is_representable : IsRepresentable entry
  pub is_next : MayFollow limits h entry
  pub stands : Summarizes next (h ++ entry ∷ [])
  pub is_within : IsWithinLimits limits next

-- whichever history was read
abbrev pub IsFollowed : Limits → Progress → List ℕ → Entry → Progress → List ℕ → Type 0
IsFollowed limits so_far octets entry next rest =
    (h : List Entry) → Summarizes so_far h → Follows limits so_far octets entry next rest h

abbrev pub IsFollowedByNone : Limits → Progress → List ℕ → Type 0
IsFollowedByNone limits so_far octets =
    (h : List Entry) → Summarizes so_far h → HasNoNext limits h octets

-- the two limits of a header, behind its mark
abbrev pub limits_octets : Limits → List ℕ
limits_octets limits = to_be_bytes w32 limits.entries ++ to_be_bytes w32 limits.octets

-- no limits in range stand first
abbrev pub HasNoLimits : List ℕ → Type 0
HasNoLimits octets = (limits : Limits) (rest : List ℕ) → AreInRange limits
    → octets ≡ limits_octets limits ++ rest → ⊥

unfoldable pub limits_at : List ℕ → Option (Limits × List ℕ)
limits_at octets = do
  entries ← number_at w32 octets
  octets ← number_at w32 entries.1
  Some (record { entries = entries.0; octets = octets.0 }, octets.1)
