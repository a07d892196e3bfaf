-- The definitions on worked examples.
use Rattle.std.specs.Prelude.{◌≡◌, [], ◌∷◌, ◌++◌, codes, length, refl, true, false}
use Rattle.base_kinds.specs.declared.entry.Entry.{Entry}
use Rattle.base_kinds.specs.declared.entry.Limits.{Limits}
use Rattle.base_kinds.specs.declared.entry.Kind.TheVariants as kinds
use Rattle.base_kinds.specs.worked.Samples.{hostname_entry}
use Rattle.base_kinds.specs.Rules.{size_of}
use Rattle.journal_record.specs.Spelling.{text_spelling, keys_spelling, elem_spelling, path_spelling, row_spelling, rows_spelling, op_spelling, ops_spelling, kind_spelling, record_of}
use Rattle.journal_record.specs.worked.Records.{hostname_record}
use Rattle.journal_format.specs.Gates.{open_gate}
use Rattle.journal_format.specs.Histories.{is_fit_kind, happens, has_trial, has_room}
use Rattle.journal_format.specs.Journal.{header, journal_prefix}

abbrev pub greatest : Limits
greatest = record { entries = 65536; octets = 268435456 }

greatest_header : header greatest ≡ codes "GNMIJRN1" ++ 0 ∷ 1 ∷ 0 ∷ 0 ∷ 16 ∷ 0 ∷ 0 ∷ 0 ∷ []
unfolding header
greatest_header = refl

-- the first gate stands at place 16
pub first_gate : length (journal_prefix greatest []) ≡ 16
unfolding header
first_gate = refl

-- and behind a first Set of `/system/config/hostname` to "r1" stands the next at 126: with it the
-- journal has 127 octets
pub second_gate : length (journal_prefix greatest (hostname_entry ∷ [])) ≡ 126
unfolding header record_of kind_spelling ops_spelling op_spelling rows_spelling row_spelling path_spelling elem_spelling keys_spelling text_spelling
second_gate = refl

whole_size : size_of (hostname_entry ∷ []) ≡ 127
whole_size = refl

pub whole_front : journal_prefix greatest (hostname_entry ∷ [])
    ≡ header greatest ++ open_gate ∷ hostname_record
unfolding record_of kind_spelling ops_spelling op_spelling rows_spelling row_spelling path_spelling elem_spelling keys_spelling text_spelling header
whole_front = refl

hostname_fits : is_fit_kind 1000 hostname_entry.kind ≡ true
hostname_fits = refl

abbrev trial : Entry
trial = record {
  number = 2;
  author = 2;
  stamp = 1001;
  kind = kinds.Trial (codes "t") [] 1000001001;
}

trial_fits : is_fit_kind 1001 trial.kind ≡ true
trial_fits = refl

-- a deadline that is a nanosecond too near, and one too far
too_near : is_fit_kind 1002 trial.kind ≡ false
too_near = refl

too_far : is_fit_kind 1 (kinds.Extend 86400000000002) ≡ false
too_far = refl

no_second_trial : happens trial.kind (has_trial (hostname_entry ∷ trial ∷ [])) ≡ false
no_second_trial = refl

confirmed : happens kinds.Confirm (has_trial (hostname_entry ∷ trial ∷ [])) ≡ true
confirmed = refl

-- the trial fills two of three entries, and a third would close it
room_to_close : has_room (record { entries = 3; octets = 4096 })
    (hostname_entry ∷ trial ∷ []) ≡ true
room_to_close = refl

no_room_to_close : has_room (record { entries = 2; octets = 4096 })
    (hostname_entry ∷ trial ∷ []) ≡ false
no_room_to_close = refl
