-- What the public reader says, by what reading gives.
use Rattle.std.proofs.Common.{◌≡◌, ℕ, List, ◌++◌, Result, Ok, Err}
use Rattle.std.specs.Prelude.{IfOk, IsErrOf}
use denote.Bor.{Bor}
use Rattle.base_kinds.specs.declared.entry.Entry.{Entry}
use Rattle.journal_record.specs.declared.fault.RecordFault.{RecordFault}
use Rattle.journal_record.specs.declared.fault.RecordFault.TheVariants as faults
use Rattle.journal_record.specs.Spelling.{record_of}
use Rattle.journal_record.specs.Representable.{HasRecord, IsReadAs}
use Rattle.journal_record.specs.inner.Reading.{AnswersPart, entry_at}
use Rattle.journal_record.proofs.Forms.{IsBytes}
use Rattle.journal_record.proofs.Entries.{entry_took, one_entry, no_entry}

abbrev Given : ℕ → List ℕ → Result (Entry × Bor (List ℕ)) RecordFault → Type 0
Given number octets r = AnswersPart (λ x. (x.0, x.1.now)) r (entry_at number octets)

pub is_found : (number : ℕ) (octets : List ℕ) (r : Result (Entry × Bor (List ℕ)) RecordFault) → IsBytes octets → Given number octets r → IfOk r (λ x. IsReadAs number octets x.0 x.1.now)
is_found number octets (Ok x) bytes given =
    let t = entry_took number octets x.0 x.1.now bytes given in
    record { parts = t.parts; numbered = t.is.number_is; is_representable = t.is.kept; ops_fit = t.is.fits }
is_found number octets (Err e) bytes given = tt

pub is_only : (number : ℕ) (octets : List ℕ) (r : Result (Entry × Bor (List ℕ)) RecordFault) → Given number octets r
    → IfOk r (λ x. (entry : Entry) (rest : List ℕ) → HasRecord entry → entry.number ≡ number → octets ≡ record_of entry ++ rest → (entry ≡ x.0) × (rest ≡ x.1.now))
is_only number octets (Ok x) given = λ entry rest has is parts. one_entry number octets x.0 entry x.1.now rest given has is parts
is_only number octets (Err e) given = tt

pub is_none : (number : ℕ) (octets : List ℕ) (r : Result (Entry × Bor (List ℕ)) RecordFault) → Given number octets r
    → IsErrOf r faults.NoRecord → (entry : Entry) (rest : List ℕ) → HasRecord entry → entry.number ≡ number → octets ≡ record_of entry ++ rest → ⊥
is_none number octets (Err faults.NoRecord) given is entry rest has same parts = no_entry number octets entry rest given has same parts
is_none number octets (Err faults.NoMemory) given is entry rest has same parts = cc
is_none number octets (Ok x) given is entry rest has same parts = cc
