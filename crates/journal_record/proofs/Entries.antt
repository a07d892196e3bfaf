-- What is answered of a record, and what no record is.
use Rattle.std.proofs.Common.{◌≡◌, ℕ, List, [], ◌++◌, Option, Some, None, refl, sym, ap, ◌∙◌, arith}
use Rattle.std.proofs.lemmas.List.{append-nil}
use Rattle.base_kinds.specs.declared.entry.Entry.{Entry}
use Rattle.journal_record.specs.Spelling.{record_of}
use Rattle.journal_record.specs.Representable.{HasRecord}
use Rattle.journal_record.specs.inner.Reading.{entry_at}
use Rattle.journal_record.proofs.Forms.{IsBytes, Took, some_is}
use Rattle.journal_record.proofs.Records.{IsFitRepresentable, entry_form}
use Rattle.journal_record.proofs.Lengths.{record_length}

pub entry_took : (number : ℕ) (octets : List ℕ) (entry : Entry) (rest : List ℕ) → IsBytes octets → entry_at number octets ≡ Some (entry, rest) → Took record_of (λ e. IsFitRepresentable number e) octets entry rest
entry_took number octets entry rest bytes e = (entry_form number).takes octets entry rest bytes e

pub entry_again : (number : ℕ) (octets : List ℕ) (entry : Entry) (rest : List ℕ) → HasRecord entry → entry.number ≡ number → octets ≡ record_of entry ++ rest → entry_at number octets ≡ Some (entry, rest)
entry_again number octets entry rest has is parts =
    ap (entry_at number) parts ∙ (entry_form number).again entry rest (record { kept = has.kept; fits = has.fits; number_is = is }) (omega (arith, record_length entry, has.short))

pub one_entry : (number : ℕ) (octets : List ℕ) (e f : Entry) (a b : List ℕ) → entry_at number octets ≡ Some (e, a) → HasRecord f → f.number ≡ number → octets ≡ record_of f ++ b → (f ≡ e) × (b ≡ a)
one_entry number octets e f a b read has is parts =
    let same : ◌≡◌ {A = Entry × List ℕ} (f, b) (e, a) = some_is (f, b) (e, a) (sym (entry_again number octets f b has is parts) ∙ read) in
    (ap (λ (p : Entry × List ℕ). p.0) same, ap (λ (p : Entry × List ℕ). p.1) same)

pub no_entry : (number : ℕ) (octets : List ℕ) (f : Entry) (b : List ℕ) → entry_at number octets ≡ None → HasRecord f → f.number ≡ number → octets ≡ record_of f ++ b → ⊥
no_entry number octets f b read has is parts =
    let same : ◌≡◌ {A = Option (Entry × List ℕ)} (Some (f, b)) None = sym (entry_again number octets f b has is parts) ∙ read in
    cc

-- an entry with another number has the same record
pub renumbered : (number : ℕ) (e : Entry) → HasRecord e → HasRecord (record e { number = number })
renumbered number e has = record { kept = record { author = has.kept.author; stamp = has.kept.stamp; kind = has.kept.kind }; fits = has.fits; short = has.short }

record_of-numbered : (number : ℕ) (e : Entry) → record_of (record e { number = number }) ≡ record_of e
unfolding record_of
record_of-numbered number e = refl

-- octets that begin with records, and are equal, begin with one record
pub alike : (e f : Entry) (a b : List ℕ) → HasRecord e → HasRecord f → record_of e ++ a ≡ record_of f ++ b → (record e { number = f.number } ≡ f) × (a ≡ b)
alike e f a b has_e has_f same =
    let g : Entry = record e { number = f.number } in
    let first : entry_at f.number (record_of e ++ a) ≡ Some (g, a) = entry_again f.number (record_of e ++ a) g a (renumbered f.number e has_e) refl (ap (λ (l : List ℕ). l ++ a) (sym (record_of-numbered f.number e))) in
    let second = one_entry f.number (record_of e ++ a) g f a b first has_f refl same in
    (sym second.0, sym second.1)

pub none_more : (e f : Entry) (more : List ℕ) → HasRecord e → HasRecord f → record_of e ++ more ≡ record_of f → more ≡ []
none_more e f more has_e has_f same = (alike e f more [] has_e has_f (same ∙ sym (append-nil (record_of f)))).1
