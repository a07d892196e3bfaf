-- What the types of an entry can hold: numbers have so many bits, and texts are UTF-8 (RFC 3629). A
-- definition's numbers have no bound of their own, so what is said of all entries is said of these.
use Rattle.std.specs.Prelude.{ℕ, ◌^◌, ◌<◌, List, ◌≡◌, ◌++◌, IsUtf8}
use Rattle.std.specs.List.{AllByRecursion}
use Rattle.std.specs.Int.{w64}
use Rattle.std.specs.Prelude.{FitsSigned}
use Rattle.base_kinds.specs.declared.path.Elem.{Elem}
use Rattle.base_kinds.specs.declared.operation.Row.{Row}
use Rattle.base_kinds.specs.declared.operation.Op.{Op}
use Rattle.base_kinds.specs.declared.entry.Entry.{Entry}
use Rattle.base_kinds.specs.declared.entry.Kind.{Kind}
use Rattle.base_kinds.specs.declared.entry.Kind.TheVariants as kinds
use Rattle.base_kinds.specs.declared.value.Value.{Value, Row_of-Value, end_of-Value, more_of-Value}
use Rattle.base_kinds.specs.declared.value.Value as v
use Rattle.base_kinds.specs.Legal.{AreFitOps}
use Rattle.base_kinds.specs.Records.{record_octets}
use Rattle.journal_record.specs.Spelling.{ops_of, record_of}

abbrev pub IsRepresentableText : List ℕ → Type 0
IsRepresentableText octets = IsUtf8 octets

abbrev pub AreOctets : List ℕ → Type 0
AreOctets octets = AllByRecursion (λ octet. octet < 256) octets

pub record IsRepresentableKey (key : List ℕ × List ℕ) : Type 0 where
  pub name : IsRepresentableText key.0
  pub value : IsRepresentableText key.1

pub record IsRepresentableElem (elem : Elem) : Type 0 where
  pub name : IsRepresentableText elem.name
  pub keys : AllByRecursion IsRepresentableKey elem.keys

abbrev pub IsRepresentablePath : List Elem → Type 0
IsRepresentablePath path = AllByRecursion IsRepresentableElem path

abbrev mutual
  pub IsRepresentableValue : Value → Type 0
  IsRepresentableValue (v.Bool b) = Unit {0}
  IsRepresentableValue (v.Int number) = FitsSigned w64 number
  IsRepresentableValue (v.Uint number) = number < 2 ^ 64
  IsRepresentableValue (v.Dec digits places) = FitsSigned w64 digits × (places < 2 ^ 8)
  IsRepresentableValue (v.Text octets) = IsRepresentableText octets
  IsRepresentableValue (v.Bin octets) = AreOctets octets
  IsRepresentableValue (v.Enum octets) = IsRepresentableText octets
  IsRepresentableValue (v.List' n inner) = AreRepresentableValues inner

  pub AreRepresentableValues : {n : _} → Row_of-Value n → Type 0
  AreRepresentableValues end_of-Value = Unit {0}
  AreRepresentableValues (more_of-Value first others) =
      IsRepresentableValue first × AreRepresentableValues others

pub record IsRepresentableRow (row : Row) : Type 0 where
  pub path : IsRepresentablePath row.path
  pub value : IsRepresentableValue row.value

pub record IsRepresentableOp (op : Op) : Type 0 where
  pub path : IsRepresentablePath op.path
  pub rows : AllByRecursion IsRepresentableRow op.rows

abbrev pub AreRepresentableOps : List Op → Type 0
AreRepresentableOps ops = AllByRecursion IsRepresentableOp ops

pub record IsRepresentableTrial (id : List ℕ) (ops : List Op) (deadline : ℕ) : Type 0 where
  pub id_kept : IsRepresentableText id
  pub ops_kept : AreRepresentableOps ops
  pub deadline_kept : deadline < 2 ^ 64

abbrev pub IsRepresentableKind : Kind → Type 0
IsRepresentableKind (kinds.Apply ops) = AreRepresentableOps ops
IsRepresentableKind (kinds.Trial id ops deadline) = IsRepresentableTrial id ops deadline
IsRepresentableKind kinds.Confirm = Unit {0}
IsRepresentableKind kinds.Cancel = Unit {0}
IsRepresentableKind kinds.Expire = Unit {0}
IsRepresentableKind kinds.Restart = Unit {0}
IsRepresentableKind (kinds.Extend deadline) = deadline < 2 ^ 64

pub record IsRepresentable (entry : Entry) : Type 0 where
  pub author : entry.author < 2 ^ 32
  pub stamp : entry.stamp < 2 ^ 64
  pub kind : IsRepresentableKind entry.kind

-- An entry whose record can be read again: its operations fit, and the record has fewer than 2 ^ 32
-- octets.
pub record HasRecord (entry : Entry) : Type 0 where
  pub kept : IsRepresentable entry
  pub fits : AreFitOps (ops_of entry.kind)
  pub short : record_octets entry < 2 ^ 32

-- the octets are the record of this entry, which has this number and fits, and the rest
pub record IsReadAs (number : ℕ) (octets : List ℕ) (entry : Entry) (rest : List ℕ) : Type 0 where
  pub parts : octets ≡ record_of entry ++ rest
  pub numbered : entry.number ≡ number
  pub is_representable : IsRepresentable entry
  pub ops_fit : AreFitOps (ops_of entry.kind)
