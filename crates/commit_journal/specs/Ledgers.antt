-- A ledger as its callers see it, and how an append fails.
use Rattle.std.specs.Prelude.{◌≡◌, ◌⊎◌, ℕ, ◌<◌, ◌≤◌, List, Option, Some, None, refl}
use Rattle.std.specs.Coded.{Coded, code_by, coded×}
use Rattle.base_kinds.specs.declared.entry.Entry.{Entry}
use Rattle.base_kinds.specs.declared.entry.Limits.{Limits}
use Rattle.disk_model.specs.Calls.{Fuse, CallsFailed}
use Rattle.disk_model.specs.Content.{Content, WhereTold}
use Rattle.commit_journal.specs.Writes.{FailsAtRecord, AppendsInDoubt}

pub record LedgerView (D : Type 0) : Type 0 where
  pub disk : D
  pub limits : Limits
  pub history : List Entry
  -- the entry of an append that failed, where it isn't settled whether it stands behind the history
  pub doubt : Option Entry
  -- how many octets there is memory for: a record, and the gate behind it
  pub room : ℕ

-- An append met a fault of the disk: at the record, and nothing is in doubt, or at the gate, and
-- the entry is.
abbrev pub FailedAppend : Limits → List Entry → Entry → Option Entry
    → Option Content → Option Content → Type 0
FailedAppend limits h entry doubt old new =
    ((doubt ≡ None) × WhereTold old new (FailsAtRecord limits h entry))
    ⊎ ((doubt ≡ Some entry) × WhereTold old new (AppendsInDoubt limits h entry))

-- What an append leaves in doubt whose call of this number failed, counted from 0. The first two are
-- for the record, and leave nothing in doubt; the two for the gate leave the entry.
abbrev pub IsDoubtAt : ℕ → Entry → Option Entry → Type 0
IsDoubtAt call entry doubt =
    ((call < 2) × (doubt ≡ None)) ⊎ ((2 ≤ call) × (doubt ≡ Some entry))

-- of the four calls of an append one failed, and which one decides what is in doubt
pub record FailsAppending (entry : Entry) (doubt : Option Entry) (old new : Fuse) : Type 0 where
  pub call : ℕ
  pub within : call < 4
  pub failed : CallsFailed call old new
  pub doubt_is : IsDoubtAt call entry doubt

-- how a view is kept as its parts, as the toolchain asks of the value of a model
abbrev Parts : Type 0 → Type 0
Parts D = D × (Limits × (List Entry × (Option Entry × ℕ)))

module _ {D : Type 0} where
  abbrev parts_of : LedgerView D → Parts D
  parts_of v = (v.disk, (v.limits, (v.history, (v.doubt, v.room))))

  abbrev view_of : Parts D → LedgerView D
  view_of p = record {
    disk = p.0;
    limits = p.1.0;
    history = p.1.1.0;
    doubt = p.1.1.1.0;
    room = p.1.1.1.1;
  }

  abbrev pub view_code : Coded D → Coded (Limits × (List Entry × (Option Entry × ℕ)))
      → Coded (LedgerView D)
  view_code disk parts =
      code_by (Parts D) (coded× disk parts) (λ v. parts_of v) (λ p. view_of p) (λ _. refl)
