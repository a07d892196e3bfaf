-- What the calls of a ledger write, in their order. Each write is followed by a sync, and between
-- the two, as after a write that fails, a stop may leave any octets where the write went.
use Rattle.std.specs.Prelude.{◌≡◌, ℕ, ◌+◌, List, [], ◌∷◌, ◌++◌, length}
use Rattle.base_kinds.specs.declared.entry.Entry.{Entry}
use Rattle.base_kinds.specs.declared.entry.Limits.{Limits}
use Rattle.disk_model.specs.Content.{Content, Changes}
use Rattle.disk_model.specs.Images.{mask_after_write}
use Rattle.disk_model.specs.Moments.{PutSynced}
use Rattle.journal_record.specs.Spelling.{record_of}
use Rattle.journal_format.specs.Gates.{open_gate, closed_gate}
use Rattle.journal_format.specs.Journal.{journal_prefix, header}

-- the place of the closed gate behind a history
abbrev pub gate_place : Limits → List Entry → ℕ
gate_place limits h = length (journal_prefix limits h)

-- what an append writes behind the closed gate: the entry's record, and another closed gate
abbrev pub record_and_gate : Entry → List ℕ
record_and_gate entry = record_of entry ++ closed_gate ∷ []

-- what is written where there was nothing: the header and a closed gate
abbrev pub first_octets : Limits → List ℕ
first_octets limits = header limits ++ closed_gate ∷ []

-- the gate's octet is written and synced
abbrev pub PutsGate : Limits → List Entry → ℕ → Content → Content → Type 0
PutsGate limits h gate old new = PutSynced (gate_place limits h) (gate ∷ []) old new

-- a write of the gate's octet, or its sync, fails
abbrev pub FailsAtGate : Limits → List Entry → Content → Content → Type 0
FailsAtGate limits h old new = Changes (mask_after_write (gate_place limits h) 1 old.mask) old new

-- the entry's record and a closed gate are written just past the gate, and synced
abbrev pub PutsRecord : Limits → List Entry → Entry → Content → Content → Type 0
PutsRecord limits h entry old new =
    PutSynced (gate_place limits h + 1) (record_and_gate entry) old new

-- that write, or its sync, fails
abbrev pub FailsAtRecord : Limits → List Entry → Entry → Content → Content → Type 0
FailsAtRecord limits h entry old new =
    Changes (mask_after_write (gate_place limits h + 1) (length (record_and_gate entry))
    old.mask) old new

module _ (limits : Limits) (h : List Entry) (entry : Entry) where
  -- an append: the record, and then the open gate
  pub record Appends (old new : Content) : Type 0 where
    pub between : Content
    pub record_put : PutsRecord limits h entry old between
    pub gate_put : PutsGate limits h open_gate between new

  -- an append that fails after the record
  pub record AppendsInDoubt (old new : Content) : Type 0 where
    pub between : Content
    pub record_put : PutsRecord limits h entry old between
    pub gate_failed : FailsAtGate limits h between new

pub record Creates (limits : Limits) (old new : Content) : Type 0 where
  pub was_empty : old.seen ≡ []
  pub put : PutSynced 0 (first_octets limits) old new

pub record CreateFails (limits : Limits) (old new : Content) : Type 0 where
  pub was_empty : old.seen ≡ []
  pub failed : Changes (mask_after_write 0 (length (first_octets limits)) old.mask) old new
