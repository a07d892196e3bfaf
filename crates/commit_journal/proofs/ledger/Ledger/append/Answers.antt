use Rattle.std.proofs.Common.{◌≡◌, ◌+◌, ◌<◌, ◌^◌, [], ◌∷◌, ◌++◌, true, false, Some, inl, inr, length, vec_capacity, refl, ap, ◌∙◌, arith}
use Rattle.commit_journal.proofs.AppendCalls.{fails_at_record, fails_at_gate}
use Rattle.base_kinds.specs.Records.{record_octets}
use Rattle.journal_record.specs.Spelling.{record_of}
use Rattle.commit_journal.specs.Ledgers.{LedgerView}
use Rattle.commit_journal.proofs.Exits.{leaves_now, undoubted, record_small, no_call, next_fits, ends_at_record, ends_at_gate, ends_done}
use Rattle.commit_journal.proofs.Sizes.{legal_size}
use Rattle.commit_journal.proofs.ledger.Ledger.append.Goals as goal

pub returns-in_default-clause-any_moment : goal.returns-in_default-clause-any_moment
returns-in_default-clause-any_moment g c = no_call (g.D.Disk.told) c.self.view_is c.self.invariant _ c.requires.settled c.requires.next

pub returns-in_default-clause-images : goal.returns-in_default-clause-images
returns-in_default-clause-images g c = leaves_now _ _ _ _ _ c.self.invariant

pub overflow_add-self-inside : goal.overflow_add-self-inside
overflow_add-self-inside g c = omega (arith, c.self.invariant.gate_is, legal_size _ _ c.self.invariant.legal)

pub invariant_of-self-in_default-put_synced : goal.invariant_of-self-in_default-put_synced
invariant_of-self-in_default-put_synced g c =
    (ends_at_record (g.D.Disk.told) c.self.view_is c.self.invariant _ c.requires.settled c.requires.next _ (c.deref.ensures.value ∙ c.in-Ok.ensures.ok) _ c.in_default-put_synced.ensures.err).ledger

pub returns-in_default-put_synced-clause-any_moment : goal.returns-in_default-put_synced-clause-any_moment
returns-in_default-put_synced-clause-any_moment g c =
    (ends_at_record (g.D.Disk.told) c.self.view_is c.self.invariant _ c.requires.settled c.requires.next _ (c.deref.ensures.value ∙ c.in-Ok.ensures.ok) _ c.in_default-put_synced.ensures.err).since

pub returns-in_default-put_synced-clause-images : goal.returns-in_default-put_synced-clause-images
returns-in_default-put_synced-clause-images g c = leaves_now _ _ _ _ _ (invariant_of-self-in_default-put_synced g c)

pub invariant_of-self-in_default-put_synced-2 : goal.invariant_of-self-in_default-put_synced-2
invariant_of-self-in_default-put_synced-2 g c =
    (ends_at_gate (g.D.Disk.told) c.self.view_is c.self.invariant _ c.requires.settled c.requires.next _ (c.deref.ensures.value ∙ c.in-Ok.ensures.ok) c.in-Ok.ensures.kept _ _ c.in-Ok-put_synced.ensures.ok _ _ c.of.ensures refl c.in_default-put_synced-2.ensures.err).ledger

pub returns-in_default-put_synced-2-clause-any_moment : goal.returns-in_default-put_synced-2-clause-any_moment
returns-in_default-put_synced-2-clause-any_moment g c =
    (ends_at_gate (g.D.Disk.told) c.self.view_is c.self.invariant _ c.requires.settled c.requires.next _ (c.deref.ensures.value ∙ c.in-Ok.ensures.ok) c.in-Ok.ensures.kept _ _ c.in-Ok-put_synced.ensures.ok _ _ c.of.ensures refl c.in_default-put_synced-2.ensures.err).since

pub returns-in_default-put_synced-2-clause-images : goal.returns-in_default-put_synced-2-clause-images
returns-in_default-put_synced-2-clause-images g c = leaves_now _ _ _ _ _ (invariant_of-self-in_default-put_synced-2 g c)

pub overflow_add-self : goal.overflow_add-self
overflow_add-self g c =
    let piece : c.deref.result.now ≡ record_of c.args.entry.now ++ 0 ∷ [] = c.deref.ensures.value ∙ c.in-Ok.ensures.ok in
    omega (arith, next_fits (g.D.Disk.told) c.self.view_is c.self.invariant _ c.requires.settled c.requires.next _ piece, c.len.ensures, ap length c.deref.ensures.value)

pub invariant_of-self-2 : goal.invariant_of-self-2
invariant_of-self-2 g c =
    (ends_done (g.D.Disk.told) c.self.view_is c.self.invariant _ c.requires.settled c.requires.next _ (c.deref.ensures.value ∙ c.in-Ok.ensures.ok) c.in-Ok.ensures.kept _ _ c.in-Ok-put_synced.ensures.ok _ _ _ _ refl c.remember.ensures (omega (arith, c.len.ensures, ap length c.deref.ensures.value)) refl c.in-Ok-put_synced-2.ensures.ok).ledger

pub returns-clause-any_moment : goal.returns-clause-any_moment
returns-clause-any_moment g c =
    (ends_done (g.D.Disk.told) c.self.view_is c.self.invariant _ c.requires.settled c.requires.next _ (c.deref.ensures.value ∙ c.in-Ok.ensures.ok) c.in-Ok.ensures.kept _ _ c.in-Ok-put_synced.ensures.ok _ _ _ _ refl refl refl refl c.in-Ok-put_synced-2.ensures.ok).since

pub returns-clause-images : goal.returns-clause-images
returns-clause-images g c = leaves_now _ _ _ _ _ (invariant_of-self-2 g c)

pub returns-in_default-clause-within : goal.returns-in_default-clause-within
returns-in_default-clause-within g c =
    let room : vec_capacity c.self.inside.buffer ≡ c.args.self.now.room = ap (λ (v : LedgerView g.row.D.Denot). v.room) c.self.view_is in
    let small : record_octets c.args.entry.now < 2 ^ 32 = record_small (g.D.Disk.told) c.self.view_is c.self.invariant _ c.requires.settled c.requires.next in
    λ enough is. let bad : false ≡ true = c.in_default.ensures.within small (omega (arith, enough, room)) in absurd (cc)

pub returns-clause-calls : goal.returns-clause-calls
returns-clause-calls g c =
    (ends_done (g.D.Disk.told) c.self.view_is c.self.invariant _ c.requires.settled c.requires.next _ (c.deref.ensures.value ∙ c.in-Ok.ensures.ok) c.in-Ok.ensures.kept _ _ c.in-Ok-put_synced.ensures.ok _ _ _ _ refl refl refl refl c.in-Ok-put_synced-2.ensures.ok).moved

pub returns-in_default-put_synced-clause-failed : goal.returns-in_default-put_synced-clause-failed
returns-in_default-put_synced-clause-failed g c = λ is.
    inl (
      undoubted (g.D.Disk.told) c.self.view_is c.self.invariant c.args.entry.now c.requires.settled c.requires.next,
      (ends_at_record (g.D.Disk.told) c.self.view_is c.self.invariant _ c.requires.settled c.requires.next _ (c.deref.ensures.value ∙ c.in-Ok.ensures.ok) _ c.in_default-put_synced.ensures.err).moved,
    )

pub returns-in_default-put_synced-2-clause-failed : goal.returns-in_default-put_synced-2-clause-failed
returns-in_default-put_synced-2-clause-failed g c = λ is.
    inr (
      ap Some c.of.ensures,
      (ends_at_gate (g.D.Disk.told) c.self.view_is c.self.invariant _ c.requires.settled c.requires.next _ (c.deref.ensures.value ∙ c.in-Ok.ensures.ok) c.in-Ok.ensures.kept _ _ c.in-Ok-put_synced.ensures.ok _ _ c.of.ensures refl c.in_default-put_synced-2.ensures.err).moved,
    )

pub returns-in_default-put_synced-clause-failed_call : goal.returns-in_default-put_synced-clause-failed_call
returns-in_default-put_synced-clause-failed_call g c = λ is.
    fails_at_record (g.D.Disk.fuse) c.self.view_is c.args.entry.now _ _ (undoubted (g.D.Disk.told) c.self.view_is c.self.invariant c.args.entry.now c.requires.settled c.requires.next) c.in_default-put_synced.ensures.calls

pub returns-in_default-put_synced-2-clause-failed_call : goal.returns-in_default-put_synced-2-clause-failed_call
returns-in_default-put_synced-2-clause-failed_call g c = λ is.
    fails_at_gate (g.D.Disk.fuse) c.self.view_is c.args.entry.now _ _ _ (ap Some c.of.ensures) c.in-Ok-put_synced.ensures.calls c.in_default-put_synced-2.ensures.calls
