-- Ledgers on disks that were synced and read, or written anew.
use Rattle.std.proofs.Common.{◌≡◌, ◌≢◌, ◌⊎◌, inl, inr, ℕ, List, [], ◌∷◌, ◌++◌, length, drop, Option, Some, None, Err, refl, sym, ap, ◌∙◌, subst, arith, append_assoc}
use Rattle.std.proofs.lemmas.List.{append-nil, nil_from_length}
use Rattle.base_kinds.specs.declared.entry.Entry.{Entry}
use Rattle.base_kinds.specs.declared.entry.Limits.{Limits}
use Rattle.base_kinds.specs.Limits.{AreInRange}
use Rattle.disk_model.specs.Content.{Content, WhereTold, Tells, Changes, Wrote}
use Rattle.disk_model.specs.Images.{IsImage, mask_after_sync}
use Rattle.disk_model.specs.Moments.{PutSynced, Leaves, LeavesNow}
use Rattle.disk_model.proofs.Masks.{image_split, wrote_behind}
use Rattle.disk_model.proofs.Moving.{moved_tells}
use Rattle.journal_format.specs.Answers.{GivesJournal, GivesDamage}
use Rattle.journal_format.specs.declared.journal.JournalFault.{JournalFault}
use Rattle.journal_format.specs.declared.journal.JournalFault.TheVariants as faults
use Rattle.journal_format.specs.Histories.{IsJournalHistory}
use Rattle.journal_format.specs.Journal.{journal_prefix, header, IsJournal, IsDamaged, AreRepresentable}
use Rattle.commit_journal.specs.Images.{IsJournalOr}
use Rattle.commit_journal.specs.inner.Masks.{Holds}
use Rattle.commit_journal.specs.Ledgers.{LedgerView}
use Rattle.commit_journal.specs.inner.Invariant.{IsLedger}
use Rattle.commit_journal.specs.Openings.{IsSynced, IsReady, IsFoundDamaged, Opens, FindsJournal, FindsDamage, FindsAll}
use Rattle.commit_journal.specs.inner.Openings.{HasSynced, IsReadyOn, OpensOn}
use Rattle.commit_journal.specs.Writes.{Creates, first_octets}
use Rattle.commit_journal.specs.declared.opening.Opening.{Opening}
use Rattle.commit_journal.specs.declared.opening.Opening.TheVariants.{Ready, Damaged, DiskFault, NoMemory}
use Rattle.commit_journal.proofs.Images.{holds_by, settled_image}

journal_holds : (limits : Limits) (h : List Entry) (octets : List ℕ) (content : Content) → HasSynced octets content → IsJournal octets limits h → Holds limits h None content
journal_holds limits h octets content has journal = holds_by limits h content journal.gate journal.rest (sym has.seen ∙ journal.parts) journal.is_closed has.kept

pub opened_holds : (told : Option Content) (limits : Limits) (h : List Entry) (octets : List ℕ) → Tells told (HasSynced octets) → IsJournal octets limits h → Tells told (Holds limits h None)
opened_holds None limits h octets has journal = tt
opened_holds (Some content) limits h octets has journal = journal_holds limits h octets content has journal

pub opened_is : (told : Option Content) (gate : ℕ) (limits : Limits) (h kept : List Entry) (octets : List ℕ) → Tells told (HasSynced octets) → IsJournal octets limits h → gate ≡ length (journal_prefix limits h) → kept ≡ h → IsLedger told gate limits kept None
opened_is told gate limits h kept octets has journal gate_is is =
    subst (λ l. IsLedger told gate limits l None) (sym is) record { gate_is = gate_is; legal = journal.legal; kept = journal.kept; follows = tt; content = opened_holds told limits h octets has journal }

pub opened_leaves : (told : Option Content) (limits : Limits) (h : List Entry) (octets : List ℕ) → Tells told (HasSynced octets) → IsJournal octets limits h → LeavesNow (λ o. IsJournal o limits h) told
opened_leaves None limits h octets has journal = tt
opened_leaves (Some content) limits h octets has journal = λ image is. settled_image limits h journal.legal journal.kept content.mask image (journal_holds limits h octets content has journal).keeps is

-- what was read after a sync
pub read_has : (old mid new : Option Content) (octets : List ℕ) → WhereTold old mid (λ o m. Changes (mask_after_sync o.seen) o m) → WhereTold old mid (λ o m. m.seen ≡ o.seen) → new ≡ mid → Tells mid (λ c. octets ≡ c.seen) → Tells new (HasSynced octets)
read_has old mid new octets changes same is read = subst (λ t. Tells t (HasSynced octets)) (sym is) (has old mid changes same read)
  where
    has : (old mid : Option Content) → WhereTold old mid (λ o m. Changes (mask_after_sync o.seen) o m) → WhereTold old mid (λ o m. m.seen ≡ o.seen) → Tells mid (λ c. octets ≡ c.seen) → Tells mid (HasSynced octets)
    has None None changes same read = tt
    has None (Some m) changes same read = absurd changes
    has (Some o) None changes same read = tt
    has (Some o) (Some m) changes same read = record { seen = read; kept = changes.mask_is ∙ ap mask_after_sync (sym same) }

pub sync_alone : (old mid new : Option Content) → WhereTold old mid (λ o m. Changes (mask_after_sync o.seen) o m) → WhereTold old mid (λ o m. m.seen ≡ o.seen) → new ≡ mid → WhereTold old new IsSynced
sync_alone old mid new changes same is = subst (λ t. WhereTold old t IsSynced) (sym is) (alone old mid changes same)
  where
    alone : (old mid : Option Content) → WhereTold old mid (λ o m. Changes (mask_after_sync o.seen) o m) → WhereTold old mid (λ o m. m.seen ≡ o.seen) → WhereTold old mid IsSynced
    alone None None changes same = tt
    alone None (Some m) changes same = absurd changes
    alone (Some o) None changes same = absurd changes
    alone (Some o) (Some m) changes same = record { changes = changes; seen = same }

-- a fact of the octets that were read is one of those before the sync
seen_before : (P : List ℕ → Type 0) (old new : Option Content) (octets : List ℕ) → WhereTold old new IsSynced → Tells new (HasSynced octets) → P octets → Tells old (λ c. P c.seen)
seen_before P None new octets mask_after_sync has fact = tt
seen_before P (Some o) None octets mask_after_sync has fact = absurd mask_after_sync
seen_before P (Some o) (Some n) octets mask_after_sync has fact = subst P (has.seen ∙ mask_after_sync.seen) fact

pub opens_on : {D : Type 0} (told : D → Option Content) (faults : D → ℕ) (disk now : D) (octets : List ℕ) (opening : Opening D) → WhereTold (told disk) (told now) IsSynced → faults now ≡ faults disk → Tells (told now) (HasSynced octets) → OpensOn told now octets opening → Opens told faults disk opening
opens_on {D} told faults disk now octets (Ready ledger entries) mask_after_sync quiet has on = record {
  was_synced = subst (λ d. WhereTold (told disk) (told d) IsSynced) (sym on.disk_is) mask_after_sync;
  quiet = ap faults on.disk_is ∙ quiet;
  history_is = on.history_is;
  no_doubt = on.no_doubt;
  legal = on.journal.legal;
  journal = seen_before (λ o. IsJournal o ledger.limits entries) (told disk) (told now) octets mask_after_sync has on.journal;
  images = subst (λ d. LeavesNow (λ o. IsJournal o ledger.limits entries) (told d)) (sym on.disk_is) on.images;
}
opens_on {D} told faults disk now octets (Damaged place left) mask_after_sync quiet has on = record {
  was_synced = subst (λ d. WhereTold (told disk) (told d) IsSynced) (sym on.0) mask_after_sync;
  quiet = ap faults on.0 ∙ quiet;
  damaged = seen_before (λ o. IsDamaged o place) (told disk) (told now) octets mask_after_sync has on.1;
}
opens_on {D} told faults disk now octets (DiskFault left) mask_after_sync quiet has on = absurd on
opens_on {D} told faults disk now octets (NoMemory left) mask_after_sync quiet has on = (subst (λ d. WhereTold (told disk) (told d) IsSynced) (sym on) mask_after_sync, ap faults on ∙ quiet)

pub finds_on : {D : Type 0} (old new : Option Content) (octets : List ℕ) (opening : Opening D) → WhereTold old new IsSynced → Tells new (HasSynced octets) → FindsAll octets opening → Tells old (λ c. FindsAll c.seen opening)
finds_on old new octets opening mask_after_sync has finds = seen_before (λ o. FindsAll o opening) old new octets mask_after_sync has finds

pub found_damage : {D : Type 0} (octets : List ℕ) (fault : JournalFault) (place value : ℕ) (left : D) → fault ≡ faults.Damaged place → value ≡ place → ((limits : Limits) (h : List Entry) → IsJournal octets limits h → GivesJournal limits h (Err fault)) → ((other : ℕ) → IsDamaged octets other → GivesDamage other (Err fault)) → FindsAll octets (Damaged value left)
found_damage octets fault place value left is value_is journal damage = record {
  journal = λ limits h stands. subst (λ f. GivesJournal limits h (Err f)) is (journal limits h stands);
  damage = λ other stands. value_is ∙ subst (λ f. GivesDamage other (Err f)) is (damage other stands);
}

-- a failure or want of memory finds nothing
pub nothing_found : {D : Type 0} (left : D) (told : Option Content) → Tells told (λ c. FindsAll c.seen (DiskFault left))
nothing_found left None = tt
nothing_found left (Some content) = record { journal = λ limits h is. tt; damage = λ place is. tt }

pub nothing_found_yet : {D : Type 0} (left : D) (told : Option Content) → Tells told (λ c. FindsAll c.seen (NoMemory left))
nothing_found_yet left None = tt
nothing_found_yet left (Some content) = record { journal = λ limits h is. tt; damage = λ place is. tt }

-- the first octets of a disk are the journal without entries
created_holds : (limits : Limits) (old new : Content) → Creates limits old new → Holds limits [] None new
created_holds limits old new creates =
    let wrote : new.seen ≡ first_octets limits ++ drop (length (first_octets limits)) [] = wrote_behind [] [] (first_octets limits) new.seen 0 refl (subst (λ s. Wrote 0 (first_octets limits) s new.seen) creates.was_empty creates.put.wrote) in
    let whole : new.seen ≡ journal_prefix limits [] ++ 0 ∷ drop (length (first_octets limits)) [] =
    wrote ∙ append_assoc (header limits) (0 ∷ []) (drop (length (first_octets limits)) []) ∙ ap (λ l. l ++ 0 ∷ drop (length (first_octets limits)) []) (sym (append-nil (header limits))) in
    holds_by limits [] new 0 (drop (length (first_octets limits)) []) whole (omega arith) creates.put.mask_is

pub created_leaves : (limits : Limits) (old new : Option Content) → AreInRange limits → WhereTold old new (Creates limits) → LeavesNow (λ octets. IsJournal octets limits []) new
created_leaves limits None None range moved = tt
created_leaves limits None (Some n) range moved = absurd moved
created_leaves limits (Some o) None range moved = tt
created_leaves limits (Some o) (Some n) range moved = λ octets image. settled_image limits [] record { in_range = range; in_turn = tt } tt n.mask octets (created_holds limits o n moved).keeps image

pub created_by : (limits : Limits) (size : ℕ) (piece : List ℕ) (old mid new : Option Content) → mid ≡ old → Tells old (λ c. size ≡ length c.seen) → size ≡ 0 → piece ≡ first_octets limits → WhereTold mid new (PutSynced 0 piece) → WhereTold old new (Creates limits)
created_by limits size piece old mid new is long none octets moved = by old new long (subst (λ t. WhereTold t new (PutSynced 0 piece)) is moved)
  where
    by : (old new : Option Content) → Tells old (λ c. size ≡ length c.seen) → WhereTold old new (PutSynced 0 piece) → WhereTold old new (Creates limits)
    by None None long moved = tt
    by None (Some n) long moved = absurd moved
    by (Some o) None long moved = absurd moved
    by (Some o) (Some n) long moved = record { was_empty = nil_from_length o.seen (sym long ∙ none); put = subst (λ p. PutSynced 0 p o n) octets moved }
