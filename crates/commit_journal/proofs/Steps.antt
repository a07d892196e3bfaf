-- What each write of a ledger does to what the disk has.
use Rattle.std.proofs.Common.{◌≡◌, ◌≢◌, ℕ, zero, suc, ◌+◌, List, [], ◌∷◌, ◌++◌, length, drop, map, Option, Some, None, refl, sym, ap, ◌∙◌, subst, arith, append_assoc, length-append}
use Rattle.std.proofs.lemmas.List.{map-append}
use Rattle.base_kinds.specs.declared.entry.Entry.{Entry}
use Rattle.base_kinds.specs.declared.entry.Limits.{Limits}
use Rattle.disk_model.specs.Content.{Content, Changes, Wrote}
use Rattle.disk_model.specs.Images.{IsImage, mask_after_sync, mask_after_write}
use Rattle.disk_model.specs.Moments.{PutSynced}
use Rattle.disk_model.proofs.Masks.{image_split, touched_behind, wrote_behind}
use Rattle.journal_record.specs.Spelling.{record_of}
use Rattle.journal_format.specs.Journal.{journal_prefix}
use Rattle.commit_journal.specs.inner.Masks.{IsSettled, IsInDoubt, Holds}
use Rattle.commit_journal.specs.Writes.{PutsRecord, PutsGate, FailsAtGate}
use Rattle.commit_journal.proofs.Histories.{front_more}
use Rattle.commit_journal.proofs.Images.{holds_by}

-- the entry's record stands behind the closed gate, and all outlives a stop
pub record IsStaged (limits : Limits) (h : List Entry) (entry : Entry) (content : Content) : Type 0 where
  pub gate : ℕ
  pub rest : List ℕ
  pub is_closed : gate ≢ 165
  pub parts : content.seen ≡ journal_prefix limits h ++ gate ∷ ((record_of entry ++ 0 ∷ []) ++ rest)
  pub kept : content.mask ≡ mask_after_sync content.seen

none_touched : (mask : List (Option ℕ)) → mask_after_write 0 0 mask ≡ mask
none_touched [] = refl
none_touched (k ∷ mask) = refl

module _ (limits : Limits) (h : List Entry) where
  head_length : (gate : ℕ) → length (journal_prefix limits h) + 1 ≡ length (journal_prefix limits h ++ gate ∷ []) + 0
  head_length gate = omega (arith, length-append (journal_prefix limits h) (gate ∷ []))

  -- a write behind the closed gate leaves all up to it
  pub touched_settled : (n : ℕ) (mask : List (Option ℕ)) → IsSettled (journal_prefix limits h) mask → IsSettled (journal_prefix limits h) (mask_after_write (length (journal_prefix limits h) + 1) n mask)
  touched_settled n mask settled = record {
    gate = settled.gate;
    rest = mask_after_write 0 n settled.rest;
    is_closed = settled.is_closed;
    parts = ap (λ m. mask_after_write (length (journal_prefix limits h) + 1) n m) settled.parts ∙ touched_behind (journal_prefix limits h ++ settled.gate ∷ []) settled.rest (length (journal_prefix limits h) + 1) 0 n (head_length settled.gate);
  }

  pub changed_settled : (n : ℕ) (old new : Content) → Holds limits h None old → Changes (mask_after_write (length (journal_prefix limits h) + 1) n old.mask) old new → Holds limits h None new
  changed_settled n old new holds changes = record {
    keeps = subst (λ m. IsSettled (journal_prefix limits h) m) (sym changes.mask_is) (touched_settled n old.mask holds.keeps);
    seen = subst (λ m. IsImage m new.seen) (sym changes.mask_is) changes.seen;
  }

  pub staged : (entry : Entry) (old new : Content) → Holds limits h None old → PutsRecord limits h entry old new → IsStaged limits h entry new
  staged entry old new holds put =
      let settled = holds.keeps in
      let head = journal_prefix limits h ++ settled.gate ∷ [] in
      let piece = record_of entry ++ 0 ∷ [] in
      let place = length (journal_prefix limits h) + 1 in
      let here : place ≡ length head = omega (arith, head_length settled.gate) in
      let parts = image_split head settled.rest old.seen (subst (λ m. IsImage m old.seen) settled.parts holds.seen) in
      let wrote = wrote_behind head parts.0 piece new.seen place here (subst (λ s. Wrote place piece s new.seen) parts.1 put.wrote) in
      record {
        gate = settled.gate;
        rest = drop (length piece) parts.0;
        is_closed = settled.is_closed;
        parts = wrote ∙ append_assoc (journal_prefix limits h) (settled.gate ∷ []) (piece ++ drop (length piece) parts.0);
        kept = put.mask_is;
      }

  pub staged_settled : (entry : Entry) (content : Content) → IsStaged limits h entry content → Holds limits h None content
  staged_settled entry content stage = holds_by limits h content stage.gate ((record_of entry ++ 0 ∷ []) ++ stage.rest) stage.parts stage.is_closed stage.kept

  -- a write over the gate leaves all but it
  pub touched_staged : (entry : Entry) (content : Content) → IsStaged limits h entry content → IsInDoubt (journal_prefix limits h) entry (mask_after_write (length (journal_prefix limits h)) 1 content.mask)
  touched_staged entry content stage =
      let head = journal_prefix limits h in
      let place = length head in
      let piece = record_of entry ++ 0 ∷ [] in
      let here : place ≡ length head + 0 = omega arith in
      let split : content.mask ≡ mask_after_sync head ++ mask_after_sync (stage.gate ∷ (piece ++ stage.rest)) = stage.kept ∙ ap mask_after_sync stage.parts ∙ map-append Some head (stage.gate ∷ (piece ++ stage.rest)) in
      record {
        rest = mask_after_sync stage.rest;
        parts = ap (λ m. mask_after_write place 1 m) split
            ∙ touched_behind head (mask_after_sync (stage.gate ∷ (piece ++ stage.rest))) place 0 1 here
            ∙ ap (λ m. mask_after_sync head ++ None ∷ m) (none_touched (mask_after_sync (piece ++ stage.rest)) ∙ map-append Some piece stage.rest);
      }

  pub touched_doubt : (entry : Entry) (mask : List (Option ℕ)) → IsInDoubt (journal_prefix limits h) entry mask → IsInDoubt (journal_prefix limits h) entry (mask_after_write (length (journal_prefix limits h)) 1 mask)
  touched_doubt entry mask doubt =
      let head = journal_prefix limits h in
      let place = length head in
      let behind = mask_after_sync (record_of entry ++ 0 ∷ []) ++ doubt.rest in
      let here : place ≡ length head + 0 = omega arith in
      record {
        rest = doubt.rest;
        parts = ap (λ m. mask_after_write place 1 m) doubt.parts ∙ touched_behind head (None ∷ behind) place 0 1 here ∙ ap (λ m. mask_after_sync head ++ None ∷ m) (none_touched behind);
      }

  pub changed_doubt : (entry : Entry) (old new : Content) → IsInDoubt (journal_prefix limits h) entry (mask_after_write (length (journal_prefix limits h)) 1 old.mask) → FailsAtGate limits h old new → Holds limits h (Some entry) new
  changed_doubt entry old new doubt changes = record {
    keeps = subst (λ m. IsInDoubt (journal_prefix limits h) entry m) (sym changes.mask_is) doubt;
    seen = subst (λ m. IsImage m new.seen) (sym changes.mask_is) changes.seen;
  }

  pub opened : (entry : Entry) (old new : Content) → IsStaged limits h entry old → PutsGate limits h 165 old new → Holds limits (h ++ entry ∷ []) None new
  opened entry old new stage put =
      let head = journal_prefix limits h in
      let place = length head in
      let rest = (record_of entry ++ 0 ∷ []) ++ stage.rest in
      let wrote : new.seen ≡ head ++ 165 ∷ rest = wrote_behind head (stage.gate ∷ rest) (165 ∷ []) new.seen place refl (subst (λ s. Wrote place (165 ∷ []) s new.seen) stage.parts put.wrote) in
      let whole : new.seen ≡ journal_prefix limits (h ++ entry ∷ []) ++ 0 ∷ stage.rest = wrote ∙ ap (λ l. head ++ 165 ∷ l) (append_assoc (record_of entry) (0 ∷ []) stage.rest) ∙ sym (front_more limits h entry (0 ∷ stage.rest)) in
      holds_by limits (h ++ entry ∷ []) new 0 stage.rest whole (omega arith) put.mask_is

  pub closed : (entry : Entry) (old new : Content) → Holds limits h (Some entry) old → PutsGate limits h 0 old new → Holds limits h None new
  closed entry old new holds put =
      let head = journal_prefix limits h in
      let place = length head in
      let doubt = holds.keeps in
      let parts = image_split head (None ∷ (mask_after_sync (record_of entry ++ 0 ∷ []) ++ doubt.rest)) old.seen (subst (λ m. IsImage m old.seen) doubt.parts holds.seen) in
      let wrote : new.seen ≡ head ++ 0 ∷ drop 1 parts.0 = wrote_behind head parts.0 (0 ∷ []) new.seen place refl (subst (λ s. Wrote place (0 ∷ []) s new.seen) parts.1 put.wrote) in
      holds_by limits h new 0 (drop 1 parts.0) wrote (omega arith) put.mask_is
