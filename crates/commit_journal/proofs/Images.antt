-- Which octets are images of what a ledger leaves.
use Rattle.std.proofs.Common.{◌≡◌, ◌≢◌, ◌⊎◌, inl, inr, ℕ, List, [], ◌∷◌, ◌++◌, length, Option, Some, None, sym, ap, ◌∙◌, subst, arith, append_assoc}
use Rattle.std.proofs.lemmas.Bool.{cases_eq}
use Rattle.std.proofs.lemmas.List.{map-append}
use Rattle.base_kinds.specs.declared.entry.Entry.{Entry}
use Rattle.base_kinds.specs.declared.entry.Limits.{Limits}
use Rattle.disk_model.specs.Content.{Content}
use Rattle.disk_model.specs.Images.{IsImage, mask_after_sync}
use Rattle.disk_model.specs.Moments.{Leaves}
use Rattle.disk_model.proofs.Images.{image_self}
use Rattle.disk_model.proofs.Masks.{image_split}
use Rattle.journal_record.specs.Spelling.{record_of}
use Rattle.journal_record.specs.Representable.{IsRepresentable}
use Rattle.journal_format.specs.Histories.{MayFollow, IsJournalHistory}
use Rattle.journal_format.specs.Journal.{journal_prefix, AreRepresentable, IsJournal}
use Rattle.commit_journal.specs.Images.{IsJournalOr}
use Rattle.commit_journal.specs.inner.Masks.{IsSettled, IsInDoubt, Keeps, Holds}
use Rattle.commit_journal.specs.inner.Invariant.{AttemptMayFollow}
use Rattle.commit_journal.proofs.Histories.{front_more, legal_more, kept_more}

module _ (limits : Limits) (h : List Entry) (legal : IsJournalHistory limits h) (kept : AreRepresentable h) where
  pub settled_image : (mask : List (Option ℕ)) (octets : List ℕ) → IsSettled (journal_prefix limits h) mask → IsImage mask octets → IsJournal octets limits h
  settled_image mask octets settled image =
      let parts = image_split (journal_prefix limits h ++ settled.gate ∷ []) settled.rest octets (subst (λ m. IsImage m octets) settled.parts image) in
      record {
        gate = settled.gate;
        rest = parts.0;
        parts = parts.1 ∙ append_assoc (journal_prefix limits h) (settled.gate ∷ []) parts.0;
        is_closed = settled.is_closed;
        legal = legal;
        kept = kept;
      }

  -- by the octet that stands at the gate, and the attempt's record behind it
  by_gate : (attempt : Entry) (behind : List (Option ℕ)) (octets rest : List ℕ) → MayFollow limits h attempt → IsRepresentable attempt → octets ≡ journal_prefix limits h ++ rest → IsImage (None ∷ (mask_after_sync (record_of attempt ++ 0 ∷ []) ++ behind)) rest → IsJournal octets limits h ⊎ IsJournal octets limits (h ++ attempt ∷ [])
  by_gate attempt behind octets [] next one is image = absurd image
  by_gate attempt behind octets (gate ∷ rest) next one is image =
      let record_parts = image_split (record_of attempt ++ 0 ∷ []) behind rest image in
      elim (cases_eq gate 165) [
        | inl is_open ↦
            inr
            record {
              gate = 0;
              rest = record_parts.0;
              parts = is ∙ ap (λ g. journal_prefix limits h ++ g ∷ rest) is_open ∙ ap (λ l. journal_prefix limits h ++ 165 ∷ l) (record_parts.1 ∙ append_assoc (record_of attempt) (0 ∷ []) record_parts.0) ∙ sym (front_more limits h attempt (0 ∷ record_parts.0));
              is_closed = omega arith;
              legal = legal_more limits h attempt legal next;
              kept = kept_more h attempt kept one;
            }
        | inr is_closed ↦ inl record { gate = gate; rest = rest; parts = is; is_closed = is_closed; legal = legal; kept = kept }
      ]

  pub doubt_image : (attempt : Entry) (mask : List (Option ℕ)) (octets : List ℕ) → MayFollow limits h attempt → IsRepresentable attempt → IsInDoubt (journal_prefix limits h) attempt mask → IsImage mask octets → IsJournal octets limits h ⊎ IsJournal octets limits (h ++ attempt ∷ [])
  doubt_image attempt mask octets next one doubt image =
      let parts = image_split (journal_prefix limits h) (None ∷ (mask_after_sync (record_of attempt ++ 0 ∷ []) ++ doubt.rest)) octets (subst (λ m. IsImage m octets) doubt.parts image) in
      by_gate attempt doubt.rest octets parts.0 next one parts.1 parts.2

  pub kept_images : (doubt : Option Entry) (mask : List (Option ℕ)) → AttemptMayFollow limits h doubt → Keeps limits h doubt mask → Leaves (IsJournalOr limits h doubt) mask
  kept_images None mask follows keeps octets image = settled_image mask octets keeps image
  kept_images (Some attempt) mask follows keeps octets image = doubt_image attempt mask octets follows.0 follows.1 keeps image

-- a disk all of whose octets outlive a stop, and which has a closed gate behind the history
pub holds_by : (limits : Limits) (h : List Entry) (content : Content) (gate : ℕ) (rest : List ℕ) → content.seen ≡ journal_prefix limits h ++ gate ∷ rest → gate ≢ 165 → content.mask ≡ mask_after_sync content.seen → Holds limits h None content
holds_by limits h content gate rest is is_closed kept =
    let whole : content.seen ≡ (journal_prefix limits h ++ gate ∷ []) ++ rest = is ∙ sym (append_assoc (journal_prefix limits h) (gate ∷ []) rest) in
    record {
      keeps = record { gate = gate; rest = mask_after_sync rest; is_closed = is_closed; parts = kept ∙ ap mask_after_sync whole ∙ map-append Some (journal_prefix limits h ++ gate ∷ []) rest };
      seen = subst (λ m. IsImage m content.seen) (sym kept) (image_self content.seen);
    }
