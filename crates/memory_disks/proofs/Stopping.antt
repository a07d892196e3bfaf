-- What the calls of a disk that stops do to what it tells, and to its count of faults.
use Rattle.std.proofs.Common.{◌≡◌, inl, inr, ℕ, ◌+◌, List, length, take, true, false, Result, Ok, Err, refl, ap, subst, sym, ◌∙◌, arith}
use Rattle.environment.specs.Faults.{HasCause}
use Rattle.disk_model.specs.Content.{Content, Changes}
use Rattle.disk_model.specs.Images.{IsImage, mask_after_write, mask_after_sync}
use Rattle.disk_model.proofs.Images.{image_of_touched, image_of_front, image_of_cut, image_of_written, image_self}
use Rattle.disk_model.specs.Arming.{Arming, AllPass, outcome_of, arming_after, arming_after_calls}
use Rattle.disk_model.specs.Calls.{Fuse, CallsPassed, CallFailed, CallEnds}
use Rattle.disk_model.specs.declared.outcome.Outcome.{Outcome}
use Rattle.disk_model.specs.declared.outcome.Outcome.TheVariants.{Passes, Fails, Stops}
use Rattle.memory_disks.specs.Contents.{content_after_write, content_after_failed_write, content_after_cut, content_after_failed_cut, content_after_sync}
use Rattle.memory_disks.specs.Octets.{octets_after_write}
use Rattle.memory_disks.specs.Fuses.{FuseView, fuse_of, with_call_counted, WriteGives, CutGives, after_sync}
use Rattle.memory_disks.proofs.Laid.{wrote_laid}

pub failed_cause : {T E : Type 0} (e : E) (before now : ℕ) → now ≡ before + 1 → HasCause {T = T} before now (Err e)
failed_cause e before now is = record {
  later = omega (arith, is);
  failed = omega (arith, is);
  quiet = tt;
}

passed_cause : {T E : Type 0} (v : T) (before now : ℕ) → now ≡ before → HasCause {E = E} before now (Ok v)
passed_cause v before now is = record { later = omega (arith, is); failed = tt; quiet = is }

wrote_changes : (place : ℕ) (piece : List ℕ) (old new : Content) → new ≡ content_after_write place piece old → IsImage old.mask old.seen → Changes (mask_after_write place (length piece) old.mask) old new
wrote_changes place piece old new is image = subst (λ n. Changes (mask_after_write place (length piece) old.mask) old n) (sym is) record {
  mask_is = refl;
  past = refl;
  seen = image_of_written old.mask old.seen piece (octets_after_write place piece old.seen) place image (wrote_laid place piece old.seen);
}

write_failed_changes : (place : ℕ) (piece : List ℕ) (old new : Content) → new ≡ content_after_failed_write place piece old → IsImage old.mask old.seen → Changes (mask_after_write place (length piece) old.mask) old new
write_failed_changes place piece old new is image = subst (λ n. Changes (mask_after_write place (length piece) old.mask) old n) (sym is) record {
  mask_is = refl;
  past = refl;
  seen = image_of_touched old.mask old.seen place (length piece) image;
}

cut_changes : (n : ℕ) (old new : Content) → new ≡ content_after_cut n old → IsImage old.mask old.seen → Changes (take n old.mask) old new
cut_changes n old new is image = subst (λ c. Changes (take n old.mask) old c) (sym is) record {
  mask_is = refl;
  past = refl;
  seen = image_of_cut old.mask old.seen n image;
}

cut_failed_changes : (n : ℕ) (old new : Content) → new ≡ content_after_failed_cut n old → IsImage old.mask old.seen → Changes (take n old.mask) old new
cut_failed_changes n old new is image = subst (λ c. Changes (take n old.mask) old c) (sym is) record {
  mask_is = refl;
  past = refl;
  seen = image_of_front old.mask old.seen n image;
}

pub synced_changes : (old mid new : FuseView) → mid ≡ with_call_counted old → new ≡ after_sync Passes mid → Changes (mask_after_sync old.content.seen) old.content new.content
synced_changes old mid new start is =
    let content : new.content ≡ content_after_sync old.content = ap (λ v. v.content) is ∙ ap (λ v. content_after_sync v.content) start in
    subst (λ c. Changes (mask_after_sync old.content.seen) old.content c) (sym content) record { mask_is = refl; past = refl; seen = image_self old.content.seen }

write_images_by : {E : Type 0} (way : Outcome) (place : ℕ) (piece : List ℕ) (result : Result Unit E) (old new : FuseView) → WriteGives way place piece result old new → IsImage old.content.mask old.content.seen → Changes (mask_after_write place (length piece) old.content.mask) old.content new.content
write_images_by Passes place piece (Ok v) old new gives image = wrote_changes place piece old.content new.content (ap (λ v. v.content) gives) image
write_images_by Passes place piece (Err e) old new gives image = write_failed_changes place piece old.content new.content (ap (λ v. v.content) gives) image
write_images_by Fails place piece result old new gives image = write_failed_changes place piece old.content new.content (ap (λ v. v.content) gives.1) image
write_images_by (Stops fill) place piece result old new gives image = elim gives.1 [
  | inl made ↦ write_failed_changes place piece old.content new.content (ap (λ v. v.content) made) image
  | inr not_made ↦ write_failed_changes place piece old.content new.content (ap (λ v. v.content) not_made) image
]

pub write_images : {E : Type 0} (way : Outcome) (place : ℕ) (piece : List ℕ) (result : Result Unit E) (old mid new : FuseView) → mid ≡ with_call_counted old → WriteGives way place piece result mid new → IsImage old.content.mask old.content.seen → Changes (mask_after_write place (length piece) old.content.mask) old.content new.content
write_images way place piece result old mid new start gives image = write_images_by way place piece result (with_call_counted old) new (subst (λ m. WriteGives way place piece result m new) start gives) image

write_cause_by : {E : Type 0} (way : Outcome) (place : ℕ) (piece : List ℕ) (result : Result Unit E) (old new : FuseView) → WriteGives way place piece result old new → HasCause old.faults new.faults result
write_cause_by Passes place piece (Ok v) old new gives = passed_cause v old.faults new.faults (ap (λ v. v.faults) gives)
write_cause_by Passes place piece (Err e) old new gives = failed_cause e old.faults new.faults (ap (λ v. v.faults) gives)
write_cause_by Fails place piece (Ok v) old new gives = let wrong : false ≡ true = gives.0 in absurd (cc)
write_cause_by Fails place piece (Err e) old new gives = failed_cause e old.faults new.faults (ap (λ v. v.faults) gives.1)
write_cause_by (Stops fill) place piece (Ok v) old new gives = let wrong : false ≡ true = gives.0 in absurd (cc)
write_cause_by (Stops fill) place piece (Err e) old new gives = elim gives.1 [
  | inl made ↦ failed_cause e old.faults new.faults (ap (λ v. v.faults) made)
  | inr not_made ↦ failed_cause e old.faults new.faults (ap (λ v. v.faults) not_made)
]

pub write_cause : {E : Type 0} (way : Outcome) (place : ℕ) (piece : List ℕ) (result : Result Unit E) (old mid new : FuseView) → mid ≡ with_call_counted old → WriteGives way place piece result mid new → HasCause old.faults new.faults result
write_cause way place piece result old mid new start gives = write_cause_by way place piece result (with_call_counted old) new (subst (λ m. WriteGives way place piece result m new) start gives)

cut_images_by : {E : Type 0} (way : Outcome) (n : ℕ) (result : Result Unit E) (old new : FuseView) → CutGives way n result old new → IsImage old.content.mask old.content.seen → Changes (take n old.content.mask) old.content new.content
cut_images_by Passes n (Ok v) old new gives image = cut_changes n old.content new.content (ap (λ v. v.content) gives) image
cut_images_by Passes n (Err e) old new gives image = cut_failed_changes n old.content new.content (ap (λ v. v.content) gives) image
cut_images_by Fails n result old new gives image = cut_failed_changes n old.content new.content (ap (λ v. v.content) gives.1) image
cut_images_by (Stops fill) n result old new gives image = cut_failed_changes n old.content new.content (ap (λ v. v.content) gives.1) image

pub cut_images : {E : Type 0} (way : Outcome) (n : ℕ) (result : Result Unit E) (old mid new : FuseView) → mid ≡ with_call_counted old → CutGives way n result mid new → IsImage old.content.mask old.content.seen → Changes (take n old.content.mask) old.content new.content
cut_images way n result old mid new start gives image = cut_images_by way n result (with_call_counted old) new (subst (λ m. CutGives way n result m new) start gives) image

cut_cause_by : {E : Type 0} (way : Outcome) (n : ℕ) (result : Result Unit E) (old new : FuseView) → CutGives way n result old new → HasCause old.faults new.faults result
cut_cause_by Passes n (Ok v) old new gives = passed_cause v old.faults new.faults (ap (λ v. v.faults) gives)
cut_cause_by Passes n (Err e) old new gives = failed_cause e old.faults new.faults (ap (λ v. v.faults) gives)
cut_cause_by Fails n (Ok v) old new gives = let wrong : false ≡ true = gives.0 in absurd (cc)
cut_cause_by Fails n (Err e) old new gives = failed_cause e old.faults new.faults (ap (λ v. v.faults) gives.1)
cut_cause_by (Stops fill) n (Ok v) old new gives = let wrong : false ≡ true = gives.0 in absurd (cc)
cut_cause_by (Stops fill) n (Err e) old new gives = failed_cause e old.faults new.faults (ap (λ v. v.faults) gives.1)

pub cut_cause : {E : Type 0} (way : Outcome) (n : ℕ) (result : Result Unit E) (old mid new : FuseView) → mid ≡ with_call_counted old → CutGives way n result mid new → HasCause old.faults new.faults result
cut_cause way n result old mid new start gives = cut_cause_by way n result (with_call_counted old) new (subst (λ m. CutGives way n result m new) start gives)
