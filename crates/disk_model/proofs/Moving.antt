-- Steps of a disk that may not tell its content.
use Rattle.std.proofs.Common.{ℕ, List, [], ◌∷◌, ◌++◌, length, Option, Some, None, refl, sym, ap, ◌∙◌, append_assoc}
use Rattle.disk_model.specs.Content.{Content, WhereTold, Tells, Changes}
use Rattle.disk_model.specs.Images.{mask_after_write, mask_after_sync}
use Rattle.disk_model.specs.Moments.{Each, HoldsThroughout, PutSynced, Leaves, LeavesNow, LeavesOnly}

pub moved_tells : {A B : Content → Type 0} {S : Content → Content → Type 0} (old new : Option Content) → Tells old A → WhereTold old new S → ((o n : Content) → A o → S o n → B n) → Tells new B
moved_tells None None fact moved step = tt
moved_tells None (Some n) fact moved step = absurd moved
moved_tells (Some o) None fact moved step = absurd moved
moved_tells (Some o) (Some n) fact moved step = step o n fact moved

pub moved_map : {A : Content → Type 0} {S R : Content → Content → Type 0} (old new : Option Content) → Tells old A → WhereTold old new S → ((o n : Content) → A o → S o n → R o n) → WhereTold old new R
moved_map None None fact moved step = tt
moved_map None (Some n) fact moved step = absurd moved
moved_map (Some o) None fact moved step = absurd moved
moved_map (Some o) (Some n) fact moved step = step o n fact moved

pub moved_on : {S R V : Content → Content → Type 0} (old mid new : Option Content) → WhereTold old mid S → WhereTold mid new R → ((o m n : Content) → S o m → R m n → V o n) → WhereTold old new V
moved_on None None None first second step = tt
moved_on None None (Some n) first second step = second
moved_on None (Some m) new first second step = absurd first
moved_on (Some o) None new first second step = absurd first
moved_on (Some o) (Some m) None first second step = second
moved_on (Some o) (Some m) (Some n) first second step = step o m n first second

each_append : (P : List (Option ℕ) → Type 0) (xs ys : List (List (Option ℕ))) → Each P xs → Each P ys → Each P (xs ++ ys)
each_append P [] ys a b = b
each_append P (x ∷ xs) ys a b = (a.0, each_append P xs ys a.1 b)

pub since_on : (P : List (Option ℕ) → Type 0) (old mid new : Content) → HoldsThroughout P old mid → HoldsThroughout P mid new → HoldsThroughout P old new
since_on P old mid new first second = record {
  first = first.first;
  later = second.later ++ first.later;
  past = second.past ∙ ap (λ l. second.later ++ l) first.past ∙ sym (append_assoc second.later first.later (old.mask ∷ old.past));
  each = each_append P second.later first.later second.each first.each;
}

pub since_same : (P : List (Option ℕ) → Type 0) (old : Content) → P old.mask → HoldsThroughout P old old
since_same P old has = record { first = has; later = []; past = refl; each = tt }

pub changes_since : (P : List (Option ℕ) → Type 0) (mask : List (Option ℕ)) (old new : Content) → P old.mask → P mask → Changes mask old new → HoldsThroughout P old new
changes_since P mask old new before after changes = record {
  first = before;
  later = mask ∷ [];
  past = ap (λ k. k ∷ new.past) changes.mask_is ∙ ap (λ l. mask ∷ l) changes.past;
  each = (after, tt);
}

pub put_since : (P : List (Option ℕ) → Type 0) (place : ℕ) (piece : List ℕ) (old new : Content) → P old.mask → P (mask_after_write place (length piece) old.mask) → P (mask_after_sync new.seen) → PutSynced place piece old new → HoldsThroughout P old new
put_since P place piece old new before during after put = record {
  first = before;
  later = mask_after_sync new.seen ∷ mask_after_write place (length piece) old.mask ∷ [];
  past = ap (λ k. k ∷ new.past) put.mask_is ∙ ap (λ l. mask_after_sync new.seen ∷ l) put.past;
  each = (after, (during, tt));
}

each_weaker : (P Q : List (Option ℕ) → Type 0) (masks : List (List (Option ℕ))) → ((m : List (Option ℕ)) → P m → Q m) → Each P masks → Each Q masks
each_weaker P Q [] weaker each = tt
each_weaker P Q (m ∷ masks) weaker each = (weaker m each.0, each_weaker P Q masks weaker each.1)

pub leaves_weaker : (P Q : List ℕ → Type 0) (old new : Option Content) → ((octets : List ℕ) → P octets → Q octets) → LeavesOnly P old new → LeavesOnly Q old new
leaves_weaker P Q None None weaker leaves = tt
leaves_weaker P Q None (Some n) weaker leaves = leaves
leaves_weaker P Q (Some o) None weaker leaves = leaves
leaves_weaker P Q (Some o) (Some n) weaker leaves = record {
  first = λ octets image. weaker octets (leaves.first octets image);
  later = leaves.later;
  past = leaves.past;
  each = each_weaker _ _ leaves.later (λ m has octets image. weaker octets (has octets image)) leaves.each;
}

pub leaves_then : (P : List ℕ → Type 0) (old mid new : Option Content) → LeavesOnly P old mid → LeavesOnly P mid new → LeavesOnly P old new
leaves_then P old mid new first second = moved_on old mid new first second (λ o m n a b. since_on (Leaves P) o m n a b)

pub leaves_same : (P : List ℕ → Type 0) (old : Option Content) → LeavesNow P old → LeavesOnly P old old
leaves_same P None now = tt
leaves_same P (Some o) now = since_same (Leaves P) o now
