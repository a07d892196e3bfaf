-- Stops in openings, one behind another.
use Rattle.std.proofs.Common.{◌≡◌, ◌⊎◌, inl, inr, ℕ, List, [], ◌∷◌, ◌++◌, Option, Some, None, refl, sym, ap, ◌∙◌, subst}
use Rattle.std.specs.List.{AllByRecursion}
use Rattle.base_kinds.specs.declared.entry.Entry.{Entry}
use Rattle.base_kinds.specs.declared.entry.Limits.{Limits}
use Rattle.base_kinds.specs.Schema.{SchemaNode}
use Rattle.disk_model.specs.Calls.{Fuse}
use Rattle.disk_model.specs.Content.{Content, WhereTold, Tells}
use Rattle.disk_model.specs.Images.{IsImage, mask_after_sync}
use Rattle.disk_model.specs.Moments.{HoldsThroughout, Leaves, LeavesNow}
use Rattle.disk_model.proofs.Moving.{changes_since, leaves_weaker, since_on, since_same}
use Rattle.journal_format.specs.Journal.{IsJournal}
use Rattle.journal_format.proofs.Runs.{one_history}
use Rattle.commit_journal.specs.Images.{IsOneOf, IsJournalOr, IsJournalOfAny, histories_or}
use Rattle.commit_journal.specs.Openings.{IsSynced}
use Rattle.book_port.specs.Opened.{Opened, IsRun, reopened}
use Rattle.book_port.proofs.Runs.{reopened_once}
use Rattle.book_core.specs.declared.opening.BookOpening.{BookOpening}
use Rattle.book_core.specs.declared.opening.BookOpening.TheVariants.{Ready, Damaged, Unfit, DiskFault, NoMemory}
use Rattle.book_core.specs.Moments.{GoesThrough}
use Rattle.book_core.specs.Openings.{Opens, HasJournal, SyncsThen, opening_stages}
use Rattle.book_core.specs.laws.DoubtLaws.{IsRunWith}
use Rattle.book_core.specs.laws.OpeningLaws.{IsBehind, IsJournalBehind, GoesOnBehind, ReopensBehind, disk_behind, HasImage, StopsOpening, StopOpenings}
use Rattle.book_core.specs.laws.ReopeningLaws.{CanReopen, IsMoment, Reopens}
use Rattle.book_core.proofs.Reopening.{any_is_one, or_is_any, of_one, both_can, all_of_both, all_can, at_moment, through_call, journals_reopen, sound_can_reopen}

-- what has a synced disk's octets in front is an image where these are
image_behind : (mask : List (Option ℕ)) (seen octets : List ℕ) → IsImage mask seen → IsImage (mask_after_sync seen) octets → IsImage mask octets
image_behind [] seen octets first second = tt
image_behind (k ∷ mask) [] octets first second = absurd first
image_behind (k ∷ mask) (s ∷ seen) [] first second = absurd second
image_behind (None ∷ mask) (s ∷ seen) (o ∷ octets) first second = image_behind mask seen octets first second.1
image_behind (Some a ∷ mask) (s ∷ seen) (o ∷ octets) first second = (second.0 ∙ first.0, image_behind mask seen octets first.1 second.1)

told_both : (step : Content → Content → Type 0) (before after : Option Content) (old new : Content) → before ≡ Some old → after ≡ Some new → WhereTold before after step → step old new
told_both step before after old new is then_is where_told =
    subst (λ t. WhereTold t (Some new) step) is (subst (λ t. WhereTold before t step) then_is where_told)

told_once : (told : Option Content) (old new : Content) → told ≡ Some old → told ≡ Some new → old ≡ new
told_once told old new is same = let both : Some old ≡ Some new = sym is ∙ same in cc both

-- ---- the histories behind openings

one_behind : (histories : List (List Entry)) (h : List Entry) → IsOneOf histories h → IsBehind histories h
one_behind histories h one = (h, one, inl refl)

reopened_behind : (histories : List (List Entry)) (h : List Entry) (now : ℕ) → IsBehind histories h → IsBehind histories (reopened h now)
reopened_behind histories h now (found, one, inl is) = (found, one, inr (now, ap (λ g. reopened g now) is))
reopened_behind histories h now (found, one, inr (at, is)) = (found, one, inr (at, ap (λ g. reopened g now) is ∙ reopened_once found at now))

can_behind : (schema : List SchemaNode) (histories : List (List Entry)) (h : List Entry) → AllByRecursion (CanReopen schema) histories → IsBehind histories h → CanReopen schema h
can_behind schema histories h can (found, one, inl is) = subst (CanReopen schema) (sym is) (of_one (CanReopen schema) histories found can one)
can_behind schema histories h can (found, one, inr (at, is)) =
    let here : CanReopen schema found = of_one (CanReopen schema) histories found can one in
    subst (CanReopen schema) (sym is) (sound_can_reopen schema found at (here at)).1

stages_behind : (limits found_limits : Limits) (histories : List (List Entry)) (found : List Entry) (now : ℕ) (octets : List ℕ) → limits ≡ found_limits → IsBehind histories found → IsJournalOfAny found_limits (opening_stages found now) octets → IsJournalBehind limits histories octets
stages_behind limits found_limits histories found now octets same behind (inl journal) = (found, behind, subst (λ l. IsJournal octets l found) (sym same) journal)
stages_behind limits found_limits histories found now octets same behind (inr (inl journal)) = (reopened found now, reopened_behind histories found now behind, subst (λ l. IsJournal octets l (reopened found now)) (sym same) journal)
stages_behind limits found_limits histories found now octets same behind (inr (inr none)) = absurd none

any_behind : (limits : Limits) (histories : List (List Entry)) (octets : List ℕ) → IsJournalOfAny limits histories octets → IsJournalBehind limits histories octets
any_behind limits histories octets any = let one = any_is_one limits histories octets any in (one.0, one_behind histories one.0 one.1, one.2)

-- ---- the moments of one opening

-- the entry that ends an open trial was written behind the sync, or may have been
record Writes {D : Type 0} (told : D → Option Content) (now : ℕ) (disk left : D) : Type 0 where
  pub limits : Limits
  pub found : List Entry
  pub has_journal : HasJournal (told disk) limits found
  pub moments : WhereTold (told disk) (told left) (SyncsThen limits (opening_stages found now))

abbrev Passes : {D : Type 0} (told : D → Option Content) → ℕ → D → D → Type 0
Passes told now disk left = (told left ≡ told disk) ⊎ (WhereTold (told disk) (told left) IsSynced ⊎ Writes told now disk left)

module _ {D : Type 0} (C : Type 0) (told : D → Option Content) (faults : D → ℕ) (fuse : D → Fuse) where
  passes : (disk : D) (schema : List SchemaNode) (now : ℕ) (opening : BookOpening D C) → Opens told faults fuse disk schema now opening → Passes told now disk (disk_behind opening)
  passes disk schema now (Ready book) ready = inr (inr (record { limits = book.opened.limits; found = ready.found; has_journal = ready.has_journal; moments = ready.moments }))
  passes disk schema now (Damaged place left) damaged = inr (inl damaged.damaged.was_synced)
  passes disk schema now (Unfit left) unfit = inr (inl unfit.was_synced)
  passes disk schema now (DiskFault left) faulty = elim (faulty.cause) [
    | inl unread ↦ elim (unread.moments) [ inl same ↦ inl same | inr synced ↦ inr (inl synced) ]
    | inr cut ↦ inr (inr (record { limits = cut.limits; found = cut.found; has_journal = cut.has_journal; moments = cut.moments }))
  ]
  passes disk schema now (NoMemory left) starved = inr (inl starved.was_synced)

  module _ (disk left : D) (old new : Content) (limits : Limits) (histories : List (List Entry)) (now : ℕ) (told_old : told disk ≡ Some old) (told_new : told left ≡ Some new) (image : IsImage old.mask old.seen) (leaves : Leaves (IsJournalBehind limits histories) old.mask) where
    synced_leaves : Leaves (IsJournalBehind limits histories) (mask_after_sync old.seen)
    synced_leaves octets front = leaves octets (image_behind old.mask old.seen octets image front)

    synced_holds : (between : Content) → IsSynced old between → HoldsThroughout (Leaves (IsJournalBehind limits histories)) old between
    synced_holds between synced = changes_since (Leaves (IsJournalBehind limits histories)) (mask_after_sync old.seen) old between leaves synced_leaves synced.changes

    writes_hold : Writes told now disk left → HoldsThroughout (Leaves (IsJournalBehind limits histories)) old new
    writes_hold writes =
        let here = leaves old.seen image in
        let same = one_history old.seen limits writes.limits here.0 writes.found here.2 (subst (λ t. Tells t (λ c. IsJournal c.seen writes.limits writes.found)) told_old writes.has_journal.journal) in
        let then_on = told_both (SyncsThen writes.limits (opening_stages writes.found now)) (told disk) (told left) old new told_old told_new writes.moments in
        since_on (Leaves (IsJournalBehind limits histories)) old then_on.between new (synced_holds then_on.between then_on.was_synced)
        (leaves_weaker (IsJournalOfAny writes.limits (opening_stages writes.found now)) (IsJournalBehind limits histories) (Some then_on.between) (Some new)
        (λ octets any. stages_behind limits writes.limits histories writes.found now octets same.0 (subst (IsBehind histories) same.1 here.1) any) then_on.then_on)

    holds : Passes told now disk left → HoldsThroughout (Leaves (IsJournalBehind limits histories)) old new
    holds (inl same) =
        let here : old ≡ new = told_once (told disk) old new told_old (sym same ∙ told_new) in
        subst (λ c. HoldsThroughout (Leaves (IsJournalBehind limits histories)) old c) here (since_same (Leaves (IsJournalBehind limits histories)) old leaves)
    holds (inr (inl synced)) = synced_holds new (told_both IsSynced (told disk) (told left) old new told_old told_new synced)
    holds (inr (inr writes)) = writes_hold writes

  pub openings_leave : (disk : D) (old new : Content) (mask : List (Option ℕ)) (schema : List SchemaNode) (limits : Limits) (histories : List (List Entry)) (now : ℕ) (opening : BookOpening D C)
      → told disk ≡ Some old → IsImage old.mask old.seen → Leaves (IsJournalBehind limits histories) old.mask → Opens told faults fuse disk schema now opening → told (disk_behind opening) ≡ Some new → IsMoment old new mask
      → Leaves (IsJournalBehind limits histories) mask
  openings_leave disk old new mask schema limits histories now opening told_old image leaves opens told_new moment =
      at_moment (Leaves (IsJournalBehind limits histories)) old new mask (holds disk (disk_behind opening) old new limits histories now told_old told_new image leaves (passes disk schema now opening opens)) moment

  -- ---- one behind another

  record Stands (limits : Limits) (histories : List (List Entry)) (disk : D) : Type 0 where
    pub content : Content
    pub told_is : told disk ≡ Some content
    pub image : IsImage content.mask content.seen
    pub leaves : Leaves (IsJournalBehind limits histories) content.mask

  next_stands : (schema : List SchemaNode) (limits : Limits) (histories : List (List Entry)) (disk next : D) → Stands limits histories disk → StopsOpening C told faults fuse schema disk next → Stands limits histories next
  next_stands schema limits histories disk next stands stop =
      let same : stands.content ≡ stop.old = told_once (told disk) stands.content stop.old stands.told_is stop.told_old in
      let mask_leaves : Leaves (IsJournalBehind limits histories) stop.mask =
      openings_leave disk stop.old stop.new stop.mask schema limits histories stop.now stop.opening stop.told_old
      (subst (λ (c : Content). IsImage c.mask c.seen) same stands.image) (subst (λ (c : Content). Leaves (IsJournalBehind limits histories) c.mask) same stands.leaves) stop.opens stop.told_new stop.moment in
      record {
        content = stop.content;
        told_is = stop.has_image.told_is;
        image = stop.has_image.seen;
        leaves = λ octets front. mask_leaves octets (stop.has_image.leaves octets front);
      }

  last_stands : (schema : List SchemaNode) (limits : Limits) (histories : List (List Entry)) (disk : D) (later : List D) (last : D) → Stands limits histories disk → StopOpenings C told faults fuse schema disk later last → Stands limits histories last
  last_stands schema limits histories disk [] last stands same = subst (Stands limits histories) (sym same) stands
  last_stands schema limits histories disk (next ∷ later) last stands stops = last_stands schema limits histories next later last (next_stands schema limits histories disk next stands stops.0) stops.1

  goes_on : (limits : Limits) (histories : List (List Entry)) (h : List Entry) (now : ℕ) (opening : BookOpening D C) → IsBehind histories h → Reopens limits (h ∷ []) now opening → ReopensBehind limits histories opening
  goes_on limits histories h now (Ready book) behind goes = by_behind behind (by_one goes.is_one)
    where
      by_one : IsOneOf (h ∷ []) goes.found → goes.found ≡ h
      by_one (inl is) = is
      by_one (inr none) = absurd none

      by_behind : IsBehind histories h → goes.found ≡ h → GoesOnBehind limits histories book
      by_behind (found, one, inl is) same =
          let all : reopened goes.found now ≡ reopened found now = ap (λ g. reopened g now) (same ∙ is) in
          record { found = found; is_one = one; at = now; limits_are = goes.limits_are; base_is = goes.base_is ∙ all; history_is = goes.history_is ∙ all; no_trial = goes.no_trial; no_doubt = goes.no_doubt }
      by_behind (found, one, inr (at, is)) same =
          let all : reopened goes.found now ≡ reopened found at = ap (λ g. reopened g now) (same ∙ is) ∙ reopened_once found at now in
          record { found = found; is_one = one; at = at; limits_are = goes.limits_are; base_is = goes.base_is ∙ all; history_is = goes.history_is ∙ all; no_trial = goes.no_trial; no_doubt = goes.no_doubt }
  goes_on limits histories h now (Damaged place left) behind none = none
  goes_on limits histories h now (Unfit left) behind none = none
  goes_on limits histories h now (DiskFault left) behind goes = tt
  goes_on limits histories h now (NoMemory left) behind goes = tt

  stands_reopens : (schema : List SchemaNode) (limits : Limits) (histories : List (List Entry)) (last : D) (now : ℕ) (opening : BookOpening D C) → AllByRecursion (CanReopen schema) histories → Stands limits histories last → Opens told faults fuse last schema now opening → ReopensBehind limits histories opening
  stands_reopens schema limits histories last now opening can stands opens =
      let here = stands.leaves stands.content.seen stands.image in
      goes_on limits histories here.0 now opening here.1
      (journals_reopen C told faults fuse last stands.content schema limits (here.0 ∷ []) now opening stands.told_is (inl here.2) (can_behind schema histories here.0 can here.1, tt) opens)

  pub openings_reopen : (disk last : D) (content : Content) (later : List D) (schema : List SchemaNode) (limits : Limits) (histories : List (List Entry)) (now : ℕ) (opening : BookOpening D C)
      → told disk ≡ Some content → IsImage content.mask content.seen → Leaves (IsJournalOfAny limits histories) content.mask → AllByRecursion (CanReopen schema) histories → StopOpenings C told faults fuse schema disk later last → Opens told faults fuse last schema now opening
      → ReopensBehind limits histories opening
  openings_reopen disk last content later schema limits histories now opening is image leaves can stops opens =
      stands_reopens schema limits histories last now opening can
      (last_stands schema limits histories disk later last (record { content = content; told_is = is; image = image; leaves = λ octets front. any_behind limits histories octets (leaves octets front) }) stops) opens

  pub books_reopen_again : (disk last : D) (left content : Content) (later : List D) (opened : Opened) (h : List Entry) (doubt : Option Entry) (now : ℕ) (opening : BookOpening D C)
      → IsRun opened h → IsRunWith opened h doubt → LeavesNow (IsJournalOr opened.limits h doubt) (Some left) → HasImage told left.mask disk content → StopOpenings C told faults fuse opened.schema disk later last → Opens told faults fuse last opened.schema now opening
      → ReopensBehind opened.limits (histories_or h doubt) opening
  books_reopen_again disk last left content later opened h doubt now opening run with leaves has stops opens =
      openings_reopen disk last content later opened.schema opened.limits (histories_or h doubt) now opening has.told_is has.seen
      (λ octets front. or_is_any opened.limits h doubt octets (leaves octets (has.leaves octets front))) (both_can opened h doubt run with) stops opens

  pub calls_reopen_again : (disk last : D) (old new content : Content) (mask : List (Option ℕ)) (later : List D) (opened : Opened) (h : List Entry) (doubt : Option Entry) (stages : List (List Entry)) (doubt_left : Option Entry) (now : ℕ) (opening : BookOpening D C)
      → IsRun opened h → IsRunWith opened h doubt → AllByRecursion (IsRun opened) stages → GoesThrough opened.limits h doubt stages doubt_left (Some old) (Some new) → IsMoment old new mask → HasImage told mask disk content
      → StopOpenings C told faults fuse opened.schema disk later last → Opens told faults fuse last opened.schema now opening
      → ReopensBehind opened.limits (histories_or h doubt ++ stages) opening
  calls_reopen_again disk last old new content mask later opened h doubt stages doubt_left now opening run with runs through moment has stops opens =
      openings_reopen disk last content later opened.schema opened.limits (histories_or h doubt ++ stages) now opening has.told_is has.seen
      (λ octets front. at_moment (Leaves (IsJournalOfAny opened.limits (histories_or h doubt ++ stages))) old new mask (through_call opened.limits h doubt stages doubt_left old new through) moment octets (has.leaves octets front))
      (all_of_both (CanReopen opened.schema) (histories_or h doubt) stages (both_can opened h doubt run with) (all_can opened stages runs)) stops opens
