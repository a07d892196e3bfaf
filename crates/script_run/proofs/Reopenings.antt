-- One opening of a disk with a journal, on a disk in memory that is armed.
use Rattle.std.proofs.Common.{◌≡◌, ◌⊎◌, ℕ, zero, suc, ◌+◌, ◌<◌, nat_lt, List, [], ◌∷◌, ◌++◌, length, take, drop, Bool, true, false, Option, Some, refl, sym, ap, ◌∙◌, subst, inl, inr, arith, append_assoc, if◌then◌else◌}
use Rattle.std.proofs.lemmas.Bool.Decides.{nat_tests}
use Rattle.std.proofs.lemmas.List.{take-append-drop}
use Rattle.base_kinds.specs.declared.entry.Entry.{Entry}
use Rattle.base_kinds.specs.declared.entry.Limits.{Limits}
use Rattle.base_kinds.specs.declared.fill.Fill.{Fill}
use Rattle.base_kinds.specs.Schema.{SchemaNode}
use Rattle.disk_model.specs.Arming.{AllPass, Arming, arming_after, arming_after_calls, restarted}
use Rattle.disk_model.specs.Content.{Content}
use Rattle.disk_model.specs.Images.{IsImage, mask_after_sync}
use Rattle.disk_model.specs.Moments.{Each, HoldsThroughout, Leaves}
use Rattle.disk_model.proofs.Images.{synced_front}
use Rattle.memory_disks.specs.Fuses.{FuseView, fuse_of, image_left, new_disk_of}
use Rattle.journal_format.specs.Journal.{IsJournal, journal_prefix}
use Rattle.journal_format.proofs.Runs.{one_history, not_both}
use Rattle.commit_journal.specs.Images.{IsOneOf, IsJournalOfAny}
use Rattle.commit_journal.specs.Openings.{IsSynced, opening_calls}
use Rattle.book_core.specs.Openings as openings
use Rattle.book_core.specs.Openings.{SyncsThen, opening_stages, restart_calls}
use Rattle.book_core.specs.Views.{BookView}
use Rattle.book_core.specs.laws.ReopeningLaws.{CanReopen, SoundCanReopen}
use Rattle.book_port.specs.Chronicles.{entered, history_of}
use Rattle.book_port.specs.Opened.{Opened, reopened}
use Rattle.book_port.proofs.Chronicled.{history_of_entered}
use Rattle.script_run.specs.inner.ScriptBooks.{IsReady, IsStopped, IsFailed, image_on}
use Rattle.script_run.specs.Stops.{histories_behind}
use Rattle.script_run.specs.Turns.{failed_call}
use Rattle.script_run.proofs.Turns.{failed_of, none_fails, passed_of, this_fails}

abbrev told : FuseView → Option Content
told disk = Some disk.content

abbrev faults : FuseView → ℕ
faults disk = disk.faults

-- ---- what a stop leaves of a disk that was synced

longer_journal : (seen more : List ℕ) (limits : Limits) (h : List Entry) → IsJournal seen limits h → IsJournal (seen ++ more) limits h
longer_journal seen more limits h is = record {
  gate = is.gate;
  rest = is.rest ++ more;
  parts = ap (λ o. o ++ more) is.parts ∙ append_assoc (journal_prefix limits h) (is.gate ∷ is.rest) more;
  is_closed = is.is_closed;
  legal = is.legal;
  kept = is.kept;
}

pub synced_journal : (seen octets : List ℕ) (limits : Limits) (h : List Entry) → IsJournal seen limits h → IsImage (mask_after_sync seen) octets → IsJournal octets limits h
synced_journal seen octets limits h is image =
    let front : take (length seen) octets ≡ seen = synced_front seen octets image in
    let whole : seen ++ drop (length seen) octets ≡ octets = ap (λ o. o ++ drop (length seen) octets) (sym front) ∙ take-append-drop (length seen) octets in
    subst (λ o. IsJournal o limits h) whole (longer_journal seen (drop (length seen) octets) limits h is)

-- what holds throughout holds at the last moment
holds_last : (P : List (Option ℕ) → Type 0) (old new : Content) → HoldsThroughout P old new → P new.mask
holds_last P old new holds = by holds.later holds.each holds.past
  where
    by : (later : List (List (Option ℕ))) → Each P later → new.mask ∷ new.past ≡ later ++ (old.mask ∷ old.past) → P new.mask
    by [] each past = let same : new.mask ≡ old.mask = cc past in subst P (sym same) holds.first
    by (mask ∷ later) each past = let same : new.mask ≡ mask = cc past in subst P (sym same) each.0

-- ---- stops that wait

stays_stopped : (n : ℕ) (arming : Arming) → arming.stopped ≡ true → arming_after_calls n arming ≡ arming
stays_stopped zero arming is = refl
stays_stopped (suc n) arming is =
    let same : arming_after arming ≡ arming = rw is refl in
    ap (arming_after_calls n) same ∙ stays_stopped n arming is

abbrev going : List (ℕ × Fill) → List (ℕ × Unit {0}) → Arming
going stops fails = record { stops = stops; fails = fails; stopped = false }

-- a disk that comes to a stop has a stop fewer that waits
fewer_going : (n : ℕ) (stops : List (ℕ × Fill)) (fails : List (ℕ × Unit {0})) → (arming_after_calls n (going stops fails)).stopped ≡ true → length (arming_after_calls n (going stops fails)).stops < length stops
fewer_going zero stops fails is = absurd (cc is)
fewer_going (suc n) [] fails is = fewer_going n [] (arming_after (going [] fails)).fails is
fewer_going (suc n) ((zero, fill) ∷ later) fails is =
    let here : Arming = arming_after (going ((zero, fill) ∷ later) fails) in
    let same : arming_after_calls n here ≡ here = stays_stopped n here refl in
    let less : length later < suc (length later) = omega arith in
    subst (λ (a : Arming). length a.stops < suc (length later)) (sym same) less
fewer_going (suc n) ((suc passes, fill) ∷ later) fails is = fewer_going n ((passes, fill) ∷ later) (arming_after (going ((suc passes, fill) ∷ later) fails)).fails is

pub fewer_stops : (n : ℕ) (arming : Arming) → arming.stopped ≡ false → (arming_after_calls n arming).stopped ≡ true → length (arming_after_calls n arming).stops < length arming.stops
fewer_stops n arming running stops =
    let is : arming ≡ going arming.stops arming.fails = ap (λ b. record { stops = arming.stops; fails = arming.fails; stopped = b }) running in
    subst (λ (a : Arming). length (arming_after_calls n a).stops < length arming.stops) (sym is)
    (fewer_going n arming.stops arming.fails (subst (λ (a : Arming). (arming_after_calls n a).stopped ≡ true) is stops))

-- ---- what an opening gives

pub any_is_one : (limits : Limits) (histories : List (List Entry)) (octets : List ℕ) → IsJournalOfAny limits histories octets → (h : List Entry) × IsOneOf histories h × IsJournal octets limits h
any_is_one limits [] octets any = absurd any
any_is_one limits (h ∷ histories) octets (inl journal) = (h, inl refl, journal)
any_is_one limits (h ∷ histories) octets (inr any) = let one = any_is_one limits histories octets any in (one.0, inr one.1, one.2)

entered_length : (h : List Entry) → length (entered h) ≡ length h
entered_length [] = refl
entered_length (entry ∷ h) = ap (λ n. suc n) (entered_length h)

module _ (schema : List SchemaNode) (now : ℕ) (disk : FuseView) (limits : Limits) (history : List Entry) (journal : IsJournal disk.content.seen limits history) where
  abbrev calls_at : List Entry → ℕ
  calls_at h = opening_calls (length disk.content.seen) + restart_calls h

  found_is : (other : Limits) (found : List Entry) → IsJournal disk.content.seen other found → (other ≡ limits) × (found ≡ history)
  found_is other found is = one_history disk.content.seen other limits found history is journal

  pub ready_is : (book : BookView FuseView) → openings.IsReady told faults fuse_of disk schema now book → IsReady schema limits now (image_on disk history) disk.arming book
  ready_is book ready =
      let same = found_is book.opened.limits ready.found ready.has_journal.journal in
      let passed = passed_of (calls_at ready.found) disk.arming book.disk.arming disk.starved book.disk.starved ready.calls in
      record {
        passes = none_fails (calls_at history) disk.arming (subst (λ h. AllPass (calls_at h) disk.arming) same.1 passed.pass);
        book_is = record {
          schema_is = ap (λ (o : Opened). o.schema) ready.opened;
          limits_are = same.0;
          history_is = ap history_of ready.chronicle ∙ history_of_entered (reopened ready.found now) ∙ ap (λ h. reopened h now) same.1;
          counted = ap (λ c. length c) ready.chronicle ∙ entered_length (reopened ready.found now) ∙ ap (λ h. length (reopened h now)) same.1;
          no_doubt = ready.no_doubt;
          arming_is = passed.left ∙ ap (λ h. arming_after_calls (calls_at h) disk.arming) same.1;
        };
      }

  pub never_damaged : (place : ℕ) (left : FuseView) → openings.IsDamagedAt told faults fuse_of disk schema now place left → ⊥
  never_damaged place left is = not_both disk.content.seen limits history place journal is.damaged.damaged

  pub never_unfit : (left : FuseView) → CanReopen schema history → openings.IsUnfit told faults fuse_of disk schema now left → ⊥
  never_unfit left can is =
      let same = found_is is.limits is.found is.has_journal.journal in
      is.unsound (subst (CanReopen schema) (sym same.1) can now)

  -- the call that failed, and which histories a stop in it may leave
  record Faulty (left : FuseView) : Type 0 where
    call : ℕ
    fails : failed_call (calls_at history) disk.arming ≡ Some call
    arming_is : left.arming ≡ arming_after_calls (suc call) disk.arming
    leaves : disk.content.mask ≡ mask_after_sync disk.content.seen → Leaves (IsJournalOfAny limits (histories_behind call now (image_on disk history))) left.content.mask

  at_reading : (call : ℕ) → call < opening_calls (length disk.content.seen) → history ∷ [] ≡ histories_behind call now (image_on disk history)
  at_reading call within =
      let less : nat_lt call (opening_calls (length disk.content.seen)) ≡ true = grind (arith, nat_tests, within) in
      sym (ap (λ b. if b then history ∷ [] else opening_stages history now) less)

  at_restart : (call : ℕ) → opening_stages history now ≡ histories_behind (opening_calls (length disk.content.seen) + call) now (image_on disk history)
  at_restart call =
      let more : nat_lt (opening_calls (length disk.content.seen) + call) (opening_calls (length disk.content.seen)) ≡ false = grind (arith, nat_tests) in
      sym (ap (λ b. if b then history ∷ [] else opening_stages history now) more)

  unread_mask : (left : FuseView) → (told left ≡ told disk) ⊎ IsSynced disk.content left.content → disk.content.mask ≡ mask_after_sync disk.content.seen → left.content.mask ≡ mask_after_sync disk.content.seen
  unread_mask left (inl same) synced = let content : left.content ≡ disk.content = cc same in ap (λ (c : Content). c.mask) content ∙ synced
  unread_mask left (inr is) synced = is.changes.mask_is

  faulty : (left : FuseView) → left.starved ≡ false → openings.IsFaulty told faults fuse_of disk schema now left → Faulty left
  faulty left fed is = by is.cause
    where
      by : openings.IsUnread told faults fuse_of disk schema now left ⊎ openings.IsCutAtRestart told faults fuse_of disk schema now left → Faulty left
      by (inl unread) =
          let failed = failed_of unread.calls.made disk.arming left.arming disk.starved left.starved fed unread.calls.failed in
          let within : unread.calls.made < calls_at history = omega (arith, unread.calls.within) in
          record {
            call = unread.calls.made;
            fails = this_fails (calls_at history) unread.calls.made disk.arming within failed.pass failed.fails;
            arming_is = failed.left;
            leaves = λ synced octets image. subst (λ hs. IsJournalOfAny limits hs octets) (at_reading unread.calls.made unread.calls.within)
                (inl (synced_journal disk.content.seen octets limits history journal (subst (λ m. IsImage m octets) (unread_mask left unread.moments synced) image)));
          }
      by (inr cut) =
          let same = found_is cut.limits cut.found cut.has_journal.journal in
          let was_open : restart_calls history ≡ 4 = ap restart_calls (sym same.1) ∙ ap (λ b. if b then 4 else 0) cut.was_open in
          let call : ℕ = opening_calls (length disk.content.seen) + cut.calls.call in
          let failed = failed_of call disk.arming left.arming disk.starved left.starved fed cut.calls.failed in
          let within : call < calls_at history = omega (arith, was_open, cut.calls.within) in
          record {
            call = call;
            fails = this_fails (calls_at history) call disk.arming within failed.pass failed.fails;
            arming_is = failed.left;
            leaves = λ synced octets image. subst (λ hs. IsJournalOfAny limits hs octets) (at_restart cut.calls.call)
                (subst (λ h. IsJournalOfAny limits (opening_stages h now) octets) same.1
                (subst (λ (l : Limits). IsJournalOfAny l (opening_stages cut.found now) octets) same.0
                (holds_last (Leaves (IsJournalOfAny cut.limits (opening_stages cut.found now))) cut.moments.between left.content cut.moments.then_on octets image)));
          }

  pub failed_is : (left : FuseView) → left.starved ≡ false → left.arming.stopped ≡ false → openings.IsFaulty told faults fuse_of disk schema now left → IsFailed (image_on disk history) disk.arming
  failed_is left fed running is =
      let why = faulty left fed is in
      record { call = why.call; fails = why.fails; no_stop = ap (λ (a : Arming). a.stopped) (sym why.arming_is) ∙ running }

  pub stopped_is : SoundCanReopen → CanReopen schema history → disk.content.mask ≡ mask_after_sync disk.content.seen → (left next : FuseView) → left.starved ≡ false → left.arming.stopped ≡ true
      → next ≡ new_disk_of (image_left left) left.starved (restarted left.arming) → IsImage left.content.mask next.content.seen → openings.IsFaulty told faults fuse_of disk schema now left
      → IsStopped schema limits now (image_on disk history) disk.arming next
  stopped_is sound can synced left next fed stopped next_is image is =
      let why = faulty left fed is in
      let one = any_is_one limits (histories_behind why.call now (image_on disk history)) next.content.seen (why.leaves synced next.content.seen image) in
      record {
        call = why.call;
        fails = why.fails;
        stops = ap (λ (a : Arming). a.stopped) (sym why.arming_is) ∙ stopped;
        arming_is = ap (λ (d : FuseView). d.arming) next_is ∙ ap restarted why.arming_is;
        history = one.0;
        leaves = record { journal = one.2; is_one = one.1 };
        can = can_behind why.call one.0 one.1;
        synced = ap (λ (d : FuseView). d.content.mask) next_is ∙ ap (λ (d : FuseView). mask_after_sync d.content.seen) (sym next_is);
      }
    where
      can_stage : (h : List Entry) → IsOneOf (opening_stages history now) h → CanReopen schema h
      can_stage h (inl same) = subst (CanReopen schema) (sym same) can
      can_stage h (inr (inl same)) = subst (CanReopen schema) (sym same) (sound schema history now (can now)).1
      can_stage h (inr (inr none)) = absurd none

      can_by : (b : Bool) (h : List Entry) → IsOneOf (if b then history ∷ [] else opening_stages history now) h → CanReopen schema h
      can_by true h (inl same) = subst (CanReopen schema) (sym same) can
      can_by true h (inr none) = absurd none
      can_by false h is = can_stage h is

      can_behind : (call : ℕ) (h : List Entry) → IsOneOf (histories_behind call now (image_on disk history)) h → CanReopen schema h
      can_behind call h is = can_by (nat_lt call (opening_calls (length disk.content.seen))) h is

  pub fewer_left : disk.arming.stopped ≡ false → (left next : FuseView) → left.starved ≡ false → left.arming.stopped ≡ true → next ≡ new_disk_of (image_left left) left.starved (restarted left.arming) → openings.IsFaulty told faults fuse_of disk schema now left → length next.arming.stops < length disk.arming.stops
  fewer_left running left next fed stopped next_is is =
      let why = faulty left fed is in
      let arming : next.arming ≡ restarted (arming_after_calls (suc why.call) disk.arming) = ap (λ (d : FuseView). d.arming) next_is ∙ ap restarted why.arming_is in
      subst (λ (a : Arming). length a.stops < length disk.arming.stops) (sym arming)
      (fewer_stops (suc why.call) disk.arming running (ap (λ (a : Arming). a.stopped) (sym why.arming_is) ∙ stopped))
