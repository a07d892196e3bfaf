-- Openings behind a stop, and what may be in doubt.
use Rattle.std.proofs.Common.{◌≡◌, inl, inr, ℕ, ◌<◌, List, [], ◌∷◌, ◌++◌, Option, Some, None, Result, Ok, Err, refl, sym, ap, ◌∙◌, subst, if◌then◌else◌}
use Rattle.std.specs.List.{AllByRecursion}
use Rattle.std.proofs.lemmas.List.{append_cancel_right}
use Rattle.base_kinds.specs.declared.operation.Row.{Row}
use Rattle.base_kinds.specs.declared.entry.Ask.{Ask}
use Rattle.base_kinds.specs.declared.entry.Entry.{Entry}
use Rattle.base_kinds.specs.declared.entry.Limits.{Limits}
use Rattle.base_kinds.specs.declared.refusal.Refusal.{Refusal}
use Rattle.base_kinds.specs.Bases.{IsSound, IsSoundBefore, HasSoundTrees}
use Rattle.base_kinds.specs.History.{OpenTrial, World, tree_before, world_of}
use Rattle.base_kinds.specs.Legal.{IsFit}
use Rattle.base_kinds.specs.Schema.{SchemaNode}
use Rattle.base_kinds.specs.Step.{is_open, after_expiry, step, with_answer}
use Rattle.history_laws.proofs.Given.{quiet_after_clock}
use Rattle.history_laws.proofs.States.{world_after_one}
use Rattle.disk_model.specs.Calls.{Fuse}
use Rattle.disk_model.specs.Content.{Content, Tells}
use Rattle.disk_model.specs.Images.{IsImage}
use Rattle.disk_model.specs.Moments.{Each, HoldsThroughout, Leaves, LeavesNow, LeavesOnly}
use Rattle.disk_model.proofs.Moving.{leaves_weaker, leaves_then}
use Rattle.journal_format.specs.Journal.{IsJournal, IsDamaged}
use Rattle.journal_format.proofs.Runs.{one_history, not_both}
use Rattle.commit_journal.specs.Images.{IsOneOf, IsJournalOr, IsJournalOfAny, histories_or}
use Rattle.book_port.specs.Answers.{set_stages, look_stages}
use Rattle.book_port.specs.Chronicles.{history_of}
use Rattle.book_port.specs.Opened.{Opened, IsRun, rules_in, reopened, restart_entry}
use Rattle.book_port.proofs.Chronicled.{history_of_entered}
use Rattle.book_port.proofs.Runs.{run_on, run_is_base, run_accepts, run_at_expiry, reopened_has_no_trial, reopened_once}
use Rattle.book_core.specs.declared.opening.BookOpening.{BookOpening}
use Rattle.book_core.specs.declared.opening.BookOpening.TheVariants.{Ready, Damaged, Unfit, DiskFault, NoMemory}
use Rattle.book_core.specs.Moments.{GoesThrough, IsAttempted, IsDoubted}
use Rattle.book_core.specs.Openings.{Opens}
use Rattle.book_core.specs.Views.{history_in}
use Rattle.book_core.specs.laws.DoubtLaws.{IsRunWith}
use Rattle.book_core.specs.laws.ReopeningLaws.{CanReopen, Reopens, IsAmong, IsMoment}

-- ---- the tree behind the end of an open trial

closed_tree : (h : List Entry) (now : ℕ) → (world_of (reopened h now)).tree ≡ tree_before (world_of h).tree (world_of h).trial
closed_tree h now = by_trial (world_of h).trial refl
  where
    by_trial : (trial : Option OpenTrial) → (world_of h).trial ≡ trial → (world_of (if is_open trial then h ++ restart_entry h now ∷ [] else h)).tree ≡ tree_before (world_of h).tree trial
    by_trial None is = refl
    by_trial (Some trial) is = ap (λ (w : World). w.tree) (world_after_one h (restart_entry h now)) ∙ ap (tree_before (world_of h).tree) is

sound_before : (schema : List SchemaNode) (tree : List Row) (trial : Option OpenTrial) → IsSound schema tree → IsSoundBefore schema trial → IsSound schema (tree_before tree trial)
sound_before schema tree None sound before = sound
sound_before schema tree (Some trial) sound before = before

pub runs_can_reopen : (opened : Opened) (h : List Entry) → IsRun opened h → CanReopen opened.schema h
runs_can_reopen opened h run = let trees : HasSoundTrees opened.schema (world_of h) = (run_is_base opened h run).sound in
    λ now. subst (λ (tree : List Row). IsSound opened.schema tree) (sym (closed_tree h now)) (sound_before opened.schema (world_of h).tree (world_of h).trial trees.tree trees.before)

pub sound_can_reopen : (schema : List SchemaNode) (h : List Entry) (now : ℕ) → IsSound schema (world_of (reopened h now)).tree → CanReopen schema h × CanReopen schema (reopened h now)
sound_can_reopen schema h now sound = (
  λ later. subst (λ (tree : List Row). IsSound schema tree) (closed_tree h now ∙ sym (closed_tree h later)) sound,
  λ later. subst (λ g. IsSound schema (world_of g).tree) (sym (reopened_once h now later)) sound,
)

-- ---- openings

pub any_is_one : (limits : Limits) (histories : List (List Entry)) (octets : List ℕ) → IsJournalOfAny limits histories octets → (h : List Entry) × IsOneOf histories h × IsJournal octets limits h
any_is_one limits [] octets any = absurd any
any_is_one limits (h ∷ histories) octets (inl journal) = (h, inl refl, journal)
any_is_one limits (h ∷ histories) octets (inr any) = let one = any_is_one limits histories octets any in (one.0, inr one.1, one.2)

pub or_is_any : (limits : Limits) (h : List Entry) (doubt : Option Entry) (octets : List ℕ) → IsJournalOr limits h doubt octets → IsJournalOfAny limits (histories_or h doubt) octets
or_is_any limits h None octets journal = inl journal
or_is_any limits h (Some attempt) octets (inl journal) = inl journal
or_is_any limits h (Some attempt) octets (inr journal) = inr (inl journal)

pub of_one : (P : List Entry → Type 0) (histories : List (List Entry)) (h : List Entry) → AllByRecursion P histories → IsOneOf histories h → P h
of_one P [] h all is = absurd is
of_one P (first ∷ histories) h all (inl is) = subst P (sym is) all.0
of_one P (first ∷ histories) h all (inr is) = of_one P histories h all.1 is

module _ {D : Type 0} (C : Type 0) (told : D → Option Content) (faults : D → ℕ) (fuse : D → Fuse) (disk : D) where
  -- what is found is the journal that is there
  found_is : (content : Content) (limits found_limits : Limits) (h found : List Entry) → told disk ≡ Some content → IsJournal content.seen limits h → Tells (told disk) (λ c. IsJournal c.seen found_limits found) → (limits ≡ found_limits) × (h ≡ found)
  found_is content limits found_limits h found is journal tells = one_history content.seen limits found_limits h found journal (subst (λ t. Tells t (λ c. IsJournal c.seen found_limits found)) is tells)

  pub journals_reopen : (content : Content) (schema : List SchemaNode) (limits : Limits) (histories : List (List Entry)) (now : ℕ) (opening : BookOpening D C)
      → told disk ≡ Some content → IsJournalOfAny limits histories content.seen → AllByRecursion (CanReopen schema) histories → Opens told faults fuse disk schema now opening → Reopens limits histories now opening
  journals_reopen content schema limits histories now (Ready book) is any can ready =
      let one = any_is_one limits histories content.seen any in
      let same = found_is content limits book.opened.limits one.0 ready.found is one.2 ready.has_journal.journal in
      let history : history_in book ≡ reopened ready.found now = ap history_of ready.chronicle ∙ history_of_entered (reopened ready.found now) in
      record {
        found = ready.found;
        is_one = subst (IsOneOf histories) same.1 one.1;
        limits_are = sym same.0;
        base_is = ap (λ (o : Opened). o.base) ready.opened;
        history_is = history;
        no_trial = subst (λ g. (world_of g).trial ≡ None) (sym history) (reopened_has_no_trial ready.found now);
        no_doubt = ready.no_doubt;
      }
  journals_reopen content schema limits histories now (Damaged place left) is any can damaged =
      let one = any_is_one limits histories content.seen any in
      not_both content.seen limits one.0 place one.2 (subst (λ t. Tells t (λ c. IsDamaged c.seen place)) is damaged.damaged.damaged)
  journals_reopen content schema limits histories now (Unfit left) is any can unfit =
      let one = any_is_one limits histories content.seen any in
      let same = found_is content limits unfit.limits one.0 unfit.found is one.2 unfit.has_journal.journal in
      unfit.unsound (subst (CanReopen schema) same.1 (of_one (CanReopen schema) histories one.0 can one.1) now)
  journals_reopen content schema limits histories now (DiskFault left) is any can faulty = tt
  journals_reopen content schema limits histories now (NoMemory left) is any can starved = tt

pub both_can : (opened : Opened) (h : List Entry) (doubt : Option Entry) → IsRun opened h → IsRunWith opened h doubt → AllByRecursion (CanReopen opened.schema) (histories_or h doubt)
both_can opened h None run with = (runs_can_reopen opened h run, tt)
both_can opened h (Some attempt) run with = (runs_can_reopen opened h run, (runs_can_reopen opened (h ++ attempt ∷ []) with, tt))

pub books_reopen : {D : Type 0} (C : Type 0) (told : D → Option Content) (faults : D → ℕ) (fuse : D → Fuse) (disk : D) (left content : Content) (opened : Opened) (h : List Entry) (doubt : Option Entry) (now : ℕ) (opening : BookOpening D C)
    → IsRun opened h → IsRunWith opened h doubt → LeavesNow (IsJournalOr opened.limits h doubt) (Some left) → told disk ≡ Some content → IsImage left.mask content.seen → Opens told faults fuse disk opened.schema now opening
    → Reopens opened.limits (histories_or h doubt) now opening
books_reopen C told faults fuse disk left content opened h doubt now opening run with leaves is image opens =
    journals_reopen C told faults fuse disk content opened.schema opened.limits (histories_or h doubt) now opening is (or_is_any opened.limits h doubt content.seen (leaves content.seen image)) (both_can opened h doubt run with) opens

-- ---- at any moment of a call

pub all_of_both : (P : List Entry → Type 0) (xs ys : List (List Entry)) → AllByRecursion P xs → AllByRecursion P ys → AllByRecursion P (xs ++ ys)
all_of_both P [] ys first second = second
all_of_both P (x ∷ xs) ys first second = (first.0, all_of_both P xs ys first.1 second)

pub all_can : (opened : Opened) (hs : List (List Entry)) → AllByRecursion (IsRun opened) hs → AllByRecursion (CanReopen opened.schema) hs
all_can opened [] runs = tt
all_can opened (h ∷ hs) runs = (runs_can_reopen opened h runs.0, all_can opened hs runs.1)

of_first : (limits : Limits) (xs ys : List (List Entry)) (octets : List ℕ) → IsJournalOfAny limits xs octets → IsJournalOfAny limits (xs ++ ys) octets
of_first limits [] ys octets any = absurd any
of_first limits (x ∷ xs) ys octets (inl journal) = inl journal
of_first limits (x ∷ xs) ys octets (inr any) = inr (of_first limits xs ys octets any)

of_second : (limits : Limits) (xs ys : List (List Entry)) (octets : List ℕ) → IsJournalOfAny limits ys octets → IsJournalOfAny limits (xs ++ ys) octets
of_second limits [] ys octets any = any
of_second limits (x ∷ xs) ys octets any = inr (of_second limits xs ys octets any)

each_among : (P : List (Option ℕ) → Type 0) (later : List (List (Option ℕ))) (first mask : List (Option ℕ)) → Each P later → P first → IsAmong mask (later ++ first ∷ []) → P mask
each_among P [] first mask each at_first (inl is) = subst P (sym is) at_first
each_among P [] first mask each at_first (inr none) = absurd none
each_among P (other ∷ later) first mask each at_first (inl is) = subst P (sym is) each.0
each_among P (other ∷ later) first mask each at_first (inr among) = each_among P later first mask each.1 at_first among

pub at_moment : (P : List (Option ℕ) → Type 0) (old new : Content) (mask : List (Option ℕ)) → HoldsThroughout P old new → IsMoment old new mask → P mask
at_moment P old new mask holds moment =
    let same : holds.later ≡ moment.later = append_cancel_right holds.later moment.later (old.mask ∷ old.past) (sym holds.past ∙ moment.past) in
    each_among P holds.later old.mask mask holds.each holds.first (subst (λ masks. IsAmong mask (masks ++ old.mask ∷ [])) (sym same) moment.among)

pub through_call : (limits : Limits) (h : List Entry) (doubt : Option Entry) (stages : List (List Entry)) (doubt_left : Option Entry) (old new : Content)
    → GoesThrough limits h doubt stages doubt_left (Some old) (Some new) → LeavesOnly (IsJournalOfAny limits (histories_or h doubt ++ stages)) (Some old) (Some new)
through_call limits h doubt stages doubt_left old new (inl kept) =
    leaves_weaker (IsJournalOr limits h doubt) (IsJournalOfAny limits (histories_or h doubt ++ stages)) (Some old) (Some new)
    (λ octets journal. of_first limits (histories_or h doubt) stages octets (or_is_any limits h doubt octets journal)) kept.2
through_call limits h doubt stages doubt_left old new (inr settles) =
    leaves_then (IsJournalOfAny limits (histories_or h doubt ++ stages)) (Some old) (Some settles.between) (Some new)
    (leaves_weaker (IsJournalOr limits h doubt) (IsJournalOfAny limits (histories_or h doubt ++ stages)) (Some old) (Some settles.between)
    (λ octets journal. of_first limits (histories_or h doubt) stages octets (or_is_any limits h doubt octets journal)) settles.before)
    (leaves_weaker (IsJournalOfAny limits stages) (IsJournalOfAny limits (histories_or h doubt ++ stages)) (Some settles.between) (Some new)
    (λ octets journal. of_second limits (histories_or h doubt) stages octets journal) settles.after)

pub calls_reopen : {D : Type 0} (C : Type 0) (told : D → Option Content) (faults : D → ℕ) (fuse : D → Fuse) (disk : D) (old new content : Content) (mask : List (Option ℕ)) (opened : Opened) (h : List Entry) (doubt : Option Entry) (stages : List (List Entry)) (doubt_left : Option Entry) (now : ℕ) (opening : BookOpening D C)
    → IsRun opened h → IsRunWith opened h doubt → AllByRecursion (IsRun opened) stages → GoesThrough opened.limits h doubt stages doubt_left (Some old) (Some new) → IsMoment old new mask → told disk ≡ Some content → IsImage mask content.seen
    → Opens told faults fuse disk opened.schema now opening → Reopens opened.limits (histories_or h doubt ++ stages) now opening
calls_reopen C told faults fuse disk old new content mask opened h doubt stages doubt_left now opening run with runs through moment is image opens =
    journals_reopen C told faults fuse disk content opened.schema opened.limits (histories_or h doubt ++ stages) now opening is
    (at_moment (Leaves (IsJournalOfAny opened.limits (histories_or h doubt ++ stages))) old new mask (through_call opened.limits h doubt stages doubt_left old new through) moment content.seen image)
    (all_of_both (CanReopen opened.schema) (histories_or h doubt) stages (both_can opened h doubt run with) (all_can opened stages runs)) opens

-- ---- what is in doubt

pub set_stages_are_runs : (opened : Opened) (h : List Entry) (now author : ℕ) (ask : Ask) → IsRun opened h → 0 < author → IsFit ask → AllByRecursion (IsRun opened) (set_stages (rules_in opened) h now author ask)
set_stages_are_runs opened h now author ask run some fit = (run, (run_at_expiry opened h now run, (answered (step (rules_in opened) h now author ask) refl, tt)))
  where
    answered : (answer : Result Entry Refusal) → step (rules_in opened) h now author ask ≡ answer → IsRun opened (with_answer (after_expiry h now) answer)
    answered (Ok entry) is = run_on opened (after_expiry h now) entry (run_at_expiry opened h now run) (run_accepts opened (after_expiry h now) now author ask entry (run_at_expiry opened h now run) some fit (quiet_after_clock h now) is)
    answered (Err refusal) is = run_at_expiry opened h now run

pub look_stages_are_runs : (opened : Opened) (h : List Entry) (now : ℕ) → IsRun opened h → AllByRecursion (IsRun opened) (look_stages h now)
look_stages_are_runs opened h now run = (run, (run_at_expiry opened h now run, tt))

attempted_is_run : (opened : Opened) (stages : List (List Entry)) (left : List Entry) (doubt : Option Entry) → AllByRecursion (IsRun opened) stages → IsAttempted stages left doubt → IsRunWith opened left doubt
attempted_is_run opened stages left None all is = tt
attempted_is_run opened [] left (Some attempt) all is = absurd is
attempted_is_run opened (stage ∷ stages) left (Some attempt) all (inl is) = subst (λ h. IsRun opened h) (sym is) all.0
attempted_is_run opened (stage ∷ stages) left (Some attempt) all (inr is) = attempted_is_run opened stages left (Some attempt) all.1 is

pub doubt_is_run : (opened : Opened) (stages : List (List Entry)) (h : List Entry) (doubt : Option Entry) (left : List Entry) (doubt_left : Option Entry) → AllByRecursion (IsRun opened) stages → IsRunWith opened h doubt → IsDoubted stages h doubt left doubt_left → IsRunWith opened left doubt_left
doubt_is_run opened stages h doubt left doubt_left all with (inl attempted) = attempted_is_run opened stages left doubt_left all attempted
doubt_is_run opened stages h doubt left doubt_left all with (inr same) = subst (λ (g : List Entry). IsRunWith opened g doubt_left) (sym same.0) (subst (λ (d : Option Entry). IsRunWith opened h d) (sym same.1) with)
