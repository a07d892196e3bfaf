-- Openings behind a stop, one after another.
use Rattle.std.proofs.Common.{◌≡◌, ℕ, List, [], ◌∷◌, ◌++◌, length, Bool, codes, Option, Some, None, refl, sym, ap, ◌∙◌, subst, inl, inr, append_assoc}
use Rattle.std.specs.Fmt.{decimal}
use Rattle.base_kinds.specs.declared.entry.Entry.{Entry}
use Rattle.base_kinds.specs.declared.entry.Limits.{Limits}
use Rattle.base_kinds.specs.Schema.{SchemaNode}
use Rattle.disk_model.specs.Arming.{Arming, arming_after_calls, restarted}
use Rattle.disk_model.specs.Images.{IsImage, mask_after_sync}
use Rattle.disk_model.specs.Moments.{LeavesNow}
use Rattle.memory_disks.specs.Fuses.{FuseView, image_left, new_disk_of}
use Rattle.journal_format.specs.Journal.{IsJournal}
use Rattle.commit_journal.specs.Images.{IsJournalOr, IsJournalOfAny, IsOneOf, histories_or}
use Rattle.book_core.specs.Views.{BookView, history_in}
use Rattle.book_core.specs.laws.DoubtLaws.{IsRunWith}
use Rattle.book_core.specs.laws.ReopeningLaws.{CanReopen, RunsCanReopen}
use Rattle.book_port.specs.Opened.{IsRun, Opened, reopened}
use Rattle.script_run.specs.inner.ScriptBooks.{IsFailed, IsLeftByStop, IsReady, IsReopenable, IsRestartedIfAny, IsStopped, MayStand, Restarting, RestartsBook, RestartsOn, book_if, image_on}
use Rattle.script_run.specs.Restarts.{restart_text, reopened_line}
use Rattle.script_run.specs.Stops.{Image, OpensAgain, Restarted, calls_to_open}
use Rattle.script_run.proofs.Reopenings.{any_is_one}

-- what the openings from this image on do and print, those from the first one on do, behind the others
pub record Leads (limits : Limits) (now : ℕ) (first : Image) (start : Arming) (before : List ℕ) (image : Image) (arming : Arming) (out : List ℕ) : Type 0 where
  pub done : List Image
  pub opens : (later : List Image) (ending : Option Restarted) → OpensAgain image later limits now arming ending → OpensAgain first (done ++ later) limits now start ending
  pub prints : (later : List Image) (ending : Option Restarted) → out ++ restart_text later ending ≡ before ++ restart_text (done ++ later) ending

abbrev pub LeadsFrom : ℕ → FuseView → List ℕ → FuseView → List ℕ → Type 0
LeadsFrom now first before disk out =
    (limits : Limits) (history : List Entry) → IsJournal first.content.seen limits history →
    (found : List Entry) × IsJournal disk.content.seen limits found × Leads limits now (image_on first history) first.arming before (image_on disk found) disk.arming out

pub begins : (now : ℕ) (first : FuseView) (before : List ℕ) → LeadsFrom now first before first before
begins now first before limits history journal = (history, journal, record { done = []; opens = λ later ending opens. opens; prints = λ later ending. refl })

line_then : (out grown : List ℕ) (next : Image) (later : List Image) (ending : Option Restarted) → grown ≡ out ++ codes "stopped\n" → grown ++ restart_text later ending ≡ out ++ restart_text (next ∷ later) ending
line_then out grown next later ending is = ap (λ o. o ++ restart_text later ending) is ∙ append_assoc out (codes "stopped\n") (restart_text later ending)

-- where the disk has stopped in an opening, the next one follows
stopped_leads : (schema : List SchemaNode) (limits : Limits) (now : ℕ) (first : Image) (start : Arming) (before : List ℕ) (image : Image) (disk next : FuseView) (out grown : List ℕ) → image.octets ≡ image.octets
    → Leads limits now first start before image disk.arming out → (stop : IsStopped schema limits now image disk.arming next) → grown ≡ out ++ codes "stopped\n"
    → Leads limits now first start before (image_on next stop.history) next.arming grown
stopped_leads schema limits now first start before image disk next out grown _ leads stop is =
    let image' : Image = image_on next stop.history in
    record {
      done = leads.done ++ image' ∷ [];
      opens = λ later ending opens.
          subst (λ images. OpensAgain first images limits now start ending) (sym (append_assoc leads.done (image' ∷ []) later))
          (leads.opens (image' ∷ later) ending (
            record { call = stop.call; fails = stop.fails; stops = stop.stops; leaves = stop.leaves },
            subst (λ (a : Arming). OpensAgain image' later limits now a ending) stop.arming_is opens,
          ));
      prints = λ later ending.
          line_then out grown image' later ending is
          ∙ leads.prints (image' ∷ later) ending
          ∙ ap (λ images. before ++ restart_text images ending) (sym (append_assoc leads.done (image' ∷ []) later));
    }

pub goes_on : (schema : List SchemaNode) (now : ℕ) (first : FuseView) (before : List ℕ) (disk next : FuseView) (out grown : List ℕ) → LeadsFrom now first before disk out
    → ((limits : Limits) (history : List Entry) → IsJournal disk.content.seen limits history → IsStopped schema limits now (image_on disk history) disk.arming next)
    → grown ≡ out ++ codes "stopped\n" → LeadsFrom now first before next grown
goes_on schema now first before disk next out grown leads stops is limits history journal =
    let here = leads limits history journal in
    let stop = stops limits here.0 here.1 in
    (stop.history, stop.leaves.journal, stopped_leads schema limits now (image_on first history) first.arming before (image_on disk here.0) disk next out grown refl here.2 stop is)

-- the next one may be opened too
pub next_reopenable : (schema : List SchemaNode) (now : ℕ) (disk next : FuseView) → IsReopenable schema disk
    → ((limits : Limits) (history : List Entry) → IsJournal disk.content.seen limits history → IsStopped schema limits now (image_on disk history) disk.arming next) → IsReopenable schema next
next_reopenable schema now disk next is stops =
    let stop = stops is.limits is.history is.journal in
    record {
      limits = is.limits;
      history = stop.history;
      journal = stop.leaves.journal;
      can = stop.can;
      synced = stop.synced;
      running = ap (λ (a : Arming). a.stopped) stop.arming_is;
    }

-- ---- the last one

pub ready_restarts : (schema : List SchemaNode) (now : ℕ) (first : FuseView) (before : List ℕ) (disk : FuseView) (out grown last : List ℕ) (book : BookView FuseView) (count : ℕ) → LeadsFrom now first before disk out
    → ((limits : Limits) (history : List Entry) → IsJournal disk.content.seen limits history → IsReady schema limits now (image_on disk history) disk.arming book)
    → grown ≡ out ++ codes "stopped\n" → count ≡ length book.chronicle → last ≡ grown ++ (codes "reopened " ++ (decimal count ++ 10 ∷ []))
    → (limits : Limits) (history : List Entry) → IsJournal first.content.seen limits history → Restarting schema limits now (image_on first history) first.arming before last (Some book)
ready_restarts schema now first before disk out grown last book count leads ready is counts grows limits history journal =
    let here = leads limits history journal in
    let opened = ready limits here.0 here.1 in
    let restart : Restarted = record { history = reopened here.0 now; arming = arming_after_calls (calls_to_open (image_on disk here.0)) disk.arming } in
    let line : codes "reopened " ++ (decimal count ++ 10 ∷ []) ≡ reopened_line (Some restart) = ap (λ n. codes "reopened " ++ (decimal n ++ 10 ∷ [])) (counts ∙ opened.book_is.counted) in
    record {
      later = here.2.done ++ [];
      ending = Some restart;
      opens = here.2.opens [] (Some restart) (inl (record { passes = opened.passes; ending_is = refl }));
      added = grows ∙ ap (λ l. grown ++ l) line ∙ ap (λ o. o ++ reopened_line (Some restart)) is ∙ append_assoc out (codes "stopped\n") (reopened_line (Some restart)) ∙ here.2.prints [] (Some restart);
      book_is = opened.book_is;
    }

pub failed_restarts : (schema : List SchemaNode) (now : ℕ) (first : FuseView) (before : List ℕ) (disk : FuseView) (out grown : List ℕ) → LeadsFrom now first before disk out
    → ((limits : Limits) (history : List Entry) → IsJournal disk.content.seen limits history → IsFailed (image_on disk history) disk.arming)
    → grown ≡ out ++ codes "stopped\n"
    → (limits : Limits) (history : List Entry) → IsJournal first.content.seen limits history → Restarting schema limits now (image_on first history) first.arming before grown None
failed_restarts schema now first before disk out grown leads fails is limits history journal =
    let here = leads limits history journal in
    let failed = fails limits here.0 here.1 in
    record {
      later = here.2.done ++ [];
      ending = None;
      opens = here.2.opens [] None (inr (record { call = failed.call; fails = failed.fails; no_stop = failed.no_stop; ending_is = refl }));
      added = is ∙ here.2.prints [] None;
      book_is = tt;
    }

-- ---- what holds of the disk that is opened next

pub record Going (schema : List SchemaNode) (now : ℕ) (first : FuseView) (before : List ℕ) (disk : FuseView) (out : List ℕ) : Type 0 where
  pub reopenable : IsReopenable schema disk
  pub leads : LeadsFrom now first before disk out

-- ---- the first one, behind the stop of a book's disk

or_is_any : (limits : Limits) (h : List Entry) (doubt : Option Entry) (octets : List ℕ) → IsJournalOr limits h doubt octets → IsJournalOfAny limits (histories_or h doubt) octets
or_is_any limits h None octets journal = inl journal
or_is_any limits h (Some attempt) octets (inl journal) = inl journal
or_is_any limits h (Some attempt) octets (inr journal) = inr (inl journal)

or_can : RunsCanReopen → (opened : Opened) (h : List Entry) (doubt : Option Entry) → IsRun opened h → IsRunWith opened h doubt → (found : List Entry) → IsOneOf (histories_or h doubt) found → CanReopen opened.schema found
or_can runs opened h None run with found (inl is) = subst (CanReopen opened.schema) (sym is) (runs opened h run)
or_can runs opened h None run with found (inr none) = absurd none
or_can runs opened h (Some attempt) run with found (inl is) = subst (CanReopen opened.schema) (sym is) (runs opened h run)
or_can runs opened h (Some attempt) run with found (inr (inl is)) = subst (CanReopen opened.schema) (sym is) (runs opened (h ++ attempt ∷ []) with)
or_can runs opened h (Some attempt) run with found (inr (inr none)) = absurd none

pub first_is : RunsCanReopen → (book : BookView FuseView) (disk next : FuseView) → IsRun book.opened (history_in book) → MayStand book → disk ≡ book.disk → LeavesNow (IsJournalOr book.opened.limits (history_in book) book.doubt) (Some book.disk.content)
    → next ≡ new_disk_of (image_left disk) disk.starved (restarted disk.arming) → IsImage disk.content.mask next.content.seen → IsLeftByStop book next
first_is runs book disk next run with same leaves next_is image =
    let mask : IsImage book.disk.content.mask next.content.seen = subst (λ (d : FuseView). IsImage d.content.mask next.content.seen) same image in
    let one = any_is_one book.opened.limits (histories_or (history_in book) book.doubt) next.content.seen (or_is_any book.opened.limits (history_in book) book.doubt next.content.seen (leaves next.content.seen mask)) in
    let arming : next.arming ≡ restarted disk.arming = ap (λ (d : FuseView). d.arming) next_is in
    record {
      history = one.0;
      leaves = record { journal = one.2; is_one = one.1 };
      arming_is = arming ∙ ap (λ (d : FuseView). restarted d.arming) same;
      reopenable = record {
        limits = book.opened.limits;
        history = one.0;
        journal = one.2;
        can = or_can runs book.opened (history_in book) book.doubt run with one.0 one.1;
        synced = ap (λ (d : FuseView). d.content.mask) next_is ∙ ap (λ (d : FuseView). mask_after_sync d.content.seen) (sym next_is);
        running = ap (λ (a : Arming). a.stopped) arming;
      };
    }

pub restarts_book : (now : ℕ) (old new : BookView FuseView) (next : FuseView) (before after : List ℕ) (goes_on : Bool) → IsLeftByStop old next → RestartsOn old.opened.schema now next before after (book_if goes_on new) → RestartsBook now old new before after goes_on
restarts_book now old new next before after goes_on first restarts =
    let image : Image = image_on next first.history in
    record {
      first = image;
      leaves = first.leaves;
      restarts = subst (λ (a : Arming). Restarting old.opened.schema old.opened.limits now image a before after (book_if goes_on new)) first.arming_is (restarts old.opened.limits first.history first.leaves.journal);
    }

stands_by : (schema : List SchemaNode) (limits : Limits) (ending : Option Restarted) (book : BookView FuseView) → IsRestartedIfAny schema limits ending (Some book) → MayStand book
stands_by schema limits None book is = absurd is
stands_by schema limits (Some restart) book is = subst (λ (d : Option Entry). IsRunWith book.opened (history_in book) d) (sym is.no_doubt) tt

-- nothing is in doubt in the book that was opened
pub opened_stands : (schema : List SchemaNode) (now : ℕ) (disk : FuseView) (before after : List ℕ) (book : BookView FuseView) → IsReopenable schema disk → RestartsOn schema now disk before after (Some book) → MayStand book
opened_stands schema now disk before after book is restarts =
    let here = restarts is.limits is.history is.journal in
    stands_by schema is.limits here.ending book here.book_is

-- the book that was given back is the one that was there
pub first_of : RunsCanReopen → (book given : BookView FuseView) (disk next : FuseView) → given ≡ book → IsRun given.opened (history_in given) → MayStand book → disk ≡ given.disk → LeavesNow (IsJournalOr given.opened.limits (history_in given) given.doubt) (Some given.disk.content)
    → next ≡ new_disk_of (image_left disk) disk.starved (restarted disk.arming) → IsImage disk.content.mask next.content.seen → IsLeftByStop book next
first_of runs book given disk next same run with disk_is leaves next_is image =
    subst (λ (b : BookView FuseView). IsLeftByStop b next) same
    (first_is runs given disk next run (subst (λ (b : BookView FuseView). MayStand b) (sym same) with) disk_is leaves next_is image)
