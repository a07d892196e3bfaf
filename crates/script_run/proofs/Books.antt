-- A script's book behind one of its calls.
use Rattle.std.proofs.Common.{◌≡◌, ◌≢◌, ℕ, ◌<◌, nat_lt, List, [], ◌∷◌, length, arith, Bool, true, false, not, ◌||◌, Some, None, Result, Ok, Err, IsErrOf, IfOk, OnOk, refl, sym, ap, ◌∙◌, subst, if◌then◌else◌}
use Rattle.std.proofs.lemmas.Bool.Decides.{nat_tests}
use Rattle.base_kinds.specs.declared.path.Elem.{Elem}
use Rattle.base_kinds.specs.declared.operation.Row.{Row}
use Rattle.base_kinds.specs.declared.entry.Ask.{Ask}
use Rattle.base_kinds.specs.declared.entry.View.{View}
use Rattle.base_kinds.specs.declared.refusal.Refusal.{Refusal}
use Rattle.base_kinds.specs.declared.refusal.Refusal.TheVariants as refusals
use Rattle.base_kinds.specs.declared.request.Action.{Action}
use Rattle.base_kinds.specs.declared.request.UnresolvedSet.{UnresolvedSet}
use Rattle.base_kinds.specs.Events.{is_long, set_answer, get_answer, view_of, view_or_not_found}
use Rattle.base_kinds.specs.History.{world_of}
use Rattle.base_kinds.specs.Parts.{part}
use Rattle.base_kinds.specs.Step.{step, after_expiry}
use Rattle.book_core.specs.Calls.{CallsFor, answer_entry}
use Rattle.book_core.specs.Views.{BookView, history_in}
use Rattle.book_port.specs.Answers.{AnswersSet, AnswersLook}
use Rattle.book_port.specs.Opened.{rules_in}
use Rattle.memory_disks.specs.Fuses.{FuseView, fuse_of}
use Rattle.script_run.specs.AnswerLines.{entry_stamp}
use Rattle.set_request.specs.Resolution.{resolved}
use Rattle.base_kinds.specs.declared.request.SubLine.{SubLine}
use Rattle.script_run.specs.declared.calls.NamedCall.{NamedCall}
use Rattle.script_run.specs.declared.pending.Pending.{Pending}
use Rattle.script_run.specs.Requests.{unresolved_set}
use Rattle.script_run.specs.ScriptStates.{ScriptState, rules_in as state_rules, set_event, book_behind}
use Rattle.script_run.specs.inner.ScriptBooks.{IsLeft, asked_event, asked_turn, left_by, left_by_look, looked_at, read_event, state_of}
use Rattle.script_run.specs.Turns.{BookState, looked_by, turn, unless_failed}
use Rattle.script_run.proofs.Answering.{SetTaken, is_fault, set_taken, looked, look_refused}
use Rattle.script_run.proofs.Turns.{book}

abbrev left_in : BookView FuseView → Bool → BookState
left_in new failed = book (history_in new) new.doubt new.disk.arming failed

left_is : (left : BookState) (failed : Bool) (old new : BookView FuseView) → new.opened ≡ old.opened → left ≡ left_in new failed → IsLeft left old new
left_is left failed old new opened is = record {
  opened = opened;
  history = sym (ap (λ (b : BookState). b.history) is);
  doubt = sym (ap (λ (b : BookState). b.doubt) is);
  arming = sym (ap (λ (b : BookState). b.arming) is);
}

-- ---- what is answered, but for want of memory

pub on_ok : {T E : Type 0} (r : Result T E) (P Q : Type 0) → OnOk r P → (P → Q) → OnOk r Q
on_ok (Ok x) P Q p follows = follows p
on_ok (Err e) P Q p follows = tt

pub if_ok : {T E : Type 0} (r : Result T E) (value other : T) (P : Type 0) → IfOk r (λ reply. reply ≡ value) → OnOk r P → (P → value ≡ other) → IfOk r (λ reply. reply ≡ other)
if_ok (Ok x) value other P is p follows = is ∙ follows p
if_ok (Err e) value other P is p follows = tt

pub accepted_other : {T : Type 0} (result : Result T Refusal) (value : T) → result ≡ Ok value → result ≢ Err refusals.NoMemory
accepted_other result value is memory = apart (sym is ∙ memory)
  where
    apart : Ok value ≡ Err refusals.NoMemory → ⊥
    apart same = cc same

pub refused_other : {T : Type 0} (result : Result T Refusal) (refusal : Refusal) → result ≡ Err refusal → refusal ≢ refusals.NoMemory → result ≢ Err refusals.NoMemory
refused_other {T} result refusal is other memory = other (same (sym is ∙ memory))
  where
    same : (let r : Result T Refusal = Err refusal in r) ≡ Err refusals.NoMemory → refusal ≡ refusals.NoMemory
    same e = cc e

-- ---- a Set

pub record Set (old new : BookView FuseView) (reading author : ℕ) (ask : Ask) (result : Result ℕ Refusal) : Type 0 where
  pub opened : new.opened ≡ old.opened
  pub fed : new.disk.starved ≡ false
  pub answer : AnswersSet (rules_in old.opened) (history_in old) reading author ask result (history_in new)
  pub settled : (IsErrOf result refusals.DiskFault → ⊥) → (IsErrOf result refusals.NoMemory → ⊥) → new.doubt ≡ None
  pub calls : CallsFor old.doubt (history_in old) reading (answer_entry (step (rules_in old.opened) (history_in old) reading author ask)) (history_in new) new.doubt (fuse_of old.disk) (fuse_of new.disk) result

taken : (old new : BookView FuseView) (reading author : ℕ) (ask : Ask) (result : Result ℕ Refusal) → result ≢ Err refusals.NoMemory → Set old new reading author ask result → SetTaken (rules_in old.opened) (history_in old) old.doubt reading author ask old.disk.arming result (left_in new (is_fault result))
taken old new reading author ask result other set =
    set_taken (rules_in old.opened) (history_in old) old.doubt reading author ask result (history_in new) new.doubt old.disk.arming new.disk.arming old.disk.starved new.disk.starved set.fed other set.answer set.settled set.calls

pub set_leaves : (old new : BookView FuseView) (reading author : ℕ) (ask : Ask) (result : Result ℕ Refusal) → result ≢ Err refusals.NoMemory → Set old new reading author ask result → IsLeft (asked_turn old reading author ask) old new
set_leaves old new reading author ask result other set =
    left_is (asked_turn old reading author ask) (is_fault result) old new set.opened (taken old new reading author ask result other set).left_is

pub set_replies : (old new : BookView FuseView) (reading author : ℕ) (ask : Ask) (result : Result ℕ Refusal) → result ≢ Err refusals.NoMemory → Set old new reading author ask result → result ≡ entry_stamp (unless_failed (asked_turn old reading author ask).failed (step (rules_in old.opened) (history_in old) reading author ask))
set_replies old new reading author ask result other set =
    let is = taken old new reading author ask result other set in
    is.reply ∙ ap (λ (b : BookState). entry_stamp (unless_failed b.failed (step (rules_in old.opened) (history_in old) reading author ask))) (sym is.left_is)

-- ---- a look at one pattern

nonempty : (rows : List Row) → (rows ≡ [] → ⊥) → 0 < length rows
nonempty [] none = absurd (none refl)
nonempty (row ∷ rows) none = omega arith

pub record Look (old new : BookView FuseView) (reading : ℕ) (pattern : List Elem) (result : Result View Refusal) : Type 0 where
  pub opened : new.opened ≡ old.opened
  pub fed : new.disk.starved ≡ false
  pub answer : AnswersLook (history_in old) reading (pattern ∷ []) result (history_in new)
  pub settled : (IsErrOf result refusals.DiskFault → ⊥) → (IsErrOf result refusals.NoMemory → ⊥) → new.doubt ≡ None
  pub calls : CallsFor old.doubt (history_in old) reading None (history_in new) new.doubt (fuse_of old.disk) (fuse_of new.disk) result

module _ (old : BookView FuseView) (reading author : ℕ) (pattern : List Elem) where
  abbrev left_read : BookState
  left_read = left_by (read_event reading author pattern) old

  short_left : is_long pattern ≡ false → left_read ≡ turn reading None (state_of old)
  short_left is = ap (λ long. if not (long || false) then turn reading None (state_of old) else state_of old) is

  seen_left : (new : BookView FuseView) (view : View) → is_long pattern ≡ false → Look old new reading pattern (Ok view) → left_read ≡ left_in new false
  seen_left new view is look =
      short_left is ∙ looked (history_in old) old.doubt reading (pattern ∷ []) view (history_in new) new.doubt old.disk.arming new.disk.arming old.disk.starved new.disk.starved look.answer (look.settled (λ e. cc e) (λ e. cc e)) look.calls

  pub seen_leaves : (new : BookView FuseView) (view : View) → is_long pattern ≡ false → Look old new reading pattern (Ok view) → IsLeft left_read old new
  seen_leaves new view is look = left_is left_read false old new look.opened (seen_left new view is look)

  refused_left : (new : BookView FuseView) (refusal : Refusal) → refusal ≢ refusals.NoMemory → is_long pattern ≡ false → Look old new reading pattern (Err refusal) → (refusal ≡ refusals.DiskFault) × (left_read ≡ left_in new true)
  refused_left new refusal other is look =
      let parts = look_refused (history_in old) old.doubt reading (pattern ∷ []) refusal (history_in new) new.doubt old.disk.arming new.disk.arming old.disk.starved new.disk.starved look.fed other look.answer look.calls in
      (parts.0, short_left is ∙ parts.1)

  pub refused_leaves : (new : BookView FuseView) (refusal : Refusal) → refusal ≢ refusals.NoMemory → is_long pattern ≡ false → Look old new reading pattern (Err refusal) → IsLeft left_read old new
  refused_leaves new refusal other is look = left_is left_read true old new look.opened (refused_left new refusal other is look).1

  pub refused_replies : (new : BookView FuseView) (refusal : Refusal) → refusal ≢ refusals.NoMemory → is_long pattern ≡ false → Look old new reading pattern (Err refusal) → Err refusal ≡ unless_failed left_read.failed (get_answer (history_in old) reading (pattern ∷ []))
  refused_replies new refusal other is look =
      let parts = refused_left new refusal other is look in
      ap Err parts.0 ∙ sym (ap (λ (b : BookState). unless_failed b.failed (get_answer (history_in old) reading (pattern ∷ []))) parts.1)

  -- what is answered where no call failed
  seen_answer : (new : BookView FuseView) (view : View) → is_long pattern ≡ false → Look old new reading pattern (Ok view) → unless_failed left_read.failed (get_answer (history_in old) reading (pattern ∷ [])) ≡ view_or_not_found (history_in new) (pattern ∷ [])
  seen_answer new view is look =
      ap (λ (b : BookState). unless_failed b.failed (get_answer (history_in old) reading (pattern ∷ []))) (seen_left new view is look)
      ∙ ap (λ long. if long || false then Err refusals.BadPath else view_or_not_found (after_expiry (history_in old) reading) (pattern ∷ [])) is
      ∙ ap (λ h. view_or_not_found h (pattern ∷ [])) (sym look.answer.1)

  pub none_replies : (new : BookView FuseView) (view : View) → is_long pattern ≡ false → Look old new reading pattern (Ok view) → view.rows ≡ [] → Err refusals.NotFound ≡ unless_failed left_read.failed (get_answer (history_in old) reading (pattern ∷ []))
  none_replies new view is look none =
      let rows : part (pattern ∷ []) (world_of (history_in new)).tree ≡ [] = sym (ap (λ (v : View). v.rows) look.answer.0) ∙ none in
      sym (seen_answer new view is look ∙ ap (λ (r : List Row). if nat_lt (length r) 1 || false then Err refusals.NotFound else Ok (view_of (history_in new) (pattern ∷ []))) rows)

  pub view_replies : (new : BookView FuseView) (view : View) → is_long pattern ≡ false → Look old new reading pattern (Ok view) → (view.rows ≡ [] → ⊥) → Ok view ≡ unless_failed left_read.failed (get_answer (history_in old) reading (pattern ∷ []))
  view_replies new view is look some =
      let rows : view.rows ≡ part (pattern ∷ []) (world_of (history_in new)).tree = ap (λ (v : View). v.rows) look.answer.0 in
      let many : 0 < length view.rows = nonempty view.rows some in
      let full : nat_lt (length view.rows) 1 ≡ false = grind (arith, nat_tests, many) in
      ap Ok look.answer.0
      ∙ sym (seen_answer new view is look
      ∙ ap (λ (r : List Row). if nat_lt (length r) 1 || false then Err refusals.NotFound else Ok (view_of (history_in new) (pattern ∷ []))) (sym rows)
      ∙ ap (λ few. if few || false then Err refusals.NotFound else Ok (view_of (history_in new) (pattern ∷ []))) full)

-- ---- a look of a subscription

pub record Looks (old new : BookView FuseView) (reading : ℕ) (patterns : List (List Elem)) (result : Result View Refusal) : Type 0 where
  pub opened : new.opened ≡ old.opened
  pub fed : new.disk.starved ≡ false
  pub answer : AnswersLook (history_in old) reading patterns result (history_in new)
  pub settled : (IsErrOf result refusals.DiskFault → ⊥) → (IsErrOf result refusals.NoMemory → ⊥) → new.doubt ≡ None
  pub calls : CallsFor old.doubt (history_in old) reading None (history_in new) new.doubt (fuse_of old.disk) (fuse_of new.disk) result

module _ (old : BookView FuseView) (reading : ℕ) (patterns : List (List Elem)) where
  abbrev left_looked : BookState
  left_looked = left_by_look (Some patterns) reading old

  shown_left : (new : BookView FuseView) (view : View) → Looks old new reading patterns (Ok view) → left_looked ≡ left_in new false
  shown_left new view look =
      looked (history_in old) old.doubt reading patterns view (history_in new) new.doubt old.disk.arming new.disk.arming old.disk.starved new.disk.starved look.answer (look.settled (λ e. cc e) (λ e. cc e)) look.calls

  pub shown_leaves : (new : BookView FuseView) (view : View) → Looks old new reading patterns (Ok view) → IsLeft left_looked old new
  shown_leaves new view look = left_is left_looked false old new look.opened (shown_left new view look)

  pub shown_view : (new : BookView FuseView) (view : View) → Looks old new reading patterns (Ok view) → Ok view ≡ looked_at (Some patterns) reading old
  shown_view new view look =
      ap Ok (look.answer.0 ∙ ap (λ h. view_of h patterns) look.answer.1)
      ∙ sym (ap (λ (b : BookState). looked_by b.failed (history_in old) reading (Some patterns)) (shown_left new view look))

  fault_left : (new : BookView FuseView) (refusal : Refusal) → refusal ≢ refusals.NoMemory → Looks old new reading patterns (Err refusal) → (refusal ≡ refusals.DiskFault) × (left_looked ≡ left_in new true)
  fault_left new refusal other look =
      look_refused (history_in old) old.doubt reading patterns refusal (history_in new) new.doubt old.disk.arming new.disk.arming old.disk.starved new.disk.starved look.fed other look.answer look.calls

  pub fault_leaves : (new : BookView FuseView) (refusal : Refusal) → refusal ≢ refusals.NoMemory → Looks old new reading patterns (Err refusal) → IsLeft left_looked old new
  fault_leaves new refusal other look = left_is left_looked true old new look.opened (fault_left new refusal other look).1

  pub fault_view : (new : BookView FuseView) (refusal : Refusal) → refusal ≢ refusals.NoMemory → Looks old new reading patterns (Err refusal) → Err refusal ≡ looked_at (Some patterns) reading old
  fault_view new refusal other look =
      let parts = fault_left new refusal other look in
      ap Err parts.0 ∙ sym (ap (λ (b : BookState). looked_by b.failed (history_in old) reading (Some patterns)) parts.1)

-- ---- the reply to the pending request

abbrev pub state_seen : BookView FuseView → ℕ → Pending → List SubLine → List NamedCall → ScriptState
state_seen seen reading pending subs calls = record {
  schema = seen.opened.schema;
  limits = seen.opened.limits;
  reading = reading;
  pending = pending;
  subs = subs;
  calls = calls;
  history = history_in seen;
  doubt = seen.doubt;
  arming = seen.disk.arming;
}

abbrev pub set_reply : ScriptState → ℕ → Action → Result ℕ Refusal
set_reply state author action =
    entry_stamp (unless_failed (book_behind (Some (set_event state author action)) state).failed (set_answer (state_rules state) state.history state.reading author (resolved state.schema (unresolved_set action state.pending))))

pub replied : (seen : BookView FuseView) (reading : ℕ) (pending : Pending) (subs : List SubLine) (calls : List NamedCall) (author : ℕ) (action : Action) (request : UnresolvedSet) (reply : Result ℕ Refusal) → request ≡ unresolved_set action pending
    → reply ≡ entry_stamp (unless_failed (left_by (asked_event seen reading author request) seen).failed (set_answer (rules_in seen.opened) (history_in seen) reading author (resolved seen.opened.schema request)))
    → reply ≡ set_reply (state_seen seen reading pending subs calls) author action
replied seen reading pending subs calls author action request reply asked given =
    subst (λ (r : UnresolvedSet). reply ≡ entry_stamp (unless_failed (left_by (asked_event seen reading author r) seen).failed (set_answer (rules_in seen.opened) (history_in seen) reading author (resolved seen.opened.schema r)))) asked given
