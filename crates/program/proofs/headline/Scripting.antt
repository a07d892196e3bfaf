-- A script's answers are those of the history at its end.
use Rattle.std.proofs.Common.{◌≡◌, ◌⊎◌, inl, inr, ℕ, List, [], ◌∷◌, ◌++◌, Bool, true, false, codes, refl, sym, ap, ◌∙◌, subst, append-nil, append_assoc, length, map, Option, Some, None, Result, Ok, Err, if◌then◌else◌}
use Rattle.base_kinds.specs.declared.entry.Entry.{Entry}
use Rattle.base_kinds.specs.declared.entry.Kind.TheVariants as kinds
use Rattle.base_kinds.specs.declared.entry.Limits.{Limits}
use Rattle.base_kinds.specs.declared.refusal.Refusal.{Refusal}
use Rattle.base_kinds.specs.Events.{Answer, OfSet, OfGet}
use Rattle.base_kinds.specs.declared.request.Note.{Note}
use Rattle.base_kinds.specs.Schema.{SchemaNode}
use Rattle.base_kinds.specs.Step.{after_expiry, is_due, next_entry, new_stamp}
use Rattle.book_port.specs.Follows.{Turn}
use Rattle.book_port.specs.Opened.{reopened}
use Rattle.book_port.proofs.Answering.{quiet_expiry}
use Rattle.log_text.specs.Logs.{log_text}
use Rattle.commit_journal.specs.Images.{IsOneOf, histories_or}
use Rattle.std.specs.List.{AllByRecursion, flat_map}
use Rattle.gnmi_kinds.specs.declared.reply.SubReply.{SubReply}
use Rattle.gnmi_kinds.specs.declared.reply.SubReply.TheVariants.{Sync}
use Rattle.sub_plan.specs.declared.plan.Plan.{Plan}
use Rattle.sub_plan.specs.Plans.{plan_of}
use Rattle.stream_laws.specs.Follows.{first_moment}
use Rattle.stream_laws.specs.Runs.{IsStreamRun, note_messages}
use Rattle.stream_laws.proofs.Following.{messages_stay}
use Rattle.script_text.specs.Lines.{lines_of}
use Rattle.script_run.specs.ScriptOctets.{within_limit}
use Rattle.script_run.specs.Subscribing.{step_with, sub_ask}
use Rattle.script_run.specs.declared.subscribing.CallReply.TheVariants as replies
use Rattle.script_run.specs.laws.ScriptTexts.{AreScriptLines}
use Rattle.script_run.proofs.Streams.{once_says, polls_say, runs_are_kept}
use Rattle.script_text.specs.declared.line.Line.{Line}
use Rattle.script_text.specs.declared.line.Line.TheVariants as lines
use Rattle.script_run.specs.AnswerLines.{line_answer}
use Rattle.script_run.specs.Restarts.{Takes, TakesBy}
use Rattle.script_run.specs.ScriptStates.{ScriptState, line_step, new_state, state_after}
use Rattle.script_run.specs.Scripts.{RunsScript}
use Rattle.script_run.specs.declared.run.ScriptEnd.TheVariants.{Whole}
use Rattle.script_run.specs.laws.CrashLaws.{ReopensHistory}
use Rattle.script_run.specs.laws.ScriptLaws.{AnswersTell, LeadTo, LeavesBy, MakesDoneEvents}
use Rattle.script_run.specs.laws.WholeScripts.{AreKept, IsKept, KeepsAnswers, WholeScriptsKeep}
use Rattle.program.specs.headline.Terms.{IsPrefix, ChangesNothing}
use Rattle.program.proofs.headline.Prefixes.{prefix_again}
use Rattle.program.proofs.headline.Crashing.{prefix_itself, reopened_prefix}
use Rattle.program.proofs.headline.Numbered.{lead_history}
use Rattle.program.specs.headline.Marks.{FoldsAtMarks, ReadsState}
use Rattle.program.specs.headline.OneScript.{IsOpen, IsStepOf, Lead, LineStep, OneScript, OpensStream, RanOn, ReadsOnce, ReadsPoll, left_by, told_under, turn_of}
use Rattle.program.proofs.headline.Marking.{marks_fold, reads_state}
use Rattle.program.proofs.headline.Streaming.{Tells, opened_so, tells_next}

-- ---- what a line leaves goes on from what it found

expiry_prefix : (h : List Entry) (now : ℕ) → IsPrefix h (after_expiry h now)
expiry_prefix h now = by_test (is_due h now)
  where
    by_test : (due : Bool) → IsPrefix h (if due then h ++ next_entry h (new_stamp h now) 0 kinds.Expire ∷ [] else h)
    by_test true = (next_entry h (new_stamp h now) 0 kinds.Expire ∷ [], refl)
    by_test false = prefix_itself h

same_prefix : (h left : List Entry) → left ≡ h → IsPrefix h left
same_prefix h left is = ([], is ∙ sym (append-nil h))

cut_prefix : (h : List Entry) (now : ℕ) (left : List Entry) → (left ≡ h) ⊎ (left ≡ after_expiry h now) → IsPrefix h left
cut_prefix h now left (inl same) = same_prefix h left same
cut_prefix h now left (inr behind) = subst (IsPrefix h) (sym behind) (expiry_prefix h now)

leaves_prefix : (h : List Entry) (now : ℕ) (answer : Option Answer) (left : List Entry) → LeavesBy h now answer left → IsPrefix h left
leaves_prefix h now (Some (OfSet (Ok entry))) left is = prefix_again h (after_expiry h now) left (expiry_prefix h now) (entry ∷ [], is)
leaves_prefix h now (Some (OfSet (Err refusal))) left is = cut_prefix h now left is
leaves_prefix h now (Some (OfGet view)) left is = cut_prefix h now left is
leaves_prefix h now None left is = same_prefix h left is

changes_nothing : (turn : Turn) → (turn.left ≡ turn.found) ⊎ (turn.left ≡ after_expiry turn.found turn.reading) → ChangesNothing turn
changes_nothing turn (inl same) = inl same
changes_nothing turn (inr left) = by_test (is_due turn.found turn.reading) refl
  where
    by_test : (due : Bool) → is_due turn.found turn.reading ≡ due → ChangesNothing turn
    by_test true is = inr (is, left)
    by_test false is = inl (left ∙ quiet_expiry turn.found turn.reading is)

one_prefix : (h : List Entry) (doubt : Option Entry) (g : List Entry) → IsOneOf (histories_or h doubt) g → IsPrefix h g
one_prefix h None g (inl is) = same_prefix h g is
one_prefix h None g (inr none) = absurd none
one_prefix h (Some attempt) g (inl is) = same_prefix h g is
one_prefix h (Some attempt) g (inr (inl is)) = (attempt ∷ [], is)
one_prefix h (Some attempt) g (inr (inr none)) = absurd none

reopens_prefix : (line : Line) (state next : ScriptState) → ReopensHistory line state next → IsPrefix state.history next.history
reopens_prefix line state next is =
    prefix_again state.history is.left next.history (cut_prefix state.history state.reading is.left is.left_is)
    (prefix_again is.left is.found next.history (one_prefix is.left is.doubt is.found is.is_one) (subst (IsPrefix is.found) (sym is.history) (reopened_prefix is.found state.reading)))

-- ---- a line

module _ (tell : AnswersTell) (step : LineStep) (last : ScriptState) (takes : Takes step.line step.state step.printed (Some step.next)) (kept : IsKept step.line step.state step.next last) where
  abbrev behind : ScriptState
  behind = state_after step.line step.state

  leaves : LeavesBy step.state.history step.state.reading (line_answer step.line step.state) behind.history
  leaves = tell step.line step.state

  left_prefix : IsPrefix step.state.history behind.history
  left_prefix = leaves_prefix step.state.history step.state.reading (line_answer step.line step.state) behind.history leaves

  next_same : behind.arming.stopped ≡ false → step.next ≡ behind
  next_same is = let taken : TakesBy false step.line step.state step.printed (Some step.next) = subst (λ b. TakesBy b step.line step.state step.printed (Some step.next)) is takes in cc (taken.1)

  pub next_prefix : IsPrefix step.state.history step.next.history
  next_prefix = by_stop behind.arming.stopped refl
    where
      by_stop : (stopped : Bool) → behind.arming.stopped ≡ stopped → IsPrefix step.state.history step.next.history
      by_stop true is = reopens_prefix step.line step.state step.next (kept.reopened is)
      by_stop false is = subst (λ (s : ScriptState). IsPrefix step.state.history s.history) (sym (next_same is)) left_prefix

  pub step_of : IsPrefix step.next.history last.history → IsStepOf last.history step
  step_of prefix = record {
    found = prefix_again step.state.history step.next.history last.history next_prefix prefix;
    left = prefix;
    shown = λ is. subst (λ (s : ScriptState). IsPrefix s.history last.history) (next_same is) prefix;
    acknowledged = λ entry is answered. kept.acknowledged entry is answered;
    refused = λ refusal answered. changes_nothing (turn_of step) (subst (λ a. LeavesBy step.state.history step.state.reading a behind.history) answered leaves);
    no_trial = λ is. kept.no_trial is;
  }

-- ---- the steps

abbrev step_at : Line → ScriptState → List ℕ → ScriptState → LineStep
step_at line state printed next = record { line = line; state = state; printed = printed; next = next }

abbrev steps_of : (lines : List Line) (state last : ScriptState) (text : List ℕ) → AreKept lines state last text → List LineStep
steps_of [] state last text kept = []
steps_of (line ∷ lines) state last text (printed, next, rest, takes, whole, kept, later) = step_at line state printed next ∷ steps_of lines next last rest later

same_lines : (lines : List Line) (state last : ScriptState) (text : List ℕ) (kept : AreKept lines state last text) → map (λ (step : LineStep). step.line) (steps_of lines state last text kept) ≡ lines
same_lines [] state last text kept = refl
same_lines (line ∷ lines) state last text (printed, next, rest, takes, whole, kept, later) = ap (λ (l : List Line). line ∷ l) (same_lines lines next last rest later)

leads_so : (lines : List Line) (state last : ScriptState) (text : List ℕ) (kept : AreKept lines state last text) → Lead state (steps_of lines state last text kept) last
leads_so [] state last text kept = kept.0
leads_so (line ∷ lines) state last text (printed, next, rest, takes, whole, kept, later) = (refl, takes, leads_so lines next last rest later)

prints_so : (lines : List Line) (state last : ScriptState) (text : List ℕ) (kept : AreKept lines state last text) → text ≡ flat_map (λ (step : LineStep). step.printed) (steps_of lines state last text kept) ++ (codes "log\n" ++ log_text last.history)
prints_so [] state last text kept = kept.1
prints_so (line ∷ lines) state last text (printed, next, rest, takes, whole, kept, later) =
    whole ∙ ap (λ (l : List ℕ). printed ++ l) (prints_so lines next last rest later)
    ∙ sym (append_assoc printed (flat_map (λ (step : LineStep). step.printed) (steps_of lines next last rest later)) (codes "log\n" ++ log_text last.history))

all_on : (tell : AnswersTell) (lines : List Line) (state last : ScriptState) (text : List ℕ) → AreKept lines state last text → IsPrefix state.history last.history
all_on tell [] state last text kept = same_prefix state.history last.history (ap (λ (s : ScriptState). s.history) kept.0)
all_on tell (line ∷ lines) state last text (printed, next, rest, takes, whole, kept, later) =
    prefix_again state.history next.history last.history (next_prefix tell (step_at line state printed next) last takes kept) (all_on tell lines next last rest later)

all_steps : (tell : AnswersTell) (lines : List Line) (state last : ScriptState) (text : List ℕ) (kept : AreKept lines state last text) → AllByRecursion (IsStepOf last.history) (steps_of lines state last text kept)
all_steps tell [] state last text kept = tt
all_steps tell (line ∷ lines) state last text (printed, next, rest, takes, whole, kept, later) =
    (step_of tell (step_at line state printed next) last takes kept (all_on tell lines next last rest later), all_steps tell lines next last rest later)

-- ---- streams

leads_to : (steps : List LineStep) (state last : ScriptState) → Lead state steps last → LeadTo (map (λ (step : LineStep). step.line) steps) state last
leads_to [] state last lead = lead
leads_to (step ∷ steps) state last (is, takes, rest) = (step.printed, step.next, subst (λ (s : ScriptState). Takes step.line s step.printed (Some step.next)) is takes, leads_to steps step.next last rest)

after_some : (before rest : List LineStep) (first last : ScriptState) → Lead first (before ++ rest) last → (state : ScriptState) × Lead state rest last
after_some [] rest first last lead = (first, lead)
after_some (step ∷ before) rest first last (is, takes, lead) = after_some before rest step.next last lead

module _ (plan : Plan) (name : List ℕ) (since : ℕ) where
  record Told (last : ScriptState) (more : List LineStep) (messages : List SubReply) : Type 0 where
    state : ScriptState
    tells : Tells plan name since state messages
    lead : Lead state more last

  told_all : (after more : List LineStep) (state last : ScriptState) (messages : List SubReply) → Lead state (after ++ more) last → AllByRecursion (λ (one : LineStep). IsOpen name one.next.calls) after → Tells plan name since state messages → Told last more (messages ++ flat_map (told_under name) after)
  told_all [] more state last messages lead stays tells = record { state = state; tells = subst (Tells plan name since state) (sym (append-nil messages)) tells; lead = lead }
  told_all (one ∷ after) more state last messages (is, takes, lead) stays tells =
      let here : Tells plan name since one.next (messages ++ told_under name one) = tells_next plan name since one.line one.state one.next one.printed messages takes stays.0 (subst (λ (s : ScriptState). Tells plan name since s messages) (sym is) tells) in
      subst (Told last more) (append_assoc messages (told_under name one) (flat_map (told_under name) after)) (told_all after more one.next last (messages ++ told_under name one) lead stays.1 here)

  folds_so : (last : ScriptState) (more : List LineStep) (messages : List SubReply) → Told last more messages → FoldsAtMarks plan last.history since messages
  folds_so last more messages told =
      let tells = told.tells in
      marks_fold plan tells.first tells.later messages last.history since tells.not_before
      (runs_are_kept (map (λ (step : LineStep). step.line) more) told.state last plan tells.first tells.later messages tells.call.stream (leads_to more told.state last told.lead) tells.at).run

streams_so : (steps : List LineStep) (first last : ScriptState) → Lead first steps last → (before after more : List LineStep) (step : LineStep) (plan : Plan) (name : List ℕ) (told : List SubReply) →
    steps ≡ before ++ step ∷ (after ++ more) → OpensStream plan name step told → AllByRecursion (λ (one : LineStep). IsOpen name one.next.calls) (step ∷ after) → FoldsAtMarks plan last.history (length (left_by step)) (told ++ flat_map (told_under name) after)
streams_so steps first last lead before after more step plan name told cut opens stays =
    let there = after_some before (step ∷ (after ++ more)) first last (subst (λ (l : List LineStep). Lead first l last) cut lead) in
    let begun = opened_so plan name opens.author opens.mode opens.only opens.note opens.calls step.state step.next step.printed opens.plan_is
    (subst (λ (l : Line). line_step l step.state ≡ Some (step_with (replies.Began opens.note) opens.calls)) opens.line opens.began)
    (subst (λ (l : Line). Takes l step.state step.printed (Some step.next)) opens.line there.1.1) stays.0 in
    folds_so plan name (length (left_by step)) last more (told ++ flat_map (told_under name) after)
    (told_all plan name (length (left_by step)) after more step.next last told there.1.2 stays.1 (subst (Tells plan name (length (left_by step)) step.next) (sym opens.told_is) (subst (λ (l : Line). Tells plan name (length (state_after l step.state).history) step.next (note_messages opens.note ++ Sync ∷ [])) (sym opens.line) begun)))

module _ (h : List Entry) (step : LineStep) (of : IsStepOf h step) (plan : Plan) (told : List SubReply) (ran : RanOn step) where
  -- a first turn at the state that the line left
  read_at : (line : Line) → step.line ≡ line → (made : Plan) → made ≡ plan → (note : Option Note) → told ≡ note_messages note ++ Sync ∷ [] → IsStreamRun made (first_moment step.state.reading (length (state_after line step.state).history)) [] (note_messages note ++ Sync ∷ []) (state_after line step.state).history → ReadsState plan h (length (left_by step)) told
  read_at line is made same note told_is run =
      let prefix = of.shown ran in
      let first = first_moment step.state.reading (length (left_by step)) in
      let messages = note_messages note ++ Sync ∷ [] in
      let here : IsStreamRun made first [] messages (left_by step) = subst (λ (l : Line). IsStreamRun made (first_moment step.state.reading (length (state_after l step.state).history)) [] messages (state_after l step.state).history) (sym is) run in
      subst (ReadsState plan h (length (left_by step))) (sym told_is)
      (reads_state plan first messages h
      (subst (λ (l : List Entry). IsStreamRun plan first [] messages l) (sym prefix.1)
      (messages_stay plan first [] messages (left_by step) prefix.0 (subst (λ (p : Plan). IsStreamRun p first [] messages (left_by step)) same here))))

  same_ok : (one two : Plan) (made : Result Plan Refusal) → made ≡ Ok one → made ≡ Ok two → one ≡ two
  same_ok one two made first second = cc (sym first ∙ second)

  read_so : ReadsOnce plan step told ⊎ ReadsPoll plan step told → ReadsState plan h (length (left_by step)) told
  read_so (inl reads) =
      let said = once_says reads.author reads.name reads.mode reads.only step.state reads.note reads.calls (subst (λ (l : Line). line_step l step.state ≡ Some (step_with (replies.Once reads.note) reads.calls)) reads.line reads.answered) in
      read_at (lines.Open reads.author reads.name reads.mode reads.only) reads.line said.0 (same_ok said.0 plan (plan_of (sub_ask reads.mode reads.only step.state.subs)) said.2 reads.plan_is) reads.note reads.told_is said.4.run.run
  read_so (inr reads) =
      let said = polls_say reads.name step.state reads.call reads.note reads.calls reads.named (subst (λ (l : Line). line_step l step.state ≡ Some (step_with (replies.Began reads.note) reads.calls)) reads.line reads.answered) in
      read_at (lines.Poll reads.name) reads.line reads.call.plan reads.plan_is reads.note reads.told_is said.2.run.run

all_reads : (h : List Entry) (steps : List LineStep) → AllByRecursion (IsStepOf h) steps → AllByRecursion (λ (step : LineStep). (plan : Plan) (told : List SubReply) → RanOn step → ReadsOnce plan step told ⊎ ReadsPoll plan step told → ReadsState plan h (length (left_by step)) told) steps
all_reads h [] all = tt
all_reads h (step ∷ steps) all = ((λ plan told ran reads. read_so h step all.0 plan told ran reads), all_reads h steps all.1)

-- ---- the script

pub answers_are_of_one : (tell : AnswersTell) (done : MakesDoneEvents) (schema : List SchemaNode) (limits : Limits) (script text : List ℕ) → KeepsAnswers schema limits script text → OneScript schema limits script text
answers_are_of_one tell done schema limits script text kept =
    let start = new_state schema limits in
    let steps = steps_of kept.lines start kept.last text kept.kept in
    let lead : Lead start steps kept.last = leads_so kept.lines start kept.last text kept.kept in
    let each = all_steps tell kept.lines start kept.last text kept.kept in
    let names = same_lines kept.lines start kept.last text kept.kept in
    record {
      h = kept.last.history;
      numbered = lead_history done kept.lines start kept.last (subst (λ (ls : List Line). LeadTo ls start kept.last) names (leads_to steps start kept.last lead)) tt;
      steps = steps;
      last = kept.last;
      are = subst (AreScriptLines (lines_of (within_limit script))) (sym names) kept.are;
      lead = lead;
      is_last = refl;
      prints = prints_so kept.lines start kept.last text kept.kept;
      each = each;
      streams = λ before after more step plan name told cut opens stays. streams_so steps start kept.last lead before after more step plan name told cut opens stays;
      reads = all_reads kept.last.history steps each;
    }
