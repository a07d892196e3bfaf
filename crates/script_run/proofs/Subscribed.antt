-- The state behind a line of subscriptions.
use Rattle.std.proofs.Common.{◌≡◌, ℕ, List, [], Bool, Option, Some, None, refl, ap, ◌∙◌}
use Rattle.base_kinds.specs.declared.path.Elem.{Elem}
use Rattle.base_kinds.specs.declared.request.ListMode.{ListMode}
use Rattle.base_kinds.specs.declared.request.SubLine.{SubLine}
use Rattle.book_core.specs.Views.{BookView, history_in}
use Rattle.memory_disks.specs.Fuses.{FuseView}
use Rattle.script_text.specs.declared.line.Line.TheVariants as lines
use Rattle.script_run.specs.inner.ScriptBooks.{IsLeft, left_by_look, looked_at}
use Rattle.script_run.specs.OpenCalls.{call_named}
use Rattle.script_run.specs.ScriptStates.{ScriptState, book_behind, event_of_look, look_answer, state_after}
use Rattle.script_run.specs.Subscribing.{CallStep, step_with, open_look, open_step, poll_look, poll_step, turn_look, turn_step}
use Rattle.script_run.specs.Turns.{BookState, looked_by}
use Rattle.script_run.specs.declared.calls.NamedCall.{NamedCall}
use Rattle.script_run.specs.declared.pending.Pending.{Pending}
use Rattle.script_run.specs.declared.subscribing.CallReply.{CallReply}
use Rattle.script_run.proofs.Books.{state_seen}

module _ (old : BookView FuseView) (reading : ℕ) (pending : Pending) (subs : List SubLine) (calls : List NamedCall) where
  abbrev pub seen : ScriptState
  seen = state_seen old reading pending subs calls

  look_book : (look : Option (List (List Elem))) → left_by_look look reading old ≡ book_behind (event_of_look look seen) seen
  look_book None = refl
  look_book (Some patterns) = refl

  look_same : (look : Option (List (List Elem))) → looked_at look reading old ≡ looked_by (book_behind (event_of_look look seen) seen).failed (history_in old) reading look
  look_same look = ap (λ (b : BookState). looked_by b.failed (history_in old) reading look) (look_book look)

  abbrev state_with : BookState → List SubLine → List NamedCall → ScriptState
  state_with left subs' calls' = record {
    schema = old.opened.schema;
    limits = old.opened.limits;
    reading = reading;
    pending = pending;
    subs = subs';
    calls = calls';
    history = left.history;
    doubt = left.doubt;
    arming = left.arming;
  }

  subscribed : (look : Option (List (List Elem))) (new : BookView FuseView) (subs' : List SubLine) (calls' : List NamedCall) → IsLeft (left_by_look look reading old) old new → state_seen new reading pending subs' calls' ≡ state_with (book_behind (event_of_look look seen) seen) subs' calls'
  subscribed look new subs' calls' left =
      (λ i. record {
        schema = (left.opened i).schema;
        limits = (left.opened i).limits;
        reading = reading;
        pending = pending;
        subs = subs';
        calls = calls';
        history = left.history i;
        doubt = left.doubt i;
        arming = left.arming i;
      })
      ∙ ap (λ (b : BookState). state_with b subs' calls') (look_book look)

  pub turned : (name : List ℕ) (new : BookView FuseView) (reply : CallReply) (calls' : List NamedCall) → IsLeft (left_by_look (turn_look (call_named name calls)) reading old) old new
      → step_with reply calls' ≡ turn_step name (call_named name calls) reading (looked_at (turn_look (call_named name calls)) reading old) calls
      → state_seen new reading pending subs calls' ≡ state_after (lines.Turn name) seen
  unfolding state_after
  turned name new reply calls' left step =
      let look : Option (List (List Elem)) = turn_look (call_named name calls) in
      let same = step ∙ ap (λ l. turn_step name (call_named name calls) reading l calls) (look_same look) in
      subscribed look new subs calls' left
      ∙ ap (λ (s : CallStep). state_with (book_behind (event_of_look look seen) seen) subs s.calls) same

  pub polled : (name : List ℕ) (new : BookView FuseView) (reply : CallReply) (calls' : List NamedCall) → IsLeft (left_by_look (poll_look (call_named name calls)) reading old) old new
      → step_with reply calls' ≡ poll_step name (call_named name calls) (looked_at (poll_look (call_named name calls)) reading old) calls
      → state_seen new reading pending subs calls' ≡ state_after (lines.Poll name) seen
  unfolding state_after
  polled name new reply calls' left step =
      let look : Option (List (List Elem)) = poll_look (call_named name calls) in
      let same = step ∙ ap (λ l. poll_step name (call_named name calls) l calls) (look_same look) in
      subscribed look new subs calls' left
      ∙ ap (λ (s : CallStep). state_with (book_behind (event_of_look look seen) seen) subs s.calls) same

  module _ (author : ℕ) (name : List ℕ) (mode : ListMode) (only : Bool) where
    abbrev opens : Option (List (List Elem))
    opens = open_look name mode only subs calls

    open_same : (reply : CallReply) (calls' : List NamedCall) → step_with reply calls' ≡ open_step author name mode only subs reading (looked_at opens reading old) calls → step_with reply calls' ≡ open_step author name mode only subs reading (look_answer (lines.Open author name mode only) seen) calls
    open_same reply calls' step = step ∙ ap (λ l. open_step author name mode only subs reading l calls) (look_same opens)

    pub opened : (new : BookView FuseView) (reply : CallReply) (calls' : List NamedCall) → IsLeft (left_by_look opens reading old) old new
        → step_with reply calls' ≡ open_step author name mode only subs reading (looked_at opens reading old) calls
        → state_seen new reading pending [] calls' ≡ state_after (lines.Open author name mode only) seen
    unfolding state_after
    opened new reply calls' left step =
        subscribed opens new [] calls' left
        ∙ ap (λ (s : CallStep). state_with (book_behind (event_of_look opens seen) seen) [] s.calls) (open_same reply calls' step)

    pub opened_reply : (reply : CallReply) (calls' : List NamedCall) → step_with reply calls' ≡ open_step author name mode only subs reading (looked_at opens reading old) calls
        → reply ≡ (open_step author name mode only subs reading (look_answer (lines.Open author name mode only) seen) calls).reply
    opened_reply reply calls' step = ap (λ (s : CallStep). s.reply) (open_same reply calls' step)
