-- The turns of a call are a run of a stream.
use Rattle.std.proofs.Common.{◌≡◌, ℕ, ◌≤◌, List, [], ◌∷◌, ◌++◌, length, refl, sym, ap, subst, Option, Some, None}
use Rattle.std.specs.Prelude.{take}
use Rattle.std.proofs.Math.Nat.{le_refl}
use Rattle.base_kinds.specs.declared.entry.Entry.{Entry}
use Rattle.base_kinds.specs.declared.entry.View.{View}
use Rattle.base_kinds.specs.Events.{view_of}
use Rattle.gnmi_kinds.specs.declared.reply.SubReply.{SubReply}
use Rattle.sub_plan.specs.declared.plan.Plan.{Plan}
use Rattle.sub_plan.specs.Groups.{patterns_of}
use Rattle.stream_laws.specs.Runs.{Moment, GoOn, view_at}
use Rattle.stream_laws.specs.Folds.{last_moment}
use Rattle.stream_laws.specs.Streams.{StreamView, stream_from, stream_after}
use Rattle.stream_laws.specs.Follows.{IsStreamAt, started_messages, messages_at, first_moment, moment_of}
use Rattle.stream_laws.proofs.Following.{runs_begin, starts_say, runs_stay, turns_go_on}
use Rattle.subscribe_calls.specs.Calls.{CallView, HaveSaid, IsCallAt, IsRunning, next_messages, next_stream, messages_with, call_after, view_in}

take_whole : {A : Type 0} (items : List A) → take (length items) items ≡ items
take_whole [] = refl
take_whole (item ∷ items) = ap (λ (rest : _). item ∷ rest) (take_whole items)

-- the last position is inside the history
last_inside : (most time : ℕ) (first : Moment) (later : List Moment) → first.position ≤ most → GoOn most time first.position later
    → (last_moment first later).position ≤ most
last_inside most time first [] inside go = inside
last_inside most time first (moment ∷ moments) inside go = last_inside most moment.time moment moments go.2 go.3

at_end : (plan : Plan) (h : List Entry) → view_at plan.lines h (length h) ≡ view_in plan h
at_end plan h = ap (λ (front : List Entry). view_of front (patterns_of plan.lines)) (take_whole h)

begins : (plan : Plan) (h : List Entry) (now : ℕ) (view : View) → view_at plan.lines h (length h) ≡ view
    → IsRunning plan (started_messages plan view) h (stream_from plan now view)
begins plan h now view is =
    subst (λ (v : View). IsRunning plan (started_messages plan v) h (stream_from plan now v)) is
    (record {
      first = first_moment now (length h);
      later = [];
      at = subst (λ (messages : List SubReply). IsStreamAt plan (first_moment now (length h)) [] messages h (stream_from plan now (view_at plan.lines h (length h))))
          (sym (starts_say plan (view_at plan.lines h (length h))))
          (runs_begin plan h now (length h) (le_refl (length h)));
    })

goes : (plan : Plan) (messages : List SubReply) (h more : List Entry) (stream : StreamView) (now : ℕ) (view : View) → IsRunning plan messages h stream
    → view_at plan.lines (h ++ more) (length (h ++ more)) ≡ view
    → IsRunning plan (messages ++ messages_at stream now view) (h ++ more) (stream_after stream now view)
goes plan messages h more stream now view running is =
    let at : IsStreamAt plan running.first running.later messages (h ++ more) stream =
    runs_stay plan running.first running.later messages h more stream running.at in
    subst (λ (v : View). IsRunning plan (messages ++ messages_at stream now v) (h ++ more) (stream_after stream now v)) is
    (record {
      first = running.first;
      later = running.later ++ moment_of stream now (length (h ++ more)) ∷ [];
      at = turns_go_on plan running.first running.later messages (h ++ more) stream now (length (h ++ more)) at
          (last_inside (length (h ++ more)) running.first.time running.first running.later at.run.inside at.run.go_on) (le_refl (length (h ++ more)));
    })

goes_on : (plan : Plan) (stream : Option StreamView) (messages : List SubReply) (h more : List Entry) (now : ℕ) → HaveSaid plan messages h stream
    → HaveSaid plan (messages ++ next_messages plan stream now (view_in plan (h ++ more))) (h ++ more) (Some (next_stream plan stream now (view_in plan (h ++ more))))
goes_on plan None messages h more now said =
    subst (λ (ms : List SubReply). IsRunning plan (ms ++ started_messages plan (view_in plan (h ++ more))) (h ++ more) (stream_from plan now (view_in plan (h ++ more))))
    (sym said) (begins plan (h ++ more) now (view_in plan (h ++ more)) (at_end plan (h ++ more)))
goes_on plan (Some stream) messages h more now running =
    goes plan messages h more stream now (view_in plan (h ++ more)) running (at_end plan (h ++ more))

stays : (plan : Plan) (stream : Option StreamView) (messages : List SubReply) (h more : List Entry) → HaveSaid plan messages h stream
    → HaveSaid plan messages (h ++ more) stream
stays plan None messages h more said = said
stays plan (Some stream) messages h more running = record {
  first = running.first;
  later = running.later;
  at = runs_stay plan running.first running.later messages h more stream running.at;
}

pub calls_go_on : (messages : List SubReply) (h more : List Entry) (call : CallView) (now : ℕ) → IsCallAt messages h call
    → IsCallAt (messages ++ messages_with call now (view_in call.plan (h ++ more))) (h ++ more) (call_after call now (view_in call.plan (h ++ more)))
calls_go_on messages h more call now at = goes_on call.plan call.stream messages h more now at

pub calls_stay : (messages : List SubReply) (h more : List Entry) (call : CallView) → IsCallAt messages h call → IsCallAt messages (h ++ more) call
calls_stay messages h more call at = stays call.plan call.stream messages h more at
