-- ONCE and POLL calls: what their messages fold to, how they begin and go on, and that they stay.
use Rattle.std.proofs.Common.{◌≡◌, ℕ, zero, suc, ◌≤◌, List, [], ◌∷◌, ◌++◌, Bool, true, false, true≢false, refl, sym, ap, subst, ◌∙◌, take, length, slice_get, Some, is_some, append_assoc, append-nil}
use Rattle.base_kinds.specs.declared.entry.Entry.{Entry}
use Rattle.history_laws.proofs.States.{rising_world}
use Rattle.sub_plan.specs.declared.plan.Plan.{Plan}
use Rattle.sub_plan.specs.Groups.{group_rows}
use Rattle.gnmi_kinds.specs.declared.reply.SubReply.{SubReply}
use Rattle.base_kinds.specs.declared.entry.View.{View}
use Rattle.stream_laws.specs.Runs.{first_messages, Moment, view_at, turn_at}
use Rattle.stream_laws.specs.Folds.{fold_of, tree_at, last_stamp}
use Rattle.stream_laws.specs.Follows.{first_moment, started_messages}
use Rattle.stream_laws.specs.Polls.{IsOnceRun, Poll, ArePolls, messages_in, IsPollRun, last_position, FoldsToState, poll_at}
use Rattle.stream_laws.proofs.Runs.{run_folds, rising_at, own_part}
use Rattle.stream_laws.proofs.Following.{starts_say, messages_stay}

-- the stamp of a first turn is that of its notification, where it has one
first_stamp : (only : Bool) (view : View) → last_stamp view.stamp (first_messages only view ++ []) ≡ view.stamp
first_stamp true view = refl
first_stamp false view = refl

pub once_runs_fold : (plan : Plan) (moment : Moment) (messages : List SubReply) (h : List Entry) → IsOnceRun plan moment messages h → FoldsToState plan moment messages h
once_runs_fold plan moment messages h run =
    let lines = plan.lines in
    let turn = turn_at lines h moment in
    let folds : fold_of plan turn.view messages ≡ turn.view.rows = ap (fold_of plan turn.view) run.whole ∙ run_folds plan turn [] (rising_at lines h moment) tt in
    record {
      whole = folds;
      each = λ number. ap (group_rows lines number) folds ∙ own_part lines number (tree_at h moment) (rising_world (take moment.position h));
      stamp = ap (last_stamp turn.view.stamp) run.whole ∙ first_stamp plan.updates_only turn.view;
    }

poll_is_once : (plan : Plan) (position : ℕ) (polls : List Poll) (h : List Entry) → ArePolls plan position polls h → (number : ℕ) (poll : Poll) → slice_get polls number ≡ Some poll → IsOnceRun plan poll.moment poll.messages h
poll_is_once plan position [] h are number poll is = absurd (true≢false (sym (ap is_some is)))
poll_is_once plan position (first ∷ polls) h are zero poll is =
    let same : first ≡ poll = cc is in
    subst (λ (p : Poll). IsOnceRun plan p.moment p.messages h) same are.0
poll_is_once plan position (first ∷ polls) h are (suc number) poll is = poll_is_once plan first.moment.position polls h are.2 number poll is

pub poll_runs_fold : (plan : Plan) (polls : List Poll) (messages : List SubReply) (h : List Entry) → IsPollRun plan polls messages h → (number : ℕ) (poll : Poll) → slice_get polls number ≡ Some poll → FoldsToState plan poll.moment poll.messages h
poll_runs_fold plan polls messages h run number poll is = once_runs_fold plan poll.moment poll.messages h (poll_is_once plan 0 polls h run.each number poll is)

pub once_runs_begin : (plan : Plan) (h : List Entry) (now position : ℕ) → position ≤ length h → IsOnceRun plan (first_moment now position) (started_messages plan (view_at plan.lines h position)) h
once_runs_begin plan h now position inside = record {
  time = refl;
  inside = inside;
  go_on = tt;
  whole = starts_say plan (view_at plan.lines h position) ∙ sym (append-nil (first_messages plan.updates_only (view_at plan.lines h position)));
}

pub poll_runs_begin : (plan : Plan) (h : List Entry) → IsPollRun plan [] [] h
poll_runs_begin plan h = record { each = tt; whole = refl }

polls_more : (plan : Plan) (last : ℕ) (polls : List Poll) (h : List Entry) (now position : ℕ) → ArePolls plan last polls h → last_position last polls ≤ position → position ≤ length h → ArePolls plan last (polls ++ poll_at plan h now position ∷ []) h
polls_more plan last [] h now position are after inside = (once_runs_begin plan h now position inside, after, tt)
polls_more plan last (poll ∷ polls) h now position are after inside = (are.0, are.1, polls_more plan poll.moment.position polls h now position are.2 after inside)

messages_more : (polls : List Poll) (poll : Poll) → messages_in polls ++ poll.messages ≡ messages_in (polls ++ poll ∷ [])
messages_more [] poll = sym (append-nil poll.messages)
messages_more (first ∷ polls) poll = append_assoc first.messages (messages_in polls) poll.messages ∙ ap (λ more. first.messages ++ more) (messages_more polls poll)

pub poll_runs_go_on : (plan : Plan) (polls : List Poll) (messages : List SubReply) (h : List Entry) (now position : ℕ) → IsPollRun plan polls messages h → last_position 0 polls ≤ position → position ≤ length h → IsPollRun plan (polls ++ poll_at plan h now position ∷ []) (messages ++ started_messages plan (view_at plan.lines h position)) h
poll_runs_go_on plan polls messages h now position run after inside = record {
  each = polls_more plan 0 polls h now position run.each after inside;
  whole = ap (λ m. m ++ started_messages plan (view_at plan.lines h position)) run.whole ∙ messages_more polls (poll_at plan h now position);
}

pub once_runs_stay : (plan : Plan) (moment : Moment) (messages : List SubReply) (h more : List Entry) → IsOnceRun plan moment messages h → IsOnceRun plan moment messages (h ++ more)
once_runs_stay plan moment messages h more run = messages_stay plan moment [] messages h more run

polls_stay : (plan : Plan) (position : ℕ) (polls : List Poll) (h more : List Entry) → ArePolls plan position polls h → ArePolls plan position polls (h ++ more)
polls_stay plan position [] h more are = tt
polls_stay plan position (poll ∷ polls) h more are = (once_runs_stay plan poll.moment poll.messages h more are.0, are.1, polls_stay plan poll.moment.position polls h more are.2)

pub poll_runs_stay : (plan : Plan) (polls : List Poll) (messages : List SubReply) (h more : List Entry) → IsPollRun plan polls messages h → IsPollRun plan polls messages (h ++ more)
poll_runs_stay plan polls messages h more run = record { each = polls_stay plan 0 polls h more run.each; whole = run.whole }
