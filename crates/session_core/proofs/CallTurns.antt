-- A turn of a call that is served, and what is left of the call.
use Rattle.std.proofs.Common.{◌≡◌, ℕ, zero, suc, ◌+◌, ◌-◌, ◌≤◌, List, [], ◌∷◌, ◌++◌, Bool, true, false, cond, refl, sym, ap, ◌∙◌, subst, arith, Option, Some, None, Result, Ok, Err}
use Rattle.base_kinds.specs.declared.refusal.Refusal.{Refusal}
use Rattle.base_kinds.specs.declared.refusal.Refusal.TheVariants.{DiskFault}
use Rattle.base_kinds.specs.declared.request.ListMode.{ListMode}
use Rattle.base_kinds.specs.declared.request.ListMode.TheVariants as modes
use Rattle.base_kinds.specs.Schema.{SchemaNode}
use Rattle.book_port.specs.Ports.{PortView}
use Rattle.h2_events.specs.declared.said.Said.TheVariants.{Finish}
use Rattle.subscribe_calls.specs.Calls.{CallView, new_call}
use Rattle.subscribe_calls.specs.Turns.{TurnsOnce, TurnsAnew}
use Rattle.session_core.specs.declared.reply.Reply.{Reply}
use Rattle.session_core.specs.declared.reply.Reply.TheVariants as replies
use Rattle.session_core.specs.declared.served.Served.{Served}
use Rattle.session_core.specs.Deeds.{Turning, IsTurnIn, has_failed, is_last_poll, kept_streaming, kept_polled, said_streaming, said_polled, told_all}
use Rattle.session_core.specs.inner.Steps.{IsTurned, deed_with, list_of, said_in, service}

not_disk : (refusal : Refusal) → (refusal ≡ DiskFault → ⊥) → said_streaming (Err refusal) ≡ Finish (Some refusal) ∷ []
not_disk DiskFault other = absurd (other refl)
not_disk refusal other = refl

none_kept : (refusal : Refusal) (served : Served) (after : CallView) → (refusal ≡ DiskFault → ⊥) → kept_streaming (Err refusal) served after ≡ []
none_kept DiskFault served after other = absurd (other refl)
none_kept refusal served after other = refl

module _ (schema : List SchemaNode) (served : Served) (old new : PortView) (before after : List ℕ) where
  -- a turn of a call of mode STREAM
  streaming : (now : ℕ) (call : CallView) (result : Result (List (List ℕ)) Refusal) (reply : Reply) (left : Option Served) (by : List SchemaNode) → served.call.plan.mode ≡ modes.Stream → by ≡ schema
      → TurnsOnce by now served.call old result call new → after ≡ before ++ now ∷ [] → said_in reply ≡ said_streaming result → list_of left ≡ kept_streaming result served call
      → IsTurned schema served reply left old new before after
  streaming now call result reply left by in_mode same turns_by read said kept =
      let turns = subst (λ (s : List SchemaNode). TurnsOnce s now served.call old result call new) same turns_by in
      record {
        readings = now ∷ [];
        turn = Some turns.looks.turn;
        failed = has_failed result;
        clock = read;
        deed = λ others later given free.
            let deed = deed_with served.stream Turning given (now ∷ []) (Some turns.looks.turn) (has_failed result) (said_in reply) in
            record {
              served = served;
              others = others;
              later = later;
              among = record { whole = refl; on = refl };
              free = free;
              turn = subst (λ (m : ListMode). IsTurnIn m schema served others later deed (service old (others ++ served ∷ later)) (service new (others ++ list_of left ++ later))) (sym in_mode) (record {
                result = result;
                after = call;
                turn = record { now = now; turns = turns; read = refl; turned = refl; failed = refl; says = said; calls_are = ap (λ (mine : List Served). others ++ mine ++ later) kept };
              });
            };
      }

  pub stream_says : (now : ℕ) (call : CallView) (messages : List (List ℕ)) (by : List SchemaNode) (result : Result (List (List ℕ)) Refusal) → served.call.plan.mode ≡ modes.Stream → by ≡ schema
      → TurnsOnce by now served.call old result call new → after ≡ before ++ now ∷ [] → result ≡ Ok messages
      → IsTurned schema served (replies.Say messages false) (Some (record served { call = call })) old new before after
  stream_says now call messages by result in_mode same turns read is =
      streaming now call (Ok messages) (replies.Say messages false) (Some (record served { call = call })) by in_mode same (subst (λ (r : Result (List (List ℕ)) Refusal). TurnsOnce by now served.call old r call new) is turns) read refl refl

  pub stream_tries_again : (now : ℕ) (call : CallView) (refusal : Refusal) (by : List SchemaNode) (result : Result (List (List ℕ)) Refusal) → served.call.plan.mode ≡ modes.Stream → by ≡ schema
      → TurnsOnce by now served.call old result call new → after ≡ before ++ now ∷ [] → result ≡ Err refusal → refusal ≡ DiskFault
      → IsTurned schema served replies.Nothing (Some (record served { call = call })) old new before after
  stream_tries_again now call refusal by result in_mode same turns read is fault =
      streaming now call (Err DiskFault) replies.Nothing (Some (record served { call = call })) by in_mode same
      (subst (λ (r : Result (List (List ℕ)) Refusal). TurnsOnce by now served.call old r call new) (is ∙ ap Err fault) turns) read refl refl

  pub stream_ends : (now : ℕ) (call : CallView) (refusal : Refusal) (by : List SchemaNode) (result : Result (List (List ℕ)) Refusal) → served.call.plan.mode ≡ modes.Stream → by ≡ schema
      → TurnsOnce by now served.call old result call new → after ≡ before ++ now ∷ [] → result ≡ Err refusal → (refusal ≡ DiskFault → ⊥)
      → IsTurned schema served (replies.Of (Err refusal)) None old new before after
  stream_ends now call refusal by result in_mode same turns read is other =
      streaming now call (Err refusal) (replies.Of (Err refusal)) None by in_mode same
      (subst (λ (r : Result (List (List ℕ)) Refusal). TurnsOnce by now served.call old r call new) is turns) read (sym (not_disk refusal other)) (sym (none_kept refusal served call other))

  -- a turn for a Poll
  polling : (now count : ℕ) (result : Result (List (List ℕ)) Refusal) (reply : Reply) (left : Option Served) (by : List SchemaNode) → served.call.plan.mode ≡ modes.Poll → by ≡ schema
      → TurnsAnew by now served.call.plan old result new → after ≡ before ++ now ∷ [] → served.polls ≡ count + 1 → said_in reply ≡ said_polled result served count → list_of left ≡ kept_polled result served count
      → IsTurned schema served reply left old new before after
  polling now count result reply left by in_mode same anew read polls said kept =
      let call = anew.0 in
      let turns = subst (λ (s : List SchemaNode). TurnsOnce s now (new_call served.call.plan) old result call new) same anew.1 in
      record {
        readings = now ∷ [];
        turn = Some turns.looks.turn;
        failed = has_failed result;
        clock = read;
        deed = λ others later given free.
            let deed = deed_with served.stream Turning given (now ∷ []) (Some turns.looks.turn) (has_failed result) (said_in reply) in
            record {
              served = served;
              others = others;
              later = later;
              among = record { whole = refl; on = refl };
              free = free;
              turn = subst (λ (m : ListMode). IsTurnIn m schema served others later deed (service old (others ++ served ∷ later)) (service new (others ++ list_of left ++ later))) (sym in_mode) (record {
                left = count;
                polls = polls;
                result = result;
                after = call;
                turn = record { now = now; turns = turns; read = refl; turned = refl; failed = refl; says = said; calls_are = ap (λ (mine : List Served). others ++ mine ++ later) kept };
              });
            };
      }

  one_less : (n : ℕ) → 1 ≤ n → n ≡ (n - 1) + 1
  one_less n some = omega (arith, some)

  last_if : (count : ℕ) → count ≡ 0 → served.ended ≡ true → is_last_poll served count ≡ true
  last_if zero none ended = ended
  last_if (suc count) none ended = absurd cc

  pub polls_end : (now : ℕ) (messages : List (List ℕ)) (by : List SchemaNode) (result : Result (List (List ℕ)) Refusal) → served.call.plan.mode ≡ modes.Poll → by ≡ schema
      → TurnsAnew by now served.call.plan old result new → after ≡ before ++ now ∷ [] → 1 ≤ served.polls → result ≡ Ok messages → served.polls - 1 ≡ 0 → served.ended ≡ true
      → IsTurned schema served (replies.Say messages true) None old new before after
  polls_end now messages by result in_mode same anew read some is none ended =
      let last = last_if (served.polls - 1) none ended in
      polling now (served.polls - 1) (Ok messages) (replies.Say messages true) None by in_mode same (subst (λ (r : Result (List (List ℕ)) Refusal). TurnsAnew by now served.call.plan old r new) is anew) read (one_less served.polls some)
      (ap (told_all messages) (sym last)) (sym (ap (λ (b : Bool). cond b [] (record served { polls = served.polls - 1 } ∷ [])) last))

  pub polls_go_on : (now : ℕ) (messages : List (List ℕ)) (by : List SchemaNode) (result : Result (List (List ℕ)) Refusal) → served.call.plan.mode ≡ modes.Poll → by ≡ schema
      → TurnsAnew by now served.call.plan old result new → after ≡ before ++ now ∷ [] → 1 ≤ served.polls → result ≡ Ok messages → is_last_poll served (served.polls - 1) ≡ false
      → IsTurned schema served (replies.Say messages false) (Some (record served { polls = served.polls - 1 })) old new before after
  polls_go_on now messages by result in_mode same anew read some is more =
      polling now (served.polls - 1) (Ok messages) (replies.Say messages false) (Some (record served { polls = served.polls - 1 })) by in_mode same (subst (λ (r : Result (List (List ℕ)) Refusal). TurnsAnew by now served.call.plan old r new) is anew) read (one_less served.polls some)
      (ap (told_all messages) (sym more)) (sym (ap (λ (b : Bool). cond b [] (record served { polls = served.polls - 1 } ∷ [])) more))

  pub poll_refused : (now : ℕ) (refusal : Refusal) (by : List SchemaNode) (result : Result (List (List ℕ)) Refusal) → served.call.plan.mode ≡ modes.Poll → by ≡ schema
      → TurnsAnew by now served.call.plan old result new → after ≡ before ++ now ∷ [] → 1 ≤ served.polls → result ≡ Err refusal
      → IsTurned schema served (replies.Of (Err refusal)) None old new before after
  poll_refused now refusal by result in_mode same anew read some is =
      polling now (served.polls - 1) (Err refusal) (replies.Of (Err refusal)) None by in_mode same (subst (λ (r : Result (List (List ℕ)) Refusal). TurnsAnew by now served.call.plan old r new) is anew) read (one_less served.polls some) refl refl

-- it isn't the last one where others wait, or the peer hasn't ended the call
pub not_last : (served : Served) (count : ℕ) → served.ended ≡ false → is_last_poll served count ≡ false
not_last served zero going_on = going_on
not_last served (suc count) going_on = refl

pub more_wait : (served : Served) (count : ℕ) → (count ≡ 0 → ⊥) → is_last_poll served count ≡ false
more_wait served zero some = absurd (some refl)
more_wait served (suc count) some = refl
