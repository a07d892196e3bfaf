-- What a Subscribe call is answered, and how it begins to be served.
use Rattle.std.proofs.Common.{◌≡◌, ◌⊎◌, inl, inr, ℕ, List, [], ◌∷◌, ◌++◌, Bool, true, false, refl, sym, ap, ◌∙◌, subst, append-nil, append_assoc}
use Rattle.std.specs.Prelude.{Option, Some, None, Result, Ok, Err, IfOk, MatchResult, OnOk, map}
use Rattle.base_kinds.specs.declared.refusal.Refusal.{Refusal}
use Rattle.base_kinds.specs.declared.refusal.Refusal.TheVariants.{NoMemory, Unsupported}
use Rattle.base_kinds.specs.declared.request.ListMode.{ListMode}
use Rattle.base_kinds.specs.declared.request.ListMode.TheVariants as modes
use Rattle.base_kinds.specs.Schema.{SchemaNode}
use Rattle.base_lists.specs.Results.{IsUnlessMemory}
use Rattle.h2_events.specs.declared.said.Said.{Said}
use Rattle.h2_events.specs.declared.said.Said.TheVariants.{Message, Finish}
use Rattle.grpc_requests.specs.declared.request.Asked.TheVariants as asks
use Rattle.book_port.specs.Ports.{PortView}
use Rattle.gnmi_sub_msg.specs.declared.turns.SubTurn.{SubTurn}
use Rattle.gnmi_sub_msg.specs.declared.turns.SubTurn.TheVariants as messages_of
use Rattle.gnmi_sub_msg.specs.Turns.{turn_of}
use Rattle.sub_plan.specs.Plans.{plan_of}
use Rattle.request_desk.specs.Subscribes.{begun, first_step, message_step, subscribe_step}
use Rattle.request_desk.specs.declared.subscribe_steps.SubscribeStep.{SubscribeStep}
use Rattle.request_desk.specs.declared.subscribe_steps.SubscribeStep.TheVariants.{Begin, Poll}
use Rattle.sub_plan.specs.declared.plan.Plan.{Plan}
use Rattle.subscribe_calls.specs.Calls.{CallView, new_call}
use Rattle.subscribe_calls.specs.Turns.{TurnsOnce}
use Rattle.session_core.specs.declared.reply.Reply.{Reply}
use Rattle.session_core.specs.declared.reply.Reply.TheVariants as replies
use Rattle.session_core.specs.declared.served.Served.{Served}
use Rattle.session_core.specs.declared.waiting.Waiting.{Waiting}
use Rattle.session_core.specs.Deeds.{Deed, Answering, IsPlain, IsOnce, IsBegun, IsFirst, IsAnswer, has_failed, new_served, others_than, said_once, told_all}
use Rattle.session_core.specs.inner.Steps.{IsReplied, deed_with, said_in, service}
use Rattle.session_core.specs.inner.Words.{words}

-- ---- what waits

words-append : (stream : ℕ) (xs ys : List Said) → words stream (xs ++ ys) ≡ words stream xs ++ words stream ys
words-append stream [] ys = refl
words-append stream (x ∷ xs) ys = ap (λ (ws : List Waiting). record { stream = stream; said = x } ∷ ws) (words-append stream xs ys)

-- a message more was put behind what waits, of those that are left
pub one_put : (stream : ℕ) (message : List ℕ) (items rest : List (List ℕ)) (first waiting next : List Waiting) (all : List (List ℕ)) → items ≡ message ∷ rest → next ≡ waiting ++ words stream (Message message ∷ [])
    → waiting ++ words stream (map Message items) ≡ first ++ words stream (map Message all)
    → next ++ words stream (map Message rest) ≡ first ++ words stream (map Message all)
one_put stream message items rest first waiting next all split grown before =
    ap (λ (ws : List Waiting). ws ++ words stream (map Message rest)) grown
    ∙ append_assoc waiting (words stream (Message message ∷ [])) (words stream (map Message rest))
    ∙ ap (λ (ms : List (List ℕ)). waiting ++ words stream (map Message ms)) (sym split)
    ∙ before

-- the end was put behind the messages, where the call ends
pub end_put : (stream : ℕ) (messages : List (List ℕ)) (ends : Bool) (first waiting next : List Waiting) → ends ≡ true → waiting ≡ first ++ words stream (map Message messages) → next ≡ waiting ++ words stream (Finish None ∷ [])
    → next ≡ first ++ words stream (told_all messages ends)
end_put stream messages ends first waiting next is put grown =
    grown ∙ ap (λ (ws : List Waiting). ws ++ words stream (Finish None ∷ [])) put
    ∙ append_assoc first (words stream (map Message messages)) (words stream (Finish None ∷ []))
    ∙ ap (λ (ws : List Waiting). first ++ ws) (sym (words-append stream (map Message messages) (Finish None ∷ [])))
    ∙ ap (λ (b : Bool). first ++ words stream (told_all messages b)) (sym is)

pub end_put_if : {E : Type 0} (result : Result (Unit {0}) E) (stream : ℕ) (messages : List (List ℕ)) (ends : Bool) (first waiting next : List Waiting) → ends ≡ true → waiting ≡ first ++ words stream (map Message messages)
    → OnOk result (next ≡ waiting ++ words stream (Finish None ∷ [])) → OnOk result (next ≡ first ++ words stream (told_all messages ends))
end_put_if (Ok done) stream messages ends first waiting next is put grown = end_put stream messages ends first waiting next is put grown
end_put_if (Err fault) stream messages ends first waiting next is put grown = grown

pub no_end_put : (stream : ℕ) (messages : List (List ℕ)) (ends : Bool) (first waiting : List Waiting) → ends ≡ false → waiting ≡ first ++ words stream (map Message messages)
    → waiting ≡ first ++ words stream (told_all messages ends)
no_end_put stream messages ends first waiting is put =
    put ∙ ap (λ (said : List Said). first ++ words stream said) (sym (append-nil (map Message messages)))
    ∙ ap (λ (b : Bool). first ++ words stream (told_all messages b)) (sym is)

-- ---- what is answered

module _ (schema : List SchemaNode) (stream : ℕ) (body : List ℕ) (old new : PortView) (calls : List Served) (before after : List ℕ) where
  plainly : (reply : Reply) (left : List Served) → new ≡ old → after ≡ before
      → ((deed : Deed) → deed.stream ≡ stream → IsPlain (said_in reply) left deed (service old calls) (service new left) → IsAnswer schema (asks.Subscribe body) deed (service old calls) (service new left))
      → IsReplied schema stream (asks.Subscribe body) reply (service old calls) (service new left) before after
  plainly reply left same still answers = record {
    readings = [];
    turn = None;
    failed = false;
    clock = still ∙ sym (append-nil before);
    deed = λ given. answers (deed_with stream (Answering (asks.Subscribe body)) given [] None false (said_in reply)) refl
        (record { says = refl; unread = refl; unturned = refl; unfailed = refl; new_is = ap (λ (p : PortView). service p left) same });
  }

  pub starved : new ≡ old → after ≡ before → IsReplied schema stream (asks.Subscribe body) (replies.Of (Err NoMemory)) (service old calls) (service new calls) before after
  starved same still = plainly (replies.Of (Err NoMemory)) calls same still (λ deed on plain. inr plain)

  stepped : (reply : Reply) (left : List Served) (step : Result SubscribeStep Refusal) → new ≡ old → after ≡ before → subscribe_step None body ≡ step
      → ((deed : Deed) → deed.stream ≡ stream → IsPlain (said_in reply) left deed (service old calls) (service new left) → IsFirst schema step deed (service old calls) (service new left))
      → IsReplied schema stream (asks.Subscribe body) reply (service old calls) (service new left) before after
  stepped reply left step same still is answers = plainly reply left same still
      (λ deed on plain. inl (subst (λ (s : Result SubscribeStep Refusal). IsFirst schema s deed (service old calls) (service new left)) (sym is) (answers deed on plain)))

  -- a refusal
  turned_away : (refusal : Refusal) → new ≡ old → after ≡ before → subscribe_step None body ≡ Err refusal
      → IsReplied schema stream (asks.Subscribe body) (replies.Of (Err refusal)) (service old calls) (service new calls) before after
  turned_away refusal same still is = stepped (replies.Of (Err refusal)) calls (Err refusal) same still is (λ deed on plain. plain)

  refused_by : (want : Refusal) (refusal : Refusal) → want ≡ NoMemory → new ≡ old → after ≡ before → IsUnlessMemory {A = SubscribeStep} want (Err refusal) (subscribe_step None body)
      → IsReplied schema stream (asks.Subscribe body) (replies.Of (Err refusal)) (service old calls) (service new calls) before after
  refused_by want NoMemory is same still step = starved same still
  refused_by want refusal is same still step = turned_away refusal same still (step (λ e. absurd cc))

  pub refused : (refusal : Refusal) → new ≡ old → after ≡ before → IsUnlessMemory {A = SubscribeStep} NoMemory (Err refusal) (subscribe_step None body)
      → IsReplied schema stream (asks.Subscribe body) (replies.Of (Err refusal)) (service old calls) (service new calls) before after
  refused refusal same still step = refused_by NoMemory refusal refl same still step

  -- a call that isn't of a mode that is known
  pub in_no_mode : (plan : Plan) → new ≡ old → after ≡ before → subscribe_step None body ≡ Ok (Begin plan) → plan.mode ≡ modes.Other
      → IsReplied schema stream (asks.Subscribe body) (replies.Of (Err Unsupported)) (service old calls) (service new calls) before after
  in_no_mode plan same still is in_mode = stepped (replies.Of (Err Unsupported)) calls (Ok (Begin plan)) same still is
      (λ deed on plain. subst (λ (m : ListMode). IsBegun schema plan m deed (service old calls) (service new calls)) (sym in_mode) plain)

  -- a call begins to be served
  begins_in : (plan : Plan) (mode : ListMode) (left : List Served) → new ≡ old → after ≡ before → subscribe_step None body ≡ Ok (Begin plan) → plan.mode ≡ mode
      → ((deed : Deed) → IsPlain [] (others_than deed.stream calls ++ new_served deed.stream plan ∷ []) deed (service old calls) (service new left) → IsBegun schema plan mode deed (service old calls) (service new left))
      → left ≡ others_than stream calls ++ new_served stream plan ∷ []
      → IsReplied schema stream (asks.Subscribe body) replies.Nothing (service old calls) (service new left) before after
  begins_in plan mode left same still is in_mode begun grown = stepped replies.Nothing left (Ok (Begin plan)) same still is
      (λ deed on plain. subst (λ (m : ListMode). IsBegun schema plan m deed (service old calls) (service new left)) (sym in_mode)
      (begun deed (subst (λ (cs : List Served). IsPlain [] cs deed (service old calls) (service new left)) (grown ∙ ap (λ (s : ℕ). others_than s calls ++ new_served s plan ∷ []) (sym on)) plain)))

  pub begins : (plan : Plan) (left : List Served) → new ≡ old → after ≡ before → subscribe_step None body ≡ Ok (Begin plan) → (plan.mode ≡ modes.Stream) ⊎ (plan.mode ≡ modes.Poll)
      → left ≡ others_than stream calls ++ new_served stream plan ∷ []
      → IsReplied schema stream (asks.Subscribe body) replies.Nothing (service old calls) (service new left) before after
  begins plan left same still is (inl in_mode) grown = begins_in plan modes.Stream left same still is in_mode (λ deed plain. plain) grown
  begins plan left same still is (inr in_mode) grown = begins_in plan modes.Poll left same still is in_mode (λ deed plain. plain) grown

  -- the turn of a ONCE call
  once : (plan : Plan) (now : ℕ) (call : CallView) (result : Result (List (List ℕ)) Refusal) (reply : Reply) → subscribe_step None body ≡ Ok (Begin plan) → plan.mode ≡ modes.Once
      → TurnsOnce schema now (new_call plan) old result call new → after ≡ before ++ now ∷ [] → said_in reply ≡ said_once result
      → IsReplied schema stream (asks.Subscribe body) reply (service old calls) (service new calls) before after
  once plan now call result reply is in_mode turns read said = record {
    readings = now ∷ [];
    turn = Some turns.looks.turn;
    failed = has_failed result;
    clock = read;
    deed = λ given.
        let deed = deed_with stream (Answering (asks.Subscribe body)) given (now ∷ []) (Some turns.looks.turn) (has_failed result) (said_in reply) in
        let answers : IsOnce schema plan deed (service old calls) (service new calls) = record {
          result = result;
          after = call;
          turn = record { now = now; turns = turns; read = refl; turned = refl; failed = refl; says = said; calls_are = refl };
        } in
        inl (subst (λ (s : Result SubscribeStep Refusal). IsFirst schema s deed (service old calls) (service new calls)) (sym is)
        (subst (λ (m : ListMode). IsBegun schema plan m deed (service old calls) (service new calls)) (sym in_mode) answers));
  }

  -- by a call that has just begun, with the schema of the desk
  pub once_turned : (plan : Plan) (by : List SchemaNode) (fresh : CallView) (now : ℕ) (call : CallView) (result : Result (List (List ℕ)) Refusal) (reply : Reply) → subscribe_step None body ≡ Ok (Begin plan) → plan.mode ≡ modes.Once
      → by ≡ schema → fresh ≡ new_call plan → TurnsOnce by now fresh old result call new → after ≡ before ++ now ∷ [] → said_in reply ≡ said_once result
      → IsReplied schema stream (asks.Subscribe body) reply (service old calls) (service new calls) before after
  once_turned plan by fresh now call result reply is in_mode same anew turns read said =
      once plan now call result reply is in_mode
      (subst (λ (c : CallView). TurnsOnce schema now c old result call new) anew (subst (λ (s : List SchemaNode). TurnsOnce s now fresh old result call new) same turns)) read said

-- a first message is no Poll
begun_is : (plan : Result Plan Refusal) → begun plan ≡ Ok Poll → ⊥
begun_is (Ok plan) is = absurd cc
begun_is (Err refusal) is = absurd cc

first_is : (turn : SubTurn) → first_step turn ≡ Ok Poll → ⊥
first_is (messages_of.List ask) is = begun_is (plan_of ask) is
first_is messages_of.Poll is = absurd cc
first_is messages_of.Unsupported is = absurd cc

message_is : (turn : Option SubTurn) → message_step None turn ≡ Ok Poll → ⊥
message_is None is = absurd cc
message_is (Some turn) is = first_is turn is

pub no_poll_first : (body : List ℕ) → subscribe_step None body ≡ Ok Poll → ⊥
no_poll_first body is = message_is (turn_of body) is

-- what holds of an answer, or nothing was done
pub ok_or : {A E : Type 0} (P : A → Type 0) (Q : Type 0) (result : Result A E) → Q → IfOk result P → MatchResult result P (λ fault. Q)
ok_or P Q (Ok value) q p = p
ok_or P Q (Err fault) q p = q

pub begun_or : {A E : Type 0} (P S : A → Type 0) (Q : Type 0) (result : Result A E) → ((a : A) → P a → S a) → Q → IfOk result P → MatchResult result S (λ fault. Q)
begun_or P S Q (Ok value) so q p = so value p
begun_or P S Q (Err fault) so q p = q
