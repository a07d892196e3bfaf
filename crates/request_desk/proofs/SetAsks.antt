-- What a SetRequest asks, from its two halves.
use Rattle.std.proofs.Common.{◌≡◌, ℕ, List, ◌++◌, Bool, true, false, cond, refl, sym, ap, ◌∙◌, append-nil, Option, Some, None, Result, Ok, Err}
use Rattle.base_kinds.specs.declared.entry.Ask.{Ask}
use Rattle.base_kinds.specs.declared.refusal.Refusal.{Refusal}
use Rattle.base_kinds.specs.declared.refusal.Refusal.TheVariants as refusals
use Rattle.base_kinds.specs.Schema.{SchemaNode}
use Rattle.base_kinds.specs.declared.operation.Act.TheVariants as acts
use Rattle.gnmi_data_msg.specs.Writing.{message_fields, number_field}
use Rattle.gnmi_set_msg.specs.Numbers.{reply_response, reply_timestamp}
use Rattle.gnmi_set_msg.specs.declared.request.SetRequest.{SetRequest}
use Rattle.gnmi_set_msg.specs.Asks.{ask_of}
use Rattle.gnmi_set_msg.specs.Replies.{result_message, update_result, prefix_field, reply_message}
use Rattle.set_request.specs.Resolution.{resolved}
use Rattle.request_desk.specs.Limits.{is_too_large}
use Rattle.request_desk.specs.Tasks.{Task, Says, Changes}
use Rattle.request_desk.specs.Sets.{longest_reply, change_task, request_task}
use Rattle.request_desk.specs.inner.Sets.{set_ask, reply_front}

-- ---- the stamp stands behind all else

-- the reply's fields in front of the timestamp
abbrev before_stamp : SetRequest → List ℕ
before_stamp request =
    prefix_field request
    ++ message_fields (result_message acts.Delete) reply_response request.deletes
    ++ message_fields (update_result acts.Replace) reply_response request.replaces
    ++ message_fields (update_result acts.Update) reply_response request.updates

pub stamp_last : (request : SetRequest) (stamp : ℕ) → reply_message 0 request ++ number_field reply_timestamp stamp ≡ reply_message stamp request
stamp_last request stamp = ap (λ (t : List ℕ). t ++ number_field reply_timestamp stamp) (append-nil (before_stamp request))

-- ---- refused by itself

refused_ask : (request : SetRequest) (judged : Result Ask Refusal) (refusal : Refusal) → judged ≡ Err refusal → change_task request judged ≡ Says (Err refusal)
refused_ask request judged refusal is = ap (change_task request) is

pub ask_refused : (schema : List SchemaNode) (read : Option SetRequest) (refusal : Refusal) → set_ask schema read ≡ Err refusal
    → request_task schema read ≡ Says (Err refusal)
ask_refused schema None refusal is = ap (λ (r : Refusal). Says (Err r)) (named refusals.BadMessage refusal is)
  where
    named : (a b : Refusal) → ◌≡◌ {A = Result Ask Refusal} (Err a) (Err b) → a ≡ b
    named a b e = cc
ask_refused schema (Some request) refusal is = refused_ask request (resolved schema (ask_of request)) refusal is

-- a reply that is too long, or one that isn't
too_long : (b : Bool) (task : Task) (front : List ℕ) (refusal : Refusal)
    → ◌≡◌ {A = Result (List ℕ) Refusal} (cond b (Err refusals.TooLarge) (Ok front)) (Err refusal)
    → cond b (Says (Err refusals.TooLarge)) task ≡ Says (Err refusal)
too_long true task front refusal is = ap Says is
too_long false task front refusal is = absurd (differ front refusal is)
  where
    differ : (f : List ℕ) (r : Refusal) → ◌≡◌ {A = Result (List ℕ) Refusal} (Ok f) (Err r) → ⊥
    differ f r e = cc

pub reply_refused : (schema : List SchemaNode) (read : Option SetRequest) (ask : Ask) (refusal : Refusal) → set_ask schema read ≡ Ok ask
    → reply_front read ≡ Err refusal → request_task schema read ≡ Says (Err refusal)
reply_refused schema None ask refusal asks is = ap Says is
reply_refused schema (Some request) ask refusal asks is =
    ap (change_task request) asks
    ∙ too_long (is_too_large (longest_reply request)) (Changes ask (λ stamp. reply_message stamp request)) (reply_message 0 request) refusal is

-- ---- asked

-- a change is asked, whose reply has this front
pub record IsChange (schema : List SchemaNode) (read : Option SetRequest) (ask : Ask) (front : List ℕ) : Type 0 where
  pub reply : ℕ → List ℕ
  pub task : request_task schema read ≡ Changes ask reply
  pub written : (stamp : ℕ) → front ++ number_field reply_timestamp stamp ≡ reply stamp

short : (b : Bool) (task : Task) (whole front : List ℕ)
    → ◌≡◌ {A = Result (List ℕ) Refusal} (cond b (Err refusals.TooLarge) (Ok whole)) (Ok front)
    → (cond b (Says (Err refusals.TooLarge)) task ≡ task) × (whole ≡ front)
short true task whole front is = absurd (differ refusals.TooLarge front is)
  where
    differ : (r : Refusal) (f : List ℕ) → ◌≡◌ {A = Result (List ℕ) Refusal} (Err r) (Ok f) → ⊥
    differ r f e = cc
short false task whole front is = (refl, same whole front is)
  where
    same : (a b : List ℕ) → ◌≡◌ {A = Result (List ℕ) Refusal} (Ok a) (Ok b) → a ≡ b
    same a b e = cc

pub is_change : (schema : List SchemaNode) (read : Option SetRequest) (ask : Ask) (front : List ℕ) → set_ask schema read ≡ Ok ask
    → reply_front read ≡ Ok front → IsChange schema read ask front
is_change schema None ask front asks is = absurd (differ refusals.BadMessage ask asks)
  where
    differ : (r : Refusal) (a : Ask) → ◌≡◌ {A = Result Ask Refusal} (Err r) (Ok a) → ⊥
    differ r a e = cc
is_change schema (Some request) ask front asks is =
    let changes : Task = Changes ask (λ stamp. reply_message stamp request) in
    let both = short (is_too_large (longest_reply request)) changes (reply_message 0 request) front is in
    record {
      reply = λ stamp. reply_message stamp request;
      task = ap (change_task request) asks ∙ both.0;
      written = λ stamp. ap (λ (t : List ℕ). t ++ number_field reply_timestamp stamp) (sym both.1) ∙ stamp_last request stamp;
    }
