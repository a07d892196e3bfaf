-- What a table of open calls keeps of the events so far.
use Rattle.std.specs.Prelude.{◌≡◌, ℕ, ⊤, List, [], take, false, Option, Some, None}
use Rattle.std.specs.BTreeMap.{BTreeMap, get}
use Rattle.std.specs.Ordering.{nat_cmp}
use Rattle.hpack_block.specs.declared.header.Header.{Header}
use Rattle.h2_events.specs.declared.event.RecvEvent.{RecvEvent}
use Rattle.grpc_core.specs.declared.method.Method.{Method}
use Rattle.grpc_core.specs.declared.method.Method.TheVariants.{Capabilities, Get, Set, Subscribe}
use Rattle.grpc_core.specs.declared.head.CallHead.TheVariants as heads
use Rattle.grpc_core.specs.Messages.{Splits}
use Rattle.grpc_core.specs.Heads.{head_of}
use Rattle.grpc_requests.specs.declared.open_call.OpenCall.{OpenCall}
use Rattle.grpc_requests.specs.declared.open_call.Step.{Step}
use Rattle.grpc_requests.specs.Calls.{Call, call_after, has_message}
use Rattle.grpc_requests.specs.Requests.{open_call, still_open, asks_more}

-- Of the messages of a unary call two are kept at most, and of a Subscribe call none.
abbrev pub kept_messages : Method → List (List ℕ) → List (List ℕ)
kept_messages Capabilities messages = take 2 messages
kept_messages Get messages = take 2 messages
kept_messages Set messages = take 2 messages
kept_messages Subscribe messages = []

-- Of a call it keeps the method, the octets of the message that isn't whole, whether it had messages, and some of these.
pub record Keeps (kept : OpenCall) (call : Call) : Type 0 where
  pub headers : List Header
  pub headers_are : call.headers ≡ Some headers
  pub head : head_of headers ≡ heads.Call kept.method
  pub going_on : call.ended ≡ false
  pub messages : List (List ℕ)
  pub splits : Splits call.octets messages kept.splitter.rest None
  pub no_fault : kept.splitter.fault ≡ None
  pub begun_is : kept.begun ≡ has_message messages
  pub kept_are : kept.messages ≡ kept_messages kept.method messages

abbrev pub KeepsCall : Option OpenCall → Option Call → Type 0
KeepsCall None None = ⊤
KeepsCall (Some kept) (Some call) = Keeps kept call
KeepsCall _ _ = ⊥

-- what becomes of a call with an event, and what it asks then
pub record IsStep (step : Step) (event : RecvEvent) (before : Option Call) : Type 0 where
  pub kept : KeepsCall step.call (still_open (call_after event before))
  pub asks : step.asked ≡ asks_more event before

-- of each stream
abbrev pub KeepsAll : List RecvEvent → BTreeMap ℕ OpenCall → Type 0
KeepsAll heard calls = (stream : ℕ) → KeepsCall (get nat_cmp calls stream) (open_call stream heard)
