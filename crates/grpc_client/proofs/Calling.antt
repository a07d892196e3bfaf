-- A whole call.
use Rattle.std.proofs.Common.{◌≡◌, ℕ, ◌≤◌, List, [], ◌++◌, length, take, Result, Ok, Err, refl, sym, ap, ◌∙◌, subst, append_assoc, append-nil, inl, inr, arith}
use Rattle.std.specs.Prelude.{◌≢◌}
use Rattle.std.proofs.lemmas.List.{take_all}
use Rattle.environment.specs.Input.{Input, Read}
use Rattle.environment.specs.Output.{Output, Wrote}
use Rattle.environment.proofs.Pieces.{Read-nothing, Read-trans}
use Rattle.h2_windows.proofs.Fronts.{wrote_both}
use Rattle.grpc_core.specs.declared.method.Method.{Method}
use Rattle.grpc_core.specs.Messages.{framed}
use Rattle.grpc_client.specs.declared.fault.CallFault.{CallFault}
use Rattle.grpc_client.specs.declared.fault.CallFault.TheVariants as fault
use Rattle.grpc_client.specs.declared.connection.Connection.{Connection}
use Rattle.grpc_client.specs.Connections.{next_stream}
use Rattle.grpc_client.specs.Exchanges.{Exchange, Did, at}
use Rattle.grpc_client.specs.Requests.{opening_octets, calling}
use Rattle.grpc_client.specs.Responses.{answer_of}
use Rattle.grpc_client.specs.Asked.{Why, CameBy, Broken, Completed, Answered, Asks}
use Rattle.grpc_client.specs.inner.Rounds.{Begins, BeginsNot, IsLocal}
use Rattle.grpc_client.proofs.Steps.{did_then}

-- ---- a call that didn't begin

local_read : (why : CallFault) (input : Input) → IsLocal why → CameBy why [] input input
local_read fault.WriteFault input h = Read-nothing input
local_read fault.NoMemory input h = Read-nothing input
local_read fault.ReadFault input h = absurd h
local_read (fault.Refused code) input h = absurd h
local_read (fault.Http code) input h = absurd h
local_read (fault.Protocol code) input h = absurd h
local_read fault.NoStatus input h = absurd h
local_read fault.BadReply input h = absurd h
local_read fault.Closed input h = absurd h
local_read fault.Spent input h = absurd h

local_why : (why : CallFault) (last : Exchange) (input : Input) → IsLocal why → Why why last [] input
local_why fault.WriteFault last input h = tt
local_why fault.NoMemory last input h = tt
local_why fault.ReadFault last input h = absurd h
local_why (fault.Refused code) last input h = absurd h
local_why (fault.Http code) last input h = absurd h
local_why (fault.Protocol code) last input h = absurd h
local_why fault.NoStatus last input h = absurd h
local_why fault.BadReply last input h = absurd h
local_why fault.Closed last input h = absurd h
local_why fault.Spent last input h = absurd h

pub unbegun : (why : CallFault) (authority : List ℕ) (method : Method) (message : List ℕ) (old : Connection) (input : Input) (output later : Output)
    → BeginsNot why authority method message old output later → Broken why (opening_octets old.begun) (calling (next_stream old) authority method (framed message) old) input input output later
unbegun why authority method message old input output later b =
    record {
      came = [];
      went = b.went;
      last = b.last;
      did = b.did;
      more = [];
      read = local_read why input b.local;
      wrote = b.wrote;
      because = local_why why b.last input b.local;
    }

-- ---- a call whose response is over

pub completed_after : (authority : List ℕ) (method : Method) (message : List ℕ) (old mid new : Connection) (input now : Input) (output later after : Output)
    → Begins authority method message old mid output later → Completed [] (at mid) new input now later after → Completed (opening_octets old.begun) (calling (next_stream old) authority method (framed message) old) new input now output after
completed_after authority method message old mid new input now output later after b c =
    record {
      came = c.came;
      went = b.went ++ c.went;
      did = did_then (calling (next_stream old) authority method (framed message) old) (at mid) (at new) [] c.came b.went c.went b.did c.did;
      read = c.read;
      wrote = wrote_both output later after (opening_octets old.begun ++ b.went) c.went (opening_octets old.begun ++ (b.went ++ c.went)) (sym (append_assoc (opening_octets old.begun) b.went c.went)) b.wrote c.wrote;
      over = c.over;
    }

starved : (before : List ℕ) (first : Exchange) (new : Connection) (input now : Input) (output later : Output) → Completed before first new input now output later → Broken fault.NoMemory before first input now output later
starved before first new input now output later c =
    record {
      came = c.came;
      went = c.went;
      last = at new;
      did = c.did;
      more = [];
      read = subst (λ (os : List ℕ). Read os input now) (sym (append-nil c.came)) c.read;
      wrote = (length (before ++ c.went), subst (λ (os : List ℕ). Wrote os output later) (sym (take_all (length (before ++ c.went)) (before ++ c.went) (omega arith))) c.wrote);
      because = tt;
    }

abbrev Answer : Type 0
Answer = Result (List ℕ) CallFault

has_memory : (why : CallFault) → why ≢ fault.NoMemory → ◌≢◌ {A = Answer} (Err why) (Err fault.NoMemory)
has_memory why other e = other (cc)

pub asks_of : (result : Answer) (before : List ℕ) (first : Exchange) (new : Connection) (input now : Input) (output later : Output) → Completed before first new input now output later → (result ≢ Err fault.NoMemory → result ≡ answer_of new.heard)
    → Asks result before first new input now output later
asks_of (Ok message) before first new input now output later c h = record { completed = c; answer = h (λ (e : ◌≡◌ {A = Answer} (Ok message) (Err fault.NoMemory)). cc) }
asks_of (Err fault.NoMemory) before first new input now output later c h = inr (starved before first new input now output later c)
asks_of (Err fault.ReadFault) before first new input now output later c h = inl (record { completed = c; answer = h (has_memory fault.ReadFault (λ e. cc)) })
asks_of (Err fault.WriteFault) before first new input now output later c h = inl (record { completed = c; answer = h (has_memory fault.WriteFault (λ e. cc)) })
asks_of (Err fault.NoStatus) before first new input now output later c h = inl (record { completed = c; answer = h (has_memory fault.NoStatus (λ e. cc)) })
asks_of (Err fault.BadReply) before first new input now output later c h = inl (record { completed = c; answer = h (has_memory fault.BadReply (λ e. cc)) })
asks_of (Err fault.Closed) before first new input now output later c h = inl (record { completed = c; answer = h (has_memory fault.Closed (λ e. cc)) })
asks_of (Err fault.Spent) before first new input now output later c h = inl (record { completed = c; answer = h (has_memory fault.Spent (λ e. cc)) })
asks_of (Err (fault.Refused code)) before first new input now output later c h = inl (record { completed = c; answer = h (has_memory (fault.Refused code) (λ e. cc)) })
asks_of (Err (fault.Http status)) before first new input now output later c h = inl (record { completed = c; answer = h (has_memory (fault.Http status) (λ e. cc)) })
asks_of (Err (fault.Protocol code)) before first new input now output later c h = inl (record { completed = c; answer = h (has_memory (fault.Protocol code) (λ e. cc)) })
