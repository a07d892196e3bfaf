-- What a call asks, from what is kept of it.
use Rattle.std.proofs.Common.{◌≡◌, ◌≢◌, ℕ, Bool, true, false, ◌||◌, List, [], ◌∷◌, ◌++◌, length, take, drop, cond, refl, sym, ap, ◌∙◌, subst, append-nil}
use Rattle.std.specs.Prelude.{Option, Some, None, Result, Ok, Err, IfOk, option_map}
use Rattle.base_kinds.specs.declared.refusal.Refusal.{Refusal}
use Rattle.hpack_block.specs.declared.header.Header.{Header}
use Rattle.h2_events.specs.declared.event.RecvEvent.{RecvEvent}
use Rattle.grpc_core.specs.declared.method.Method.{Method}
use Rattle.grpc_core.specs.declared.method.Method.TheVariants.{Capabilities, Get, Set, Subscribe}
use Rattle.grpc_core.specs.declared.message.SplitFault.{SplitFault}
use Rattle.grpc_core.specs.declared.message.SplitFault.TheVariants as faults
use Rattle.grpc_core.specs.declared.head.CallHead.{CallHead}
use Rattle.grpc_core.specs.declared.head.CallHead.TheVariants as heads
use Rattle.grpc_core.specs.Messages.{Cut, cut, Splits}
use Rattle.grpc_core.specs.Heads.{head_of}
use Rattle.grpc_core.specs.Splitters.{Gives, Stops, SplitterView}
use Rattle.grpc_core.proofs.Runs.{only, goes_on}
use Rattle.grpc_requests.specs.declared.request.Asked.{Asked}
use Rattle.grpc_requests.specs.declared.open_call.OpenCall.{OpenCall}
use Rattle.grpc_requests.specs.declared.open_call.Step.{Step}
use Rattle.grpc_requests.specs.Calls.{Call, call_after, with_piece, one_message, unary_end, has_message, further, subscribe_end, asks_open, asks_over, asks_of, asks_in, asks_at, asks_with, asks_by, ends_with, is_over_at, is_over_with, is_over, refusal_of}
use Rattle.grpc_requests.specs.Requests.{still_open, asked_before}
use Rattle.grpc_requests.specs.inner.Tables.{Keeps, KeepsCall, IsStep, kept_messages}

-- ---- what is asked with these messages

abbrev pub cut_of : List (List ℕ) → List ℕ → Option SplitFault → Cut
cut_of messages rest fault = record { messages = messages; rest = rest; fault = fault }

asks_are : (headers : List Header) (method : Method) (call : Call) (messages : List (List ℕ)) (rest : List ℕ) (fault : Option SplitFault)
    → call.headers ≡ Some headers → head_of headers ≡ heads.Call method → Splits call.octets messages rest fault
    → asks_by (Some call) ≡ asks_of method false messages rest fault call.ended
asks_are headers method call messages rest fault opened head splits =
    ap (λ (h : Option (List Header)). asks_with h call.octets call.ended) opened
    ∙ ap (λ (h : CallHead). asks_at h call.octets call.ended) head
    ∙ ap (λ (c : Cut). asks_in method c call.ended) (only call.octets messages rest fault splits)

over_is : (headers : List Header) (method : Method) (call : Call) (messages : List (List ℕ)) (rest : List ℕ) (fault : Option SplitFault)
    → call.headers ≡ Some headers → head_of headers ≡ heads.Call method → Splits call.octets messages rest fault
    → is_over call ≡ ends_with fault call.ended
over_is headers method call messages rest fault opened head splits =
    ap (λ (h : Option (List Header)). is_over_with h call.octets call.ended) opened
    ∙ ap (λ (h : CallHead). is_over_at h call.octets call.ended) head
    ∙ ap (λ (c : Cut). ends_with c.fault call.ended) (only call.octets messages rest fault splits)

-- ---- two messages of a unary call tell as much as all of them

two_of_two : (ms ns : List (List ℕ)) → take 2 (take 2 ms ++ ns) ≡ take 2 (ms ++ ns)
two_of_two [] ns = refl
two_of_two (m ∷ []) ns = refl
two_of_two (m ∷ n ∷ ms) ns = refl

one_of_two : (method : Method) (ms ns : List (List ℕ)) (rest : List ℕ) → one_message method (take 2 ms ++ ns) rest ≡ one_message method (ms ++ ns) rest
one_of_two method [] ns rest = refl
one_of_two method (m ∷ []) ns rest = refl
one_of_two method (m ∷ n ∷ ms) ns rest = refl

unary_of_two : (method : Method) (ms ns : List (List ℕ)) (rest : List ℕ) (fault : Option Refusal) → unary_end method (ms ++ ns) rest fault ≡ unary_end method (take 2 ms ++ ns) rest fault
unary_of_two method ms ns rest (Some refusal) = refl
unary_of_two method ms ns rest None = sym (one_of_two method ms ns rest)

has_of_two : (ms ns : List (List ℕ)) → (has_message ms || has_message (take 2 ms ++ ns)) ≡ has_message (ms ++ ns)
has_of_two [] ns = refl
has_of_two (m ∷ []) ns = refl
has_of_two (m ∷ n ∷ ms) ns = refl

-- ---- what a Subscribe call asks behind some of its messages

has_joined : (ms ns : List (List ℕ)) → has_message (ms ++ ns) ≡ (has_message ms || has_message ns)
has_joined [] ns = refl
has_joined (m ∷ ms) ns = refl

or_false : (b : Bool) → (b || false) ≡ b
or_false true = refl
or_false false = refl

further_behind : (begun : Bool) (ms ns : List (List ℕ)) (end : List Asked) → drop (length (further begun ms)) (further begun (ms ++ ns) ++ end) ≡ further (begun || has_message ms) ns ++ end
further_behind begun [] ns end = ap (λ (b : Bool). further b ns ++ end) (sym (or_false begun))
further_behind false (m ∷ ms) ns end = further_behind true ms ns end
further_behind true (m ∷ ms) ns end = further_behind true ms ns end

-- ---- what any call asks behind some of its messages

pub over_behind : (method : Method) (ms ns : List (List ℕ)) (rest : List ℕ) (fault : Option Refusal)
    → drop (length (asks_open method false ms)) (asks_over method false (ms ++ ns) rest fault) ≡ asks_over method (has_message ms) (kept_messages method ms ++ ns) rest fault
over_behind Capabilities ms ns rest fault = ap (λ (a : Asked). a ∷ []) (unary_of_two Capabilities ms ns rest fault)
over_behind Get ms ns rest fault = ap (λ (a : Asked). a ∷ []) (unary_of_two Get ms ns rest fault)
over_behind Set ms ns rest fault = ap (λ (a : Asked). a ∷ []) (unary_of_two Set ms ns rest fault)
over_behind Subscribe ms ns rest fault =
    further_behind false ms ns (subscribe_end (has_message (ms ++ ns)) fault ∷ [])
    ∙ ap (λ (b : Bool). further (has_message ms) ns ++ subscribe_end b fault ∷ []) (has_joined ms ns)

pub open_behind : (method : Method) (ms ns : List (List ℕ)) → drop (length (asks_open method false ms)) (asks_open method false (ms ++ ns)) ≡ asks_open method (has_message ms) (kept_messages method ms ++ ns)
open_behind Capabilities ms ns = refl
open_behind Get ms ns = refl
open_behind Set ms ns = refl
open_behind Subscribe ms ns =
    ap (λ (xs : List Asked). drop (length (further false ms)) xs) (sym (append-nil (further false (ms ++ ns))))
    ∙ further_behind false ms ns [] ∙ append-nil (further (has_message ms) ns)

kept_behind : (method : Method) (ms ns : List (List ℕ)) → kept_messages method (kept_messages method ms ++ ns) ≡ kept_messages method (ms ++ ns)
kept_behind Capabilities ms ns = two_of_two ms ns
kept_behind Get ms ns = two_of_two ms ns
kept_behind Set ms ns = two_of_two ms ns
kept_behind Subscribe ms ns = refl

begun_behind : (method : Method) (ms ns : List (List ℕ)) → (has_message ms || has_message (kept_messages method ms ++ ns)) ≡ has_message (ms ++ ns)
begun_behind Capabilities ms ns = has_of_two ms ns
begun_behind Get ms ns = has_of_two ms ns
begun_behind Set ms ns = has_of_two ms ns
begun_behind Subscribe ms ns = sym (has_joined ms ns)

-- ---- a piece

not_ended : (ended : Bool) → ended ≡ false → (more : Bool) → (ended || more) ≡ more
not_ended false is more = refl
not_ended true is more = absurd cc

module _ (kept : OpenCall) (call : Call) (k : Keeps kept call) where
  pub before : asks_by (Some call) ≡ asks_open kept.method false k.messages
  before = asks_are k.headers kept.method call k.messages kept.splitter.rest None k.headers_are k.head k.splits
      ∙ ap (λ (e : Bool). asks_of kept.method false k.messages kept.splitter.rest None e) k.going_on

  pub keeps_open : is_over call ≡ false
  keeps_open = over_is k.headers kept.method call k.messages kept.splitter.rest None k.headers_are k.head k.splits ∙ k.going_on

  module _ (octets : List ℕ) (ended : Bool) (messages : List (List ℕ)) (rest : List ℕ) (fault : Option SplitFault) (splits : Splits (kept.splitter.rest ++ octets) messages rest fault) where
    whole : Splits (call.octets ++ octets) (k.messages ++ messages) rest fault
    whole = goes_on call.octets octets k.messages messages kept.splitter.rest rest fault k.splits splits

    afterwards : asks_by (Some (with_piece octets ended call)) ≡ asks_of kept.method false (k.messages ++ messages) rest fault ended
    afterwards = asks_are k.headers kept.method (with_piece octets ended call) (k.messages ++ messages) rest fault k.headers_are k.head whole
        ∙ ap (λ (e : Bool). asks_of kept.method false (k.messages ++ messages) rest fault e) (not_ended call.ended k.going_on ended)

    over_then : is_over (with_piece octets ended call) ≡ ends_with fault ended
    over_then = over_is k.headers kept.method (with_piece octets ended call) (k.messages ++ messages) rest fault k.headers_are k.head whole
        ∙ ap (ends_with fault) (not_ended call.ended k.going_on ended)

    more_asked : drop (length (asks_by (Some call))) (asks_by (Some (with_piece octets ended call))) ≡ drop (length (asks_open kept.method false k.messages)) (asks_of kept.method false (k.messages ++ messages) rest fault ended)
    more_asked = ap (λ (xs : List Asked). drop (length xs) (asks_by (Some (with_piece octets ended call)))) before
        ∙ ap (λ (xs : List Asked). drop (length (asks_open kept.method false k.messages)) xs) afterwards

    gone : ends_with fault ended ≡ true → KeepsCall None (still_open (Some (with_piece octets ended call)))
    gone is = subst (λ (b : Bool). KeepsCall None (cond b None (Some (with_piece octets ended call)))) (sym (over_then ∙ is)) tt

  -- the messages that stand with what was kept
  all_kept : (messages after : List (List ℕ)) → after ≡ kept.messages ++ messages → after ≡ kept_messages kept.method k.messages ++ messages
  all_kept messages after added = added ∙ ap (λ (ms : List (List ℕ)). ms ++ messages) k.kept_are

  -- it stops with a fault
  pub piece_faults : (octets : List ℕ) (ended : Bool) (after : List (List ℕ)) (fault : SplitFault) → Stops (kept.splitter.rest ++ octets) kept.messages after fault → fault ≢ faults.NoMemory
      → (asked : List Asked) → ((rest : List ℕ) → length rest ≡ 0 → asked ≡ asks_over kept.method kept.begun after rest (Some (refusal_of fault)))
      → KeepsCall None (still_open (Some (with_piece octets ended call))) × (asked ≡ drop (length (asks_by (Some call))) (asks_by (Some (with_piece octets ended call))))
  piece_faults octets ended after fault s not_memory asked all =
      let splits : Splits (kept.splitter.rest ++ octets) s.messages s.rest (Some fault) = record { leading = s.leading; ends = s.ends not_memory } in (
        gone octets ended s.messages s.rest (Some fault) splits refl,
        all [] refl
            ∙ ap (λ (b : Bool). asks_over kept.method b after [] (Some (refusal_of fault))) k.begun_is
            ∙ ap (λ (ms : List (List ℕ)). asks_over kept.method (has_message k.messages) ms [] (Some (refusal_of fault))) (all_kept s.messages after s.added)
            ∙ sym (over_behind kept.method k.messages s.messages [] (Some (refusal_of fault)))
            ∙ ap (λ (xs : List Asked). drop (length (asks_open kept.method false k.messages)) xs) (any_rest kept.method (k.messages ++ s.messages) s.rest (refusal_of fault))
            ∙ sym (more_asked octets ended s.messages s.rest (Some fault) splits),
      ) where
        any_rest : (method : Method) (ms : List (List ℕ)) (rest : List ℕ) (refusal : Refusal) → asks_over method false ms [] (Some refusal) ≡ asks_over method false ms rest (Some refusal)
        any_rest Capabilities ms rest refusal = refl
        any_rest Get ms rest refusal = refl
        any_rest Set ms rest refusal = refl
        any_rest Subscribe ms rest refusal = refl

  -- the peer ends it
  pub piece_ends : (octets : List ℕ) (after : List (List ℕ)) (rest : List ℕ) → Gives (kept.splitter.rest ++ octets) kept.messages after rest
      → (asked : List Asked) → asked ≡ asks_over kept.method kept.begun after rest None
      → KeepsCall None (still_open (Some (with_piece octets true call))) × (asked ≡ drop (length (asks_by (Some call))) (asks_by (Some (with_piece octets true call))))
  piece_ends octets after rest g asked all = (
    gone octets true g.messages rest None g.splits refl,
    all
        ∙ ap (λ (b : Bool). asks_over kept.method b after rest None) k.begun_is
        ∙ ap (λ (ms : List (List ℕ)). asks_over kept.method (has_message k.messages) ms rest None) (all_kept g.messages after g.added)
        ∙ sym (over_behind kept.method k.messages g.messages rest None)
        ∙ sym (more_asked octets true g.messages rest None g.splits),
  )

  -- it goes on
  pub piece_goes_on : (octets : List ℕ) (after : List (List ℕ)) (rest : List ℕ) → Gives (kept.splitter.rest ++ octets) kept.messages after rest
      → (asked : List Asked) → asked ≡ asks_open kept.method kept.begun after
      → (new : OpenCall) → new.method ≡ kept.method → new.splitter.rest ≡ rest → new.splitter.fault ≡ None → new.messages ≡ kept_messages kept.method after → new.begun ≡ (kept.begun || has_message after)
      → KeepsCall (Some new) (still_open (Some (with_piece octets false call))) × (asked ≡ drop (length (asks_by (Some call))) (asks_by (Some (with_piece octets false call))))
  piece_goes_on octets after rest g asked all new method_is rest_is fault_is messages_are begun_is =
      let after_is = all_kept g.messages after g.added in
      let keeps : Keeps new (with_piece octets false call) = record {
        headers = k.headers;
        headers_are = k.headers_are;
        head = k.head ∙ ap heads.Call (sym method_is);
        going_on = not_ended call.ended k.going_on false;
        messages = k.messages ++ g.messages;
        splits = subst (λ (r : List ℕ). Splits (call.octets ++ octets) (k.messages ++ g.messages) r None) (sym rest_is) (whole octets false g.messages rest None g.splits);
        no_fault = fault_is;
        begun_is = begun_is ∙ ap (λ (b : Bool). b || has_message after) k.begun_is ∙ ap (λ (ms : List (List ℕ)). has_message k.messages || has_message ms) after_is
            ∙ begun_behind kept.method k.messages g.messages;
        kept_are = messages_are ∙ ap (kept_messages kept.method) after_is ∙ kept_behind kept.method k.messages g.messages ∙ ap (λ (m : Method). kept_messages m (k.messages ++ g.messages)) (sym method_is);
      } in (
        subst (λ (b : Bool). KeepsCall (Some new) (cond b None (Some (with_piece octets false call)))) (sym (over_then octets false g.messages rest None g.splits)) keeps,
        all
            ∙ ap (λ (b : Bool). asks_open kept.method b after) k.begun_is
            ∙ ap (λ (ms : List (List ℕ)). asks_open kept.method (has_message k.messages) ms) after_is
            ∙ sym (open_behind kept.method k.messages g.messages)
            ∙ sym (more_asked octets false g.messages rest None g.splits),
      )

  -- ---- what the steps answer

  pub faults_so : {E : Type 0} (octets : List ℕ) (ended : Bool) (after : List (List ℕ)) (fault : SplitFault) → Stops (kept.splitter.rest ++ octets) kept.messages after fault → fault ≢ faults.NoMemory
      → (result : Result Step E) → ((rest : List ℕ) → length rest ≡ 0 → IfOk result (λ step. (step.call ≡ None) × (step.asked ≡ asks_over kept.method kept.begun after rest (Some (refusal_of fault)))))
      → IfOk result (λ step. KeepsCall step.call (still_open (Some (with_piece octets ended call))) × (step.asked ≡ drop (length (asks_by (Some call))) (asks_by (Some (with_piece octets ended call)))))
  faults_so octets ended after fault stops not_memory (Ok step) all =
      let so = piece_faults octets ended after fault stops not_memory step.asked (λ rest none. (all rest none).1) in
      (subst (λ (c : Option OpenCall). KeepsCall c (still_open (Some (with_piece octets ended call)))) (sym (all [] refl).0) so.0, so.1)
  faults_so octets ended after fault stops not_memory (Err e) all = tt

  pub ends_so : {E : Type 0} (octets : List ℕ) (after : List (List ℕ)) (rest : List ℕ) → Gives (kept.splitter.rest ++ octets) kept.messages after rest
      → (result : Result Step E) → IfOk result (λ step. (step.call ≡ None) × (step.asked ≡ asks_over kept.method kept.begun after rest None))
      → IfOk result (λ step. KeepsCall step.call (still_open (Some (with_piece octets true call))) × (step.asked ≡ drop (length (asks_by (Some call))) (asks_by (Some (with_piece octets true call)))))
  ends_so octets after rest gives (Ok step) all =
      let so = piece_ends octets after rest gives step.asked all.1 in
      (subst (λ (c : Option OpenCall). KeepsCall c (still_open (Some (with_piece octets true call)))) (sym all.0) so.0, so.1)
  ends_so octets after rest gives (Err e) all = tt

  pub goes_on_so : {E : Type 0} (octets : List ℕ) (after : List (List ℕ)) (rest : List ℕ) → Gives (kept.splitter.rest ++ octets) kept.messages after rest → (splitter : SplitterView) → splitter.rest ≡ rest → splitter.fault ≡ None
      → (result : Result Step E)
      → IfOk result (λ step. (step.asked ≡ asks_open kept.method kept.begun after) × (step.call ≡ Some (record { method = kept.method; splitter = splitter; messages = kept_messages kept.method after; begun = kept.begun || has_message after })))
      → IfOk result (λ step. KeepsCall step.call (still_open (Some (with_piece octets false call))) × (step.asked ≡ drop (length (asks_by (Some call))) (asks_by (Some (with_piece octets false call)))))
  goes_on_so octets after rest gives splitter rest_is fault_is (Ok step) all =
      let new : OpenCall = record { method = kept.method; splitter = splitter; messages = kept_messages kept.method after; begun = kept.begun || has_message after } in
      let so = piece_goes_on octets after rest gives step.asked all.0 new refl rest_is fault_is refl refl in
      (subst (λ (c : Option OpenCall). KeepsCall c (still_open (Some (with_piece octets false call)))) (sym all.1) so.0, so.1)
  goes_on_so octets after rest gives splitter rest_is fault_is (Err e) all = tt

-- ---- headers open it

abbrev pub call_at_head : List Header → Bool → Call
call_at_head headers ended = record { headers = Some headers; octets = []; ended = ended }

pub opened_over : {E : Type 0} (headers : List Header) (method : Method) (ended : Bool) → head_of headers ≡ heads.Call method → ended ≡ true → (result : Result Step E)
    → IfOk result (λ step. (step.call ≡ None) × (step.asked ≡ asks_over method false [] [] None)) → IfOk result (λ step. KeepsCall step.call (still_open (Some (call_at_head headers ended))))
opened_over headers method ended head is (Ok step) so =
    subst (λ (c : Option OpenCall). KeepsCall c (still_open (Some (call_at_head headers ended)))) (sym so.0)
    (subst (λ (b : Bool). KeepsCall None (cond b None (Some (call_at_head headers ended)))) (sym (ap (λ (h : CallHead). is_over_at h [] ended) head ∙ is)) tt)
opened_over headers method ended head is (Err e) so = tt

pub opened_asks : {E : Type 0} (headers : List Header) (method : Method) (ended : Bool) → head_of headers ≡ heads.Call method → ended ≡ true → (result : Result Step E)
    → IfOk result (λ step. (step.call ≡ None) × (step.asked ≡ asks_over method false [] [] None)) → IfOk result (λ step. step.asked ≡ asks_at (head_of headers) [] ended)
opened_asks headers method ended head is (Ok step) so =
    so.1 ∙ sym (ap (λ (h : CallHead). asks_at h [] ended) head ∙ ap (λ (e : Bool). asks_of method false [] [] None e) is)
opened_asks headers method ended head is (Err e) so = tt

-- ---- an event that says nothing of it

drop_all : (xs : List Asked) → drop (length xs) xs ≡ []
drop_all [] = refl
drop_all (x ∷ xs) = drop_all xs

keeps_still : (call : Option OpenCall) (before : Option Call) → KeepsCall call before → KeepsCall call (still_open before)
keeps_still None None keeps = keeps
keeps_still None (Some call) keeps = absurd keeps
keeps_still (Some kept) None keeps = absurd keeps
keeps_still (Some kept) (Some call) keeps = subst (λ (b : Bool). KeepsCall (Some kept) (cond b None (Some call))) (sym (keeps_open kept call keeps)) keeps

pub stays : (step : Step) (call : Option OpenCall) (event : RecvEvent) (before : Option Call) → call_after event before ≡ before → asked_before event before ≡ asks_by before
    → step.call ≡ call → step.asked ≡ [] → KeepsCall call before → IsStep step event before
stays step call event before same asked call_is none keeps = record {
  kept = subst (λ (c : Option OpenCall). KeepsCall c (still_open (call_after event before))) (sym call_is) (subst (λ (b : Option Call). KeepsCall call (still_open b)) (sym same) (keeps_still call before keeps));
  asks = none ∙ sym (ap (λ (xs : List Asked). drop (length xs) (asks_by (call_after event before))) asked ∙ ap (λ (b : Option Call). drop (length (asks_by before)) (asks_by b)) same ∙ drop_all (asks_by before));
}
