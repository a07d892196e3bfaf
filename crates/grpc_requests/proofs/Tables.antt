-- The requests of one event more, and the calls that are calls then.
use Rattle.std.proofs.Common.{◌≡◌, ℕ, Bool, true, false, cond, List, [], ◌∷◌, ◌++◌, refl, sym, ap, ◌∙◌, subst, append_assoc, arith}
use Rattle.std.specs.Prelude.{Option, Some, None, nat_eq}
use Rattle.std.specs.BTreeMap.{BTreeMap, get}
use Rattle.std.specs.Ordering.{nat_cmp, is_eq}
use Rattle.std.proofs.lemmas.Bool.{eqb-true}
use Rattle.std.proofs.lemmas.Grind.{common_steps}
use Rattle.std.proofs.lemmas.List.{append-nil}
use Rattle.std.proofs.lemmas.List.Sums.{fold-append}
use Rattle.h2_events.specs.declared.event.RecvEvent.{RecvEvent}
use Rattle.grpc_requests.specs.declared.request.Request.{Request}
use Rattle.grpc_requests.specs.declared.open_call.OpenCall.{OpenCall}
use Rattle.grpc_requests.specs.Calls.{Call, stream_of, call_after}
use Rattle.grpc_requests.specs.Requests.{is_on, still_open, open_after, open_call, asks_more, requests_of, requests_on, requests_with, requests_after, requests}
use Rattle.grpc_requests.specs.inner.Tables.{KeepsCall, KeepsAll}

more_after : (before events : List RecvEvent) (event : RecvEvent) → requests_after before (events ++ event ∷ []) ≡ requests_after before events ++ requests_with (before ++ events) event
more_after before [] event = append-nil (requests_with before event) ∙ sym (ap (λ (heard : List RecvEvent). requests_with heard event) (append-nil before))
more_after before (e ∷ events) event =
    ap (λ (rs : List Request). requests_with before e ++ rs) (more_after (before ++ e ∷ []) events event)
    ∙ sym (append_assoc (requests_with before e) (requests_after (before ++ e ∷ []) events) (requests_with ((before ++ e ∷ []) ++ events) event))
    ∙ ap (λ (heard : List RecvEvent). (requests_with before e ++ requests_after (before ++ e ∷ []) events) ++ requests_with heard event) (append_assoc before (e ∷ []) events)

pub requests_more : (heard : List RecvEvent) (event : RecvEvent) → requests (heard ++ event ∷ []) ≡ requests heard ++ requests_with heard event
requests_more heard event = more_after [] heard event

pub open_more : (stream : ℕ) (heard : List RecvEvent) (event : RecvEvent) → open_call stream (heard ++ event ∷ []) ≡ open_after stream (open_call stream heard) event
open_more stream heard event = fold-append (open_after stream) None heard (event ∷ [])

-- ---- the table

same_key : (s q : ℕ) → is_eq (nat_cmp s q) ≡ nat_eq s q
same_key s q = grind (arith, common_steps)

pub requests_at : (heard : List RecvEvent) (event : RecvEvent) (stream : ℕ) → stream_of event ≡ Some stream → requests_with heard event ≡ requests_of stream (asks_more event (open_call stream heard))
requests_at heard event stream is = ap (requests_on heard event) is

pub requests_nowhere : (heard : List RecvEvent) (event : RecvEvent) → stream_of event ≡ None → requests_with heard event ≡ []
requests_nowhere heard event is = ap (requests_on heard event) is

-- the call of a stream behind one event more
abbrev after_on : ℕ → Option ℕ → RecvEvent → Option Call → Option Call
after_on q on event call = cond (is_on q on) (still_open (call_after event call)) call

pub keeps_elsewhere : (heard : List RecvEvent) (event : RecvEvent) (calls : BTreeMap ℕ OpenCall) → stream_of event ≡ None → KeepsAll heard calls → KeepsAll (heard ++ event ∷ []) calls
keeps_elsewhere heard event calls is keeps = λ q.
    subst (λ (c : Option Call). KeepsCall (get nat_cmp calls q) c)
    (sym (open_more q heard event ∙ ap (λ (on : Option ℕ). after_on q on event (open_call q heard)) is))
    (keeps q)

-- what is kept of a stream by one step, where that of its own stream is as said
keeps_at : (b : Bool) (mine : Option OpenCall) (before : Option OpenCall) (event : RecvEvent) (call : Option Call) → (b ≡ true → KeepsCall mine (still_open (call_after event call))) → KeepsCall before call → KeepsCall (cond b mine before) (cond b (still_open (call_after event call)) call)
keeps_at true mine before event call here there = here refl
keeps_at false mine before event call here there = there

pub keeps_after : (heard : List RecvEvent) (event : RecvEvent) (stream : ℕ) (old new : BTreeMap ℕ OpenCall) (mine : Option OpenCall) → stream_of event ≡ Some stream → KeepsAll heard old
    → ((q : ℕ) → get nat_cmp new q ≡ cond (is_eq (nat_cmp stream q)) mine (get nat_cmp old q))
    → KeepsCall mine (still_open (call_after event (open_call stream heard)))
    → KeepsAll (heard ++ event ∷ []) new
keeps_after heard event stream old new mine is keeps gets here = λ q.
    let found : get nat_cmp new q ≡ cond (nat_eq stream q) mine (get nat_cmp old q) = gets q ∙ ap (λ (b : Bool). cond b mine (get nat_cmp old q)) (same_key stream q) in
    let opens : open_call q (heard ++ event ∷ []) ≡ cond (nat_eq stream q) (still_open (call_after event (open_call q heard))) (open_call q heard) =
    open_more q heard event ∙ ap (λ (on : Option ℕ). after_on q on event (open_call q heard)) is in
    let own : nat_eq stream q ≡ true → KeepsCall mine (still_open (call_after event (open_call q heard))) =
    λ same. subst (λ (s : ℕ). KeepsCall mine (still_open (call_after event (open_call s heard)))) (eqb-true stream q same) here in
    let both : KeepsCall (cond (nat_eq stream q) mine (get nat_cmp old q)) (cond (nat_eq stream q) (still_open (call_after event (open_call q heard))) (open_call q heard)) =
    keeps_at (nat_eq stream q) mine (get nat_cmp old q) event (open_call q heard) own (keeps q) in
    subst (λ (c : Option Call). KeepsCall (get nat_cmp new q) c) (sym opens) (subst (λ (k : Option OpenCall). KeepsCall k (cond (nat_eq stream q) (still_open (call_after event (open_call q heard))) (open_call q heard))) (sym found) both)

-- of two updates at a key the later one counts
pub twice : (b : Bool) (x y z : Option OpenCall) → cond b x (cond b y z) ≡ cond b x z
twice true x y z = refl
twice false x y z = refl
