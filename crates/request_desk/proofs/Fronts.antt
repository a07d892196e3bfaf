-- The two halves of a Set before it is judged, from what was read and written.
use Rattle.std.proofs.Common.{◌≡◌, ℕ, ◌<◌, ◌≤◌, List, [], ◌++◌, Bool, true, false, cond, length, refl, sym, ap, ◌∙◌, subst, arith, Option, Some, None, Result, Ok, Err}
use Rattle.std.specs.Option.{option_map}
use Rattle.std.proofs.lemmas.Bool.{lt-ltb, le-ltb}
use Rattle.base_lists.specs.Results.{IsUnlessMemory}
use Rattle.base_kinds.specs.declared.entry.Ask.{Ask}
use Rattle.base_kinds.specs.declared.refusal.Refusal.{Refusal}
use Rattle.base_kinds.specs.declared.refusal.Refusal.TheVariants as refusals
use Rattle.base_kinds.specs.declared.request.UnresolvedSet.{UnresolvedSet}
use Rattle.base_kinds.specs.Schema.{SchemaNode}
use Rattle.gnmi_set_msg.specs.declared.request.SetRequest.{SetRequest}
use Rattle.gnmi_set_msg.specs.Asks.{ask_of}
use Rattle.gnmi_set_msg.specs.Replies.{reply_message}
use Rattle.set_request.specs.Resolution.{resolved}
use Rattle.request_desk.specs.Limits.{is_too_large}
use Rattle.request_desk.specs.Sets.{longest_reply}
use Rattle.request_desk.specs.inner.Sets.{set_ask, reply_front}

some_same : (A : Type 0) (a b : A) → ◌≡◌ {A = Option A} (Some a) (Some b) → a ≡ b
some_same A a b e = cc

none_some : (A : Type 0) (a : A) → ◌≡◌ {A = Option A} None (Some a) → ⊥
none_some A a e = cc

some_none : (A : Type 0) (a : A) → ◌≡◌ {A = Option A} (Some a) None → ⊥
some_none A a e = cc

-- ---- what is asked

asks_read : (schema : List SchemaNode) (read : Option SetRequest) (ask : UnresolvedSet) → option_map ask_of read ≡ Some ask
    → set_ask schema read ≡ resolved schema ask
asks_read schema None ask is = absurd (none_some UnresolvedSet ask is)
asks_read schema (Some request) ask is = ap (resolved schema) (some_same UnresolvedSet (ask_of request) ask is)

pub resolved_so : (schema : List SchemaNode) (read : Option SetRequest) (ask : UnresolvedSet) (result : Result Ask Refusal)
    → option_map ask_of read ≡ Some ask → IsUnlessMemory refusals.NoMemory result (resolved schema ask)
    → IsUnlessMemory refusals.NoMemory result (set_ask schema read)
resolved_so schema read ask result is resolves =
    subst (λ (defined : Result Ask Refusal). IsUnlessMemory refusals.NoMemory result defined) (sym (asks_read schema read ask is)) resolves

pub asks_none : (schema : List SchemaNode) (read : Option SetRequest) → option_map ask_of read ≡ None
    → set_ask schema read ≡ Err refusals.BadMessage
asks_none schema None is = refl
asks_none schema (Some request) is = absurd (some_none UnresolvedSet (ask_of request) is)

-- ---- the front of the reply

pub front_none : (read : Option SetRequest) → option_map ask_of read ≡ None → reply_front read ≡ Err refusals.BadMessage
front_none None is = refl
front_none (Some request) is = absurd (some_none UnresolvedSet (ask_of request) is)

judged_front : (request : SetRequest) (b : Bool) → is_too_large (longest_reply request) ≡ b
    → reply_front (Some request) ≡ cond b (Err refusals.TooLarge) (Ok (reply_message 0 request))
judged_front request b is = ap (λ (c : Bool). cond c (Err refusals.TooLarge) (Ok (reply_message 0 request))) is

pub front_too_long : (read : Option SetRequest) (octets : List ℕ)
    → option_map (λ (reply : List ℕ). [] ++ reply) (option_map (reply_message 0) read) ≡ Some octets
    → 4194294 < length octets → reply_front read ≡ Err refusals.TooLarge
front_too_long None octets is long = absurd (none_some (List ℕ) octets is)
front_too_long (Some request) octets is long =
    judged_front request true
    (lt-ltb 4194304 (longest_reply request) (omega (arith, long, ap length (some_same (List ℕ) (reply_message 0 request) octets is))))

pub front_fits : (read : Option SetRequest) (octets : List ℕ)
    → option_map (λ (reply : List ℕ). [] ++ reply) (option_map (reply_message 0) read) ≡ Some octets
    → length octets ≤ 4194294 → reply_front read ≡ Ok octets
front_fits None octets is short = absurd (none_some (List ℕ) octets is)
front_fits (Some request) octets is short =
    let same : reply_message 0 request ≡ octets = some_same (List ℕ) (reply_message 0 request) octets is in
    judged_front request false (le-ltb 4194304 (longest_reply request) (omega (arith, short, ap length same)))
    ∙ ap (λ (front : List ℕ). Ok front) same
