-- A session says nothing on the streams of calls that it handed over, and hands over one call of a stream at most.
use Rattle.std.proofs.Common.{◌≡◌, inl, inr, ℕ, ◌==◌, List, [], ◌∷◌, ◌++◌, Bool, true, false, cond, refl, sym, ap, ◌∙◌, subst, append_assoc, eq-eqb}
use Rattle.std.specs.List.{AllByRecursion}
use Rattle.std.proofs.lemmas.Bool.{false≢true}
use Rattle.base_kinds.specs.Schema.{SchemaNode}
use Rattle.h2_events.specs.declared.event.RecvEvent.{RecvEvent}
use Rattle.h2_events.specs.declared.said.Said.{Said}
use Rattle.h2_send.specs.Accepting.{IsOpenedOnce}
use Rattle.grpc_requests.specs.declared.request.Asked.{Asked}
use Rattle.grpc_requests.specs.declared.request.Asked.TheVariants as asks
use Rattle.grpc_requests.specs.declared.request.Request.{Request}
use Rattle.grpc_requests.specs.Requests.{requests}
use Rattle.session_core.specs.declared.served.Served.{Served}
use Rattle.session_core.specs.Deeds.{Deed, Doing, Answering, Handing, Turning, Dropping, Service, IsAmong, IsAnswer, IsDone, IsHanded, AreDone, asked_in, requests_in, said_to, handed_by, handed_in}
use Rattle.session_core.proofs.Asking.{AreLater, BeginsOnce, IsLater, asked_on, asked_on-append, begins_once, later_begin, later_last}
use Rattle.session_core.proofs.Keeping.{all_both, all_last, calls_in, calls_keep, changes, deeds_keep}

-- it isn't this stream
abbrev pub IsOff : ℕ → ℕ → Type 0
IsOff s t = (t == s) ≡ false

-- none of the calls is on it
abbrev CallsOff : ℕ → List Served → Type 0
CallsOff s calls = AllByRecursion (λ (c : Served). IsOff s c.stream) calls

-- ---- requests and deeds, one list behind another

requests_both : (xs ys : List Deed) → requests_in (xs ++ ys) ≡ requests_in xs ++ requests_in ys
requests_both [] ys = refl
requests_both (d ∷ xs) ys =
    ap (λ (t : List Request). asked_in d.stream d.doing ++ t) (requests_both xs ys) ∙ sym (append_assoc (asked_in d.stream d.doing) (requests_in xs) (requests_in ys))

-- what was asked on a stream of a first and a later list of deeds
asked_both : (s : ℕ) (xs ys : List Deed) → asked_on s (requests_in (xs ++ ys)) ≡ asked_on s (requests_in xs) ++ asked_on s (requests_in ys)
asked_both s xs ys = ap (asked_on s) (requests_both xs ys) ∙ asked_on-append s (requests_in xs) (requests_in ys)

pub done_parts : (schema : List SchemaNode) (old : Service) (xs ys : List Deed) (new : Service) → AreDone schema old (xs ++ ys) new
    → (mid : Service) × AreDone schema old xs mid × AreDone schema mid ys new
done_parts schema old [] ys new done = (old, refl, done)
done_parts schema old (d ∷ xs) ys new (next, first, rest) =
    let later = done_parts schema next xs ys new rest in
    (later.0, (next, first, later.1), later.2)

none_asked : (s : ℕ) (rs : List Request) → asked_on s rs ≡ [] → AllByRecursion (λ (r : Request). IsOff s r.stream) rs
none_asked s [] none = tt
none_asked s (r ∷ rs) none = by_test (r.stream == s) refl none (none_asked s rs) where
  by_test : (b : Bool) → (r.stream == s) ≡ b → cond b (r.asked ∷ asked_on s rs) (asked_on s rs) ≡ [] → (asked_on s rs ≡ [] → AllByRecursion (λ (q : Request). IsOff s q.stream) rs)
      → AllByRecursion (λ (q : Request). IsOff s q.stream) (r ∷ rs)
  by_test true is none rest = absurd cc
  by_test false is none rest = (is, rest none)

-- ---- what deeds say

said_off : (s : ℕ) (deeds others : List Deed) → AllByRecursion (λ (d : Deed). IsOff s d.stream) deeds → said_to s (deeds ++ others) ≡ said_to s others
said_off s [] others off = refl
said_off s (d ∷ deeds) others off =
    ap (λ (b : Bool). cond b (d.said ++ said_to s (deeds ++ others)) (said_to s (deeds ++ others))) off.0 ∙ said_off s deeds others off.1

says_none : (b : Bool) (said rest : List Said) → (b ≡ true → said ≡ []) → rest ≡ [] → cond b (said ++ rest) rest ≡ []
says_none true said rest none is = ap (λ (t : List Said). t ++ rest) (none refl) ∙ is
says_none false said rest none is = is

-- ---- the first request of a stream

not_later : (xs ys : List Asked) (body : List ℕ) → AreLater (xs ++ asks.Subscribe body ∷ ys) → ⊥
not_later [] ys body all = all.0
not_later (x ∷ xs) ys body all = not_later xs ys body all.1

-- the message that begins a call is the first one, and what comes behind it goes on with it
pub is_first : (xs ys : List Asked) (body : List ℕ) → BeginsOnce (xs ++ asks.Subscribe body ∷ ys) → (xs ≡ []) × AreLater ys
is_first [] ys body once = (refl, once)
is_first (x ∷ xs) ys body once = absurd (not_later xs ys body once)

later_first : (xs ys : List Asked) → AreLater (xs ++ ys) → AreLater xs
later_first [] ys all = tt
later_first (x ∷ xs) ys all = (all.0, later_first xs ys all.1)

-- ---- behind a call that was handed over

module _ (schema : List SchemaNode) (s : ℕ) (d : Deed) (old new : Service) (on : (d.stream == s) ≡ true) (off : CallsOff s old.calls) where
  none_among : (served : Served) (before after : List Served) → IsAmong d.stream served before after old.calls → ⊥
  none_among served before after among =
      let there : IsOff s served.stream = (all_last (λ (c : Served). IsOff s c.stream) before (served ∷ after) (subst (CallsOff s) among.whole off)).0 in
      false≢true (sym there ∙ ap (λ (t : ℕ). t == s) among.on ∙ on)

  -- where no call is on the stream, what goes on with one isn't looked at
  pub unheard : (asked : Asked) → IsLater asked → IsAnswer schema asked d old new → (d.said ≡ []) × (new.calls ≡ old.calls)
  unheard (asks.Later what) later (inl heard) = absurd (none_among heard.served heard.others heard.later heard.among)
  unheard (asks.Later what) later (inr is) = (is.plain.says, calls_in [] old.calls d old new is.plain)
  unheard (asks.Call method body) later is = absurd later
  unheard (asks.Subscribe body) later is = absurd later
  unheard (asks.Http status) later is = absurd later
  unheard (asks.Refused refusal) later is = absurd later

  pub says_nothing : (doing : Doing) → AreLater (asked_on s (asked_in d.stream doing)) → IsDone schema doing d old new → (d.said ≡ []) × (new.calls ≡ old.calls)
  says_nothing (Answering asked) later is = unheard asked (subst (λ (b : Bool). AreLater (cond b (asked ∷ []) [])) on later).0 is
  says_nothing (Handing body) later is = absurd (subst (λ (b : Bool). AreLater (cond b (asks.Subscribe body ∷ []) [])) on later).0
  says_nothing Turning later is = absurd (none_among is.served is.others is.later is.among)
  says_nothing Dropping later is = absurd (none_among is.served is.others is.later is.among)

-- A deed leaves no call on the stream where there was none, and says nothing there.
record IsQuiet (s : ℕ) (d : Deed) (new : Service) : Type 0 where
  says : (d.stream == s) ≡ true → d.said ≡ []
  off : CallsOff s new.calls

quiet : (schema : List SchemaNode) (s : ℕ) (d : Deed) (old new : Service) → IsDone schema d.doing d old new → CallsOff s old.calls → AreLater (asked_on s (asked_in d.stream d.doing)) → IsQuiet s d new
quiet schema s d old new is off later = by_test (d.stream == s) refl where
  by_test : (b : Bool) → (d.stream == s) ≡ b → IsQuiet s d new
  by_test true on =
      let both = says_nothing schema s d old new on off d.doing later is in
      record { says = λ here. both.0; off = subst (CallsOff s) (sym both.1) off }
  by_test false away = record {
    says = λ here. absurd (false≢true (sym away ∙ here));
    off = calls_keep (IsOff s) d old.calls new.calls (changes schema d old new d.doing refl is) (λ first. away) off;
  }

silent_behind : (schema : List SchemaNode) (s : ℕ) (old : Service) (deeds : List Deed) (new : Service) → AreDone schema old deeds new → CallsOff s old.calls → AreLater (asked_on s (requests_in deeds)) → said_to s deeds ≡ []
silent_behind schema s old [] new done off later = refl
silent_behind schema s old (d ∷ deeds) new (next, first, rest) off later =
    let mine = asked_on s (asked_in d.stream d.doing) in
    let others = asked_on s (requests_in deeds) in
    let both : AreLater (mine ++ others) = subst AreLater (asked_on-append s (asked_in d.stream d.doing) (requests_in deeds)) later in
    let q = quiet schema s d old next first off (later_first mine others both) in
    says_none (d.stream == s) d.said (said_to s deeds) q.says (silent_behind schema s next deeds new rest q.off (later_last mine others both))

-- ---- a call that was handed over

-- the requests on its stream
asked_around : (s : ℕ) (before after : List Deed) (d : Deed) (body : List ℕ) (owed : List Request) → d.doing ≡ Handing body → d.stream ≡ s
    → asked_on s (requests_in (before ++ d ∷ after) ++ owed) ≡ asked_on s (requests_in before) ++ asks.Subscribe body ∷ (asked_on s (requests_in after) ++ asked_on s owed)
asked_around s before after d body owed handing on =
    let mine : asked_on s (asked_in d.stream d.doing) ≡ asks.Subscribe body ∷ [] =
    ap (λ (doing : Doing). asked_on s (asked_in d.stream doing)) handing ∙ ap (λ (b : Bool). cond b (asks.Subscribe body ∷ []) []) (eq-eqb d.stream s on) in
    let later : asked_on s (requests_in (d ∷ after)) ≡ asks.Subscribe body ∷ asked_on s (requests_in after) =
    asked_on-append s (asked_in d.stream d.doing) (requests_in after) ∙ ap (λ (t : List Asked). t ++ asked_on s (requests_in after)) mine in
    asked_on-append s (requests_in (before ++ d ∷ after)) owed
    ∙ ap (λ (t : List Asked). t ++ asked_on s owed) (asked_both s before (d ∷ after) ∙ ap (λ (t : List Asked). asked_on s (requests_in before) ++ t) later)
    ∙ append_assoc (asked_on s (requests_in before)) (asks.Subscribe body ∷ asked_on s (requests_in after)) (asked_on s owed)

handed_quiet : (schema : List SchemaNode) (s : ℕ) (d : Deed) (old new : Service) (body : List ℕ) → d.doing ≡ Handing body → IsDone schema d.doing d old new → CallsOff s old.calls → IsQuiet s d new
handed_quiet schema s d old new body handing is off =
    let handed : IsHanded body d old new = subst (λ (doing : Doing). IsDone schema doing d old new) handing is in
    record { says = λ here. handed.plain.says; off = subst (CallsOff s) (sym (calls_in [] old.calls d old new handed.plain)) off }

silent_around : (schema : List SchemaNode) (s : ℕ) (start : Service) (before after : List Deed) (d : Deed) (body : List ℕ) (end : Service) → AreDone schema start (before ++ d ∷ after) end → CallsOff s start.calls
    → asked_on s (requests_in before) ≡ [] → AreLater (asked_on s (requests_in after)) → d.doing ≡ Handing body → said_to s (before ++ d ∷ after) ≡ []
silent_around schema s start before after d body end done off none later handing =
    let parts = done_parts schema start before (d ∷ after) end done in
    let kept = deeds_keep (IsOff s) schema start before parts.0 parts.1 (none_asked s (requests_in before) none) off in
    let rest : AreDone schema parts.0 (d ∷ after) end = parts.2 in
    let q = handed_quiet schema s d parts.0 rest.0 body handing rest.1 kept.1 in
    said_off s before (d ∷ after) kept.0
    ∙ says_none (d.stream == s) d.said (said_to s after) q.says (silent_behind schema s rest.0 after end rest.2 q.off later)

-- The session says nothing on its stream.
pub handed_silent : (schema : List SchemaNode) (start end : Service) (deeds : List Deed) (owed : List Request) (events : List RecvEvent) (s : ℕ) (before after : List Deed) (d : Deed) (body : List ℕ)
    → start.calls ≡ [] → AreDone schema start deeds end → requests_in deeds ++ owed ≡ requests events → IsOpenedOnce s events
    → deeds ≡ before ++ d ∷ after → d.doing ≡ Handing body → d.stream ≡ s → said_to s deeds ≡ []
handed_silent schema start end deeds owed events s before after d body none done asked once whole handing on =
    let around : asked_on s (requests events) ≡ asked_on s (requests_in before) ++ asks.Subscribe body ∷ (asked_on s (requests_in after) ++ asked_on s owed) =
    ap (asked_on s) (sym asked) ∙ ap (λ (ds : List Deed). asked_on s (requests_in ds ++ owed)) whole ∙ asked_around s before after d body owed handing on in
    let first = is_first (asked_on s (requests_in before)) (asked_on s (requests_in after) ++ asked_on s owed) body (subst BeginsOnce around (begins_once s events once)) in
    ap (said_to s) whole
    ∙ silent_around schema s start before after d body end (subst (λ (ds : List Deed). AreDone schema start ds end) whole done) (subst (CallsOff s) (sym none) tt)
    first.0 (later_first (asked_on s (requests_in after)) (asked_on s owed) first.1) handing

-- ---- no stream is handed over twice

-- no two are the same
abbrev pub AreDifferent : List ℕ → Type 0
AreDifferent [] = Unit {0}
AreDifferent (s ∷ streams) = AllByRecursion (IsOff s) streams × AreDifferent streams

none_handed : (s : ℕ) (deeds : List Deed) → AreLater (asked_on s (requests_in deeds)) → AllByRecursion (IsOff s) (handed_in deeds)
none_handed s [] later = tt
none_handed s (d ∷ deeds) later =
    let mine = asked_on s (asked_in d.stream d.doing) in
    let others = asked_on s (requests_in deeds) in
    let both : AreLater (mine ++ others) = subst AreLater (asked_on-append s (asked_in d.stream d.doing) (requests_in deeds)) later in
    all_both (IsOff s) (handed_by d.stream d.doing) (handed_in deeds) (by_doing d.doing (later_first mine others both)) (none_handed s deeds (later_last mine others both)) where
      by_test : (b : Bool) (body : List ℕ) → (d.stream == s) ≡ b → AreLater (cond b (asks.Subscribe body ∷ []) []) → AllByRecursion (IsOff s) (d.stream ∷ [])
      by_test true body is later = absurd later.0
      by_test false body is later = (is, tt)

      by_doing : (doing : Doing) → AreLater (asked_on s (asked_in d.stream doing)) → AllByRecursion (IsOff s) (handed_by d.stream doing)
      by_doing (Answering asked) later = tt
      by_doing (Handing body) later = by_test (d.stream == s) body refl later
      by_doing Turning later = tt
      by_doing Dropping later = tt

once_last : (xs ys : List Asked) → BeginsOnce (xs ++ ys) → BeginsOnce ys
once_last [] ys once = once
once_last (x ∷ xs) ys once = later_begin ys (later_last xs ys once)

once_first : (xs ys : List Asked) → BeginsOnce (xs ++ ys) → BeginsOnce xs
once_first [] ys once = tt
once_first (x ∷ xs) ys once = later_first xs ys once

handed_once : (deeds : List Deed) → ((s : ℕ) → BeginsOnce (asked_on s (requests_in deeds))) → AreDifferent (handed_in deeds)
handed_once [] once = tt
handed_once (d ∷ deeds) once =
    by_doing d.doing refl (handed_once deeds (λ s. once_last (asked_on s (asked_in d.stream d.doing)) (asked_on s (requests_in deeds)) (parts s))) where
      parts : (s : ℕ) → BeginsOnce (asked_on s (asked_in d.stream d.doing) ++ asked_on s (requests_in deeds))
      parts s = subst BeginsOnce (asked_on-append s (asked_in d.stream d.doing) (requests_in deeds)) (once s)

      by_doing : (doing : Doing) → d.doing ≡ doing → AreDifferent (handed_in deeds) → AreDifferent (handed_by d.stream doing ++ handed_in deeds)
      by_doing (Answering asked) is rest = rest
      by_doing (Handing body) is rest =
          let mine : asked_on d.stream (asked_in d.stream d.doing) ≡ asks.Subscribe body ∷ [] =
          ap (λ (doing : Doing). asked_on d.stream (asked_in d.stream doing)) is ∙ ap (λ (b : Bool). cond b (asks.Subscribe body ∷ []) []) (eq-eqb d.stream d.stream refl) in
          let later : AreLater (asked_on d.stream (requests_in deeds)) = subst (λ (t : List Asked). BeginsOnce (t ++ asked_on d.stream (requests_in deeds))) mine (parts d.stream) in
          (none_handed d.stream deeds later, rest)
      by_doing Turning is rest = rest
      by_doing Dropping is rest = rest

-- The streams of the calls that were handed over are all different.
pub handed_differ : (deeds : List Deed) (owed : List Request) (events : List RecvEvent) → requests_in deeds ++ owed ≡ requests events → ((s : ℕ) → IsOpenedOnce s events) → AreDifferent (handed_in deeds)
handed_differ deeds owed events asked once =
    handed_once deeds (λ s. once_first (asked_on s (requests_in deeds)) (asked_on s owed)
    (subst BeginsOnce (ap (asked_on s) (sym asked) ∙ asked_on-append s (requests_in deeds) owed) (begins_once s events (once s))))
