-- What a GetRequest asks, from its parts.
use Rattle.std.proofs.Common.{◌≡◌, ℕ, List, Bool, true, false, cond, ap, ◌∙◌, Option, Some, None, Result, Ok, Err}
use Rattle.base_kinds.specs.declared.path.Elem.{Elem}
use Rattle.base_kinds.specs.declared.refusal.Refusal.{Refusal}
use Rattle.base_kinds.specs.declared.refusal.Refusal.TheVariants as refusals
use Rattle.base_kinds.specs.Schema.{SchemaNode}
use Rattle.gnmi_kinds.specs.declared.ask.GetAsk.{GetAsk}
use Rattle.request_desk.specs.Gets.{is_unsupported, asked_paths, look_task, reply_at, read_task}
use Rattle.request_desk.specs.Tasks.{Task, Says, Looks}
use Rattle.request_desk.specs.inner.Gets.{get_ask}

-- ---- refused by itself

refused_so : (b : Bool) (task : Task) (ask : GetAsk) (refusal : Refusal)
    → ◌≡◌ {A = Result GetAsk Refusal} (cond b (Err refusals.Unsupported) (Ok ask)) (Err refusal)
    → cond b (Says (Err refusals.Unsupported)) task ≡ Says (Err refusal)
refused_so true task ask refusal is = ap Says (named refusals.Unsupported refusal is)
  where
    named : (a r : Refusal) → ◌≡◌ {A = Result GetAsk Refusal} (Err a) (Err r) → ◌≡◌ {A = Result (List ℕ) Refusal} (Err a) (Err r)
    named a r e = cc
refused_so false task ask refusal is = absurd (differ ask refusal is)
  where
    differ : (a : GetAsk) (r : Refusal) → ◌≡◌ {A = Result GetAsk Refusal} (Ok a) (Err r) → ⊥
    differ a r e = cc

pub ask_refused : (schema : List SchemaNode) (read : Option GetAsk) (refusal : Refusal) → get_ask read ≡ Err refusal
    → read_task schema read ≡ Says (Err refusal)
ask_refused schema None refusal is = ap Says (named refusals.BadMessage refusal is)
  where
    named : (a r : Refusal) → ◌≡◌ {A = Result GetAsk Refusal} (Err a) (Err r) → ◌≡◌ {A = Result (List ℕ) Refusal} (Err a) (Err r)
    named a r e = cc
ask_refused schema (Some ask) refusal is =
    refused_so (is_unsupported ask) (look_task schema ask (asked_paths ask)) ask refusal is

-- ---- asked

served : (schema : List SchemaNode) (b : Bool) (ask given : GetAsk)
    → ◌≡◌ {A = Result GetAsk Refusal} (cond b (Err refusals.Unsupported) (Ok ask)) (Ok given)
    → cond b (Says (Err refusals.Unsupported)) (look_task schema ask (asked_paths ask)) ≡ look_task schema given (asked_paths given)
served schema true ask given is = absurd (differ refusals.Unsupported given is)
  where
    differ : (r : Refusal) (a : GetAsk) → ◌≡◌ {A = Result GetAsk Refusal} (Err r) (Ok a) → ⊥
    differ r a e = cc
served schema false ask given is = ap (λ (a : GetAsk). look_task schema a (asked_paths a)) (same ask given is)
  where
    same : (a b : GetAsk) → ◌≡◌ {A = Result GetAsk Refusal} (Ok a) (Ok b) → a ≡ b
    same a b e = cc

-- a request that this target serves is looked for, or its paths are refused
pub asked : (schema : List SchemaNode) (read : Option GetAsk) (ask : GetAsk) → get_ask read ≡ Ok ask
    → read_task schema read ≡ look_task schema ask (asked_paths ask)
asked schema None ask is = absurd (differ refusals.BadMessage ask is)
  where
    differ : (r : Refusal) (a : GetAsk) → ◌≡◌ {A = Result GetAsk Refusal} (Err r) (Ok a) → ⊥
    differ r a e = cc
asked schema (Some given) ask is = served schema (is_unsupported given) given ask is

pub paths_refused : (schema : List SchemaNode) (read : Option GetAsk) (ask : GetAsk) (refusal : Refusal) → get_ask read ≡ Ok ask
    → asked_paths ask ≡ Err refusal → read_task schema read ≡ Says (Err refusal)
paths_refused schema read ask refusal is bad = asked schema read ask is ∙ ap (look_task schema ask) bad

pub looks : (schema : List SchemaNode) (read : Option GetAsk) (ask : GetAsk) (paths : List (List Elem)) → get_ask read ≡ Ok ask
    → asked_paths ask ≡ Ok paths → read_task schema read ≡ Looks (reply_at schema ask paths)
looks schema read ask paths is given = asked schema read ask is ∙ ap (look_task schema ask) given
