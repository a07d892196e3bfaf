-- The refusals of a request.
use Rattle.std.proofs.Common.{◌≡◌, ◌⊎◌, inl, inr, ℕ, List, [], ◌∷◌, ◌++◌, Bool, true, false, not, ◌&&◌, cond, Option, Some, None, Result, Ok, Err, refl, sym, ap, subst}
use Rattle.std.specs.List.{list_any}
use Rattle.std.specs.Option.{ok_or}
use Rattle.base_lists.specs.Results.{and_then, traverse, with_first}
use Rattle.base_kinds.specs.declared.path.Elem.{Elem}
use Rattle.base_kinds.specs.declared.value.Value.{Value}
use Rattle.base_kinds.specs.declared.operation.Row.{Row}
use Rattle.base_kinds.specs.declared.operation.Op.{Op}
use Rattle.base_kinds.specs.declared.operation.Act.{Act}
use Rattle.base_kinds.specs.declared.operation.Act.TheVariants.{Delete, Replace, Update}
use Rattle.base_kinds.specs.declared.request.Change.{Change}
use Rattle.base_kinds.specs.declared.request.Given.{Given}
use Rattle.base_kinds.specs.declared.request.Given.TheVariants as given
use Rattle.base_kinds.specs.declared.request.UnresolvedSet.{UnresolvedSet}
use Rattle.base_kinds.specs.declared.refusal.Refusal.{Refusal}
use Rattle.base_kinds.specs.declared.refusal.Refusal.TheVariants.{BadPath, NotInSchema, BadValue, Unsupported, BadDuration, MixedAction, BadId}
use Rattle.base_kinds.specs.Schema.{SchemaNode, node_at}
use Rattle.base_kinds.specs.Tree.{set_rows}
use Rattle.base_kinds.specs.Valid.{has_just_keys}
use Rattle.json_rows.specs.declared.fault.RowsFault.{RowsFault}
use Rattle.json_rows.specs.declared.fault.RowsFault.TheVariants as faults
use Rattle.json_rows.specs.Rows.{rows_of}
use Rattle.json_rows.proofs.Faults.{faults_are_two}
use Rattle.set_request.specs.Actions.{has_operations, is_mixed, has_fit_id, action_duration, ask_of}
use Rattle.set_request.specs.KeyLeaves.{is_wild, leaf_with, value_of_key, key_leaf, key_leaves_of_elem, key_leaves_from, key_leaves_of}
use Rattle.set_request.specs.Operations.{is_whole_path, op_of_delete, key_leaves_agree, are_fit_rows, op_with, op_at, op_of_change, ops_of_request}
use Rattle.set_request.specs.Resolution.{checked_duration, resolved}
use Rattle.set_request.specs.ValueRows.{refusal_of, rows_of_json, rows_of_scalar, rows_of_value}
use Rattle.set_request.specs.laws.Refusals.{IsOfRequests, RefusalsOfRequests}

-- what is refused is refused so
abbrev Refuses : {A : Type 0} → Result A Refusal → Type 0
Refuses r = (refusal : Refusal) → r ≡ Err refusal → IsOfRequests refusal

from_ok : {A : Type 0} (a : A) → Refuses (Ok a)
from_ok a refusal is = absurd (cc)

from_err : {A : Type 0} (own : Refusal) → IsOfRequests own → Refuses {A = A} (Err own)
from_err own of refusal is =
    let same : own ≡ refusal = cc in
    subst IsOfRequests same of

from_then : {A B : Type 0} (r : Result A Refusal) (next : A → Result B Refusal) → Refuses r → ((a : A) → Refuses (next a)) → Refuses (and_then r next)
from_then (Ok a) next first rest refusal is = rest a refusal is
from_then (Err own) next first rest refusal is =
    let same : own ≡ refusal = cc in
    first refusal (ap (λ e. Err e) same)

from_test : {A : Type 0} (test : Bool) (a b : Result A Refusal) → Refuses a → Refuses b → Refuses (cond test a b)
from_test true a b p q = p
from_test false a b p q = q

from_option : {A : Type 0} (o : Option A) (own : Refusal) → IsOfRequests own → Refuses (ok_or o own)
from_option None own of = from_err own of
from_option (Some a) own of = from_ok a

from_first : {A : Type 0} (b : A) (rest : Result (List A) Refusal) → Refuses rest → Refuses (with_first b rest)
from_first b (Ok more) of = from_ok (b ∷ more)
from_first b (Err own) of = λ refusal is. of refusal (ap (λ e. Err e) (same_refusal b own refusal is))
  where
    same_refusal : {A : Type 0} (b : A) (own refusal : Refusal) → ◌≡◌ {A = Result (List A) Refusal} (Err own) (Err refusal) → own ≡ refusal
    same_refusal b own refusal is = cc

from_traverse : {A B : Type 0} (step : A → Result B Refusal) (items : List A) → ((item : A) → Refuses (step item)) → Refuses (traverse step items)
from_traverse step [] of = from_ok []
from_traverse step (item ∷ items) of = from_then (step item) (λ b. with_first b (traverse step items)) (of item) (λ b. from_first b (traverse step items) (from_traverse step items of))

-- values

json_refuses : (answer : Result (List Row) RowsFault) → ((fault : RowsFault) → answer ≡ Err fault → (fault ≡ faults.NotInSchema) ⊎ (fault ≡ faults.BadValue)) → Refuses (rows_of_json answer)
json_refuses (Ok rows) two = from_ok rows
json_refuses (Err faults.NotInSchema) two = from_err NotInSchema tt
json_refuses (Err faults.BadValue) two = from_err BadValue tt
json_refuses (Err faults.NoMemory) two = absurd (never (two faults.NoMemory refl))
  where
    never : (faults.NoMemory ≡ faults.NotInSchema) ⊎ (faults.NoMemory ≡ faults.BadValue) → ⊥
    never (inl is) = cc
    never (inr is) = cc

value_refuses : (schema : List SchemaNode) (path : List Elem) (value : Given) → Refuses (rows_of_value schema path value)
value_refuses schema path (given.Json json) = json_refuses (rows_of schema path json) (λ fault is. faults_are_two schema path json fault is)
value_refuses schema path (given.Scalar value) = from_option (rows_of_scalar (node_at schema path) path value) BadValue tt
value_refuses schema path given.Missing = from_err BadValue tt

-- paths

leaf_refuses : (entry : List Elem) (key : List ℕ × List ℕ) (value : Option Value) → Refuses (leaf_with entry key value)
leaf_refuses entry key None = from_err BadPath tt
leaf_refuses entry key (Some value) = from_ok _

elem_refuses : (schema : List SchemaNode) (entry : List Elem) (elem : Elem) (node : Option SchemaNode) → Refuses (key_leaves_of_elem schema entry elem node)
elem_refuses schema entry elem None = from_err NotInSchema tt
elem_refuses schema entry elem (Some node) =
    from_test (has_just_keys elem node.keys) (traverse (key_leaf schema entry) elem.keys) (Err BadPath)
    (from_traverse (key_leaf schema entry) elem.keys (λ key. leaf_refuses entry key (value_of_key schema entry key))) (from_err BadPath tt)

leaves_refuse : (schema : List SchemaNode) (front elems : List Elem) → Refuses (key_leaves_from schema front elems)
leaves_refuse schema front [] = from_ok []
leaves_refuse schema front (elem ∷ elems) =
    let here = front ++ elem ∷ [] in
    from_then (key_leaves_of_elem schema here elem (node_at schema here)) (λ leaves. and_then (key_leaves_from schema here elems) (λ others. Ok (leaves ++ others)))
    (elem_refuses schema here elem (node_at schema here))
    (λ leaves. from_then (key_leaves_from schema here elems) (λ others. Ok (leaves ++ others)) (leaves_refuse schema here elems) (λ others. from_ok (leaves ++ others)))

-- operations

delete_refuses : (prefix path : List Elem) → Refuses (op_of_delete prefix path)
delete_refuses prefix path = from_test (is_whole_path (prefix ++ path)) _ (Err BadPath) (from_ok _) (from_err BadPath tt)

with_refuses : (act : Act) (path : List Elem) (keys rows : List Row) → Refuses (op_with act path keys rows)
with_refuses act path keys rows = from_test (key_leaves_agree keys rows && are_fit_rows (set_rows keys rows)) _ (Err BadValue) (from_ok _) (from_err BadValue tt)

change_refuses : (schema : List SchemaNode) (prefix : List Elem) (act : Act) (change : Change) → Refuses (op_of_change schema prefix act change)
change_refuses schema prefix act change =
    let path = prefix ++ change.path in
    from_test (is_whole_path path && not (list_any is_wild path)) (op_at schema act path change) (Err BadPath)
    (from_then (key_leaves_of schema path) (λ keys. and_then (rows_of_value schema path change.given) (op_with act path keys)) (leaves_refuse schema [] path)
    (λ keys. from_then (rows_of_value schema path change.given) (op_with act path keys) (value_refuses schema path change.given) (with_refuses act path keys)))
    (from_err BadPath tt)

ops_refuse : (schema : List SchemaNode) (ask : UnresolvedSet) → Refuses (ops_of_request schema ask)
ops_refuse schema ask =
    let replaced = traverse (op_of_change schema ask.prefix Replace) ask.replaces in
    let updated = traverse (op_of_change schema ask.prefix Update) ask.updates in
    from_then (traverse (op_of_delete ask.prefix) ask.deletes) (λ deletes. and_then replaced (λ replaces. and_then updated (λ updates. Ok (deletes ++ (replaces ++ updates)))))
    (from_traverse (op_of_delete ask.prefix) ask.deletes (delete_refuses ask.prefix))
    (λ deletes. from_then replaced (λ replaces. and_then updated (λ updates. Ok (deletes ++ (replaces ++ updates))))
    (from_traverse (op_of_change schema ask.prefix Replace) ask.replaces (change_refuses schema ask.prefix Replace))
    (λ replaces. from_then updated (λ updates. Ok (deletes ++ (replaces ++ updates)))
    (from_traverse (op_of_change schema ask.prefix Update) ask.updates (change_refuses schema ask.prefix Update))
    (λ updates. from_ok (deletes ++ (replaces ++ updates)))))

-- the action

duration_refuses : (ask : UnresolvedSet) → Refuses (checked_duration ask)
duration_refuses ask =
    let last = ok_or (action_duration ask.action) BadDuration in
    from_test ask.unsupported (Err Unsupported) (cond (is_mixed ask.action (has_operations ask)) (Err MixedAction) (cond (not (has_fit_id ask.action)) (Err BadId) last)) (from_err Unsupported tt)
    (from_test (is_mixed ask.action (has_operations ask)) (Err MixedAction) (cond (not (has_fit_id ask.action)) (Err BadId) last) (from_err MixedAction tt)
    (from_test (not (has_fit_id ask.action)) (Err BadId) last (from_err BadId tt) (from_option (action_duration ask.action) BadDuration tt)))

pub refusals_of_requests : RefusalsOfRequests
refusals_of_requests schema ask =
    from_then (checked_duration ask) (λ nanos. and_then (ops_of_request schema ask) (λ ops. Ok (ask_of ask.action ops nanos))) (duration_refuses ask)
    (λ nanos. from_then (ops_of_request schema ask) (λ ops. Ok (ask_of ask.action ops nanos)) (ops_refuse schema ask) (λ ops. from_ok (ask_of ask.action ops nanos)))
