-- Each refusal of a request under a well-formed schema has its cause.
use Rattle.std.proofs.Common.{◌≡◌, ◌⊎◌, inl, inr, ⊎_elim, ℕ, List, [], ◌∷◌, ◌++◌, Bool, true, false, true≢false, not, ◌&&◌, cond, Option, Some, None, Result, Ok, Err, refl, sym, ap, ◌∙◌, subst, append_assoc}
use Rattle.std.specs.List.{Contains, list_any}
use Rattle.std.specs.Option.{ok_or, option_and_then}
use Rattle.std.proofs.lemmas.List.Elements.{Contains-push, Contains-append_left, Contains-append_right}
use Rattle.base_lists.specs.Results.{and_then, traverse, with_first}
use Rattle.base_kinds.specs.declared.path.Elem.{Elem}
use Rattle.base_kinds.specs.declared.value.Value.{Value}
use Rattle.base_kinds.specs.declared.operation.Row.{Row}
use Rattle.base_kinds.specs.declared.operation.Act.{Act}
use Rattle.base_kinds.specs.declared.operation.Act.TheVariants.{Replace, Update}
use Rattle.base_kinds.specs.declared.request.Change.{Change}
use Rattle.base_kinds.specs.declared.request.Given.{Given}
use Rattle.base_kinds.specs.declared.request.Given.TheVariants as given
use Rattle.base_kinds.specs.declared.request.UnresolvedSet.{UnresolvedSet}
use Rattle.base_kinds.specs.declared.refusal.Refusal.{Refusal}
use Rattle.base_kinds.specs.declared.refusal.Refusal.TheVariants as refusals
use Rattle.base_kinds.specs.declared.schema.Shape.{Shape}
use Rattle.base_kinds.specs.Ancestors.{child}
use Rattle.base_kinds.specs.Schema.{SchemaNode, node_at}
use Rattle.base_kinds.specs.Tree.{set_rows}
use Rattle.base_kinds.specs.Valid.{has_just_keys}
use Rattle.schema_core.specs.WellFormed.{IsWellFormed}
use Rattle.schema_text.proofs.Formed.{well_formed}
use Rattle.value_core.specs.KeyValues.{key_value}
use Rattle.json_rows.specs.declared.fault.RowsFault.{RowsFault}
use Rattle.json_rows.specs.declared.fault.RowsFault.TheVariants as faults
use Rattle.json_rows.specs.Rows.{rows_of}
use Rattle.json_rows.proofs.Faults.{faults_are_two}
use Rattle.set_request.specs.Actions.{has_operations, is_mixed, has_fit_id, action_duration, ask_of}
use Rattle.set_request.specs.KeyLeaves.{is_wild, shape_at, leaf_with, value_of_key, key_leaf, key_leaves_of_elem, key_leaves_from, key_leaves_of}
use Rattle.set_request.specs.Operations.{is_whole_path, op_of_delete, key_leaves_agree, are_fit_rows, op_with, op_at, op_of_change, ops_of_request}
use Rattle.set_request.specs.Resolution.{checked_duration}
use Rattle.set_request.specs.ValueRows.{rows_of_json, rows_of_scalar, rows_of_value}
use Rattle.set_request.specs.laws.Causes.{LacksNode, HasBadKeys, IsCauseInDelete, IsCauseInChange, IsCauseInOperations, HasCause, RefusalsHaveCauses, RefusalsUnderTextsHaveCauses}
use Rattle.set_request.proofs.Standing.{rows_may_stand, keys_have_leaves_at}

-- a refusal comes only for such a cause
abbrev Causes : {A : Type 0} → (Refusal → Type 0) → Result A Refusal → Type 0
Causes P r = (refusal : Refusal) → r ≡ Err refusal → P refusal

none_of_ok : {A : Type 0} (P : Refusal → Type 0) (a : A) → Causes P (Ok a)
none_of_ok P a refusal is = absurd (cc)

one_of_err : {A : Type 0} (P : Refusal → Type 0) (own : Refusal) → P own → Causes {A = A} P (Err own)
one_of_err P own cause refusal is =
    let same : own ≡ refusal = cc in
    subst P same cause

of_then : {A B : Type 0} (P : Refusal → Type 0) (r : Result A Refusal) (next : A → Result B Refusal) → Causes P r → ((a : A) → r ≡ Ok a → Causes P (next a)) → Causes P (and_then r next)
of_then P (Ok a) next first rest refusal is = rest a refl refusal is
of_then P (Err own) next first rest refusal is =
    let same : own ≡ refusal = cc in
    first refusal (ap (λ e. Err e) same)

of_test : {A : Type 0} (P : Refusal → Type 0) (test : Bool) (a b : Result A Refusal) → (test ≡ true → Causes P a) → (test ≡ false → Causes P b) → Causes P (cond test a b)
of_test P true a b p q = p refl
of_test P false a b p q = q refl

of_option : {A : Type 0} (P : Refusal → Type 0) (o : Option A) (own : Refusal) → (o ≡ None → P own) → Causes P (ok_or o own)
of_option P None own cause = one_of_err P own (cause refl)
of_option P (Some a) own cause = none_of_ok P a

of_first : {A : Type 0} (P : Refusal → Type 0) (b : A) (rest : Result (List A) Refusal) → Causes P rest → Causes P (with_first b rest)
of_first P b (Ok more) causes refusal is = none_of_ok P (b ∷ more) refusal is
of_first P b (Err own) causes refusal is =
    let same : own ≡ refusal = cc in
    causes refusal (ap (λ e. Err e) same)

first_in : {A : Type 0} (x : A) (xs : List A) → Contains (x ∷ xs) x
first_in x xs = Contains-append_left (x ∷ []) xs x (Contains-push [] x)

later_in : {A : Type 0} (x y : A) (xs : List A) → Contains xs y → Contains (x ∷ xs) y
later_in x y xs among = Contains-append_right (x ∷ []) xs y among

of_each : {A B : Type 0} (P : Refusal → Type 0) (step : A → Result B Refusal) (items : List A) → ((item : A) → Contains items item → Causes P (step item)) → Causes P (traverse step items)
of_each P step [] own = none_of_ok P []
of_each P step (item ∷ items) own =
    of_then P (step item) (λ b. with_first b (traverse step items)) (own item (first_in item items))
    (λ b told. of_first P b (traverse step items) (of_each P step items (λ other among. own other (later_in item other items among))))

-- ---- the path of a replace or an update

abbrev PathCause : List SchemaNode → List Elem → Refusal → Type 0
PathCause schema path refusals.BadPath = HasBadKeys schema path
PathCause schema path refusals.NotInSchema = LacksNode schema path
PathCause schema path _ = ⊥

untold : (schema : List SchemaNode) (shape : Option Shape) (own : Shape) (text : List ℕ) → shape ≡ Some own → option_and_then (λ s. key_value s text) shape ≡ None → key_value own text ≡ None
untold schema shape own text is none = sym (ap (λ (o : Option Shape). option_and_then (λ s. key_value s text) o) is) ∙ none

module _ (schema : List SchemaNode) (formed : IsWellFormed schema) (path front : List Elem) (elem : Elem) (elems : List Elem) (split : path ≡ front ++ elem ∷ elems) where
  of_key : (node : SchemaNode) → node_at schema (front ++ elem ∷ []) ≡ Some node → has_just_keys elem node.keys ≡ true → (key : List ℕ × List ℕ) → Contains elem.keys key → (told : Option Value) → value_of_key schema (front ++ elem ∷ []) key ≡ told → Causes (PathCause schema path) (leaf_with (front ++ elem ∷ []) key told)
  of_key node at just key among (Some value) is = none_of_ok (PathCause schema path) _
  of_key node at just key among None is =
      let here = front ++ elem ∷ [] in
      let leaf = keys_have_leaves_at schema here elem node key formed at just among in
      one_of_err (PathCause schema path) refusals.BadPath (record {
        front = front;
        elem = elem;
        rest = elems;
        node = node;
        split = split;
        found = at;
        bad = inr (key, among, record { shape = leaf.0; leaf = leaf.1; none = untold schema (shape_at schema (child here key.0)) leaf.0 key.1 leaf.1 is });
      })

  of_elem : (node : Option SchemaNode) → node_at schema (front ++ elem ∷ []) ≡ node → Causes (PathCause schema path) (key_leaves_of_elem schema (front ++ elem ∷ []) elem node)
  of_elem None at = one_of_err (PathCause schema path) refusals.NotInSchema (record { front = front; elem = elem; rest = elems; split = split; none = at })
  of_elem (Some node) at =
      let here = front ++ elem ∷ [] in
      of_test (PathCause schema path) (has_just_keys elem node.keys) (traverse (key_leaf schema here) elem.keys) (Err refusals.BadPath)
      (λ just. of_each (PathCause schema path) (key_leaf schema here) elem.keys (λ key among. of_key node at just key among (value_of_key schema here key) refl))
      (λ other. one_of_err (PathCause schema path) refusals.BadPath (record { front = front; elem = elem; rest = elems; node = node; split = split; found = at; bad = inl other }))

of_leaves : (schema : List SchemaNode) → IsWellFormed schema → (path front elems : List Elem) → path ≡ front ++ elems → Causes (PathCause schema path) (key_leaves_from schema front elems)
of_leaves schema formed path front [] split = none_of_ok (PathCause schema path) []
of_leaves schema formed path front (elem ∷ elems) split =
    let here = front ++ elem ∷ [] in
    let P = PathCause schema path in
    of_then P (key_leaves_of_elem schema here elem (node_at schema here)) (λ leaves. and_then (key_leaves_from schema here elems) (λ others. Ok (leaves ++ others)))
    (of_elem schema formed path front elem elems split (node_at schema here) refl)
    (λ leaves told. of_then P (key_leaves_from schema here elems) (λ others. Ok (leaves ++ others))
    (of_leaves schema formed path here elems (split ∙ sym (append_assoc front (elem ∷ []) elems)))
    (λ others also. none_of_ok P (leaves ++ others)))

-- ---- a replace or an update

module _ (schema : List SchemaNode) (formed : IsWellFormed schema) (path : List Elem) (value : Given) where
  abbrev C : Refusal → Type 0
  C = IsCauseInChange schema path value

  of_path : (refusal : Refusal) → PathCause schema path refusal → C refusal
  of_path refusals.BadPath cause = inr (inr cause)
  of_path refusals.NotInSchema cause = inl cause
  of_path refusal cause = absurd cause

  json_cause : (json : List ℕ) → value ≡ given.Json json → (told : Result (List Row) RowsFault) → rows_of schema path json ≡ told → (refusal : Refusal) → rows_of_json told ≡ Err refusal → rows_of_value schema path value ≡ Err refusal → C refusal
  json_cause json is (Ok rows) told refusal refused also = absurd (cc)
  json_cause json is (Err faults.NotInSchema) told refusal refused also = one_of_err {A = List Row} C refusals.NotInSchema (inr (record { json = json; is = is; unknown = told })) refusal refused
  json_cause json is (Err faults.BadValue) told refusal refused also =
      let same : refusals.BadValue ≡ refusal = cc in
      subst C same (inl (subst (λ r. rows_of_value schema path value ≡ Err r) (sym same) also))
  json_cause json is (Err faults.NoMemory) told refusal refused also = absurd (never (faults_are_two schema path json faults.NoMemory told))
    where
      never : (faults.NoMemory ≡ faults.NotInSchema) ⊎ (faults.NoMemory ≡ faults.BadValue) → ⊥
      never (inl is) = cc
      never (inr is) = cc

  of_value : (same : Given) → value ≡ same → (refusal : Refusal) → rows_of_value schema path same ≡ Err refusal → C refusal
  of_value (given.Json json) is refusal told = json_cause json is (rows_of schema path json) refl refusal told (ap (rows_of_value schema path) is ∙ told)
  of_value (given.Scalar scalar) is refusal told = of_option C (rows_of_scalar (node_at schema path) path scalar) refusals.BadValue (λ none. inl (ap (rows_of_value schema path) is ∙ ap (λ o. ok_or o refusals.BadValue) none)) refusal told
  of_value given.Missing is refusal told = one_of_err {A = List Row} C refusals.BadValue (inl (ap (rows_of_value schema path) is)) refusal told

  of_rows : (act : Act) (keys rows : List Row) → is_whole_path path ≡ true → key_leaves_of schema path ≡ Ok keys → rows_of_value schema path value ≡ Ok rows → Causes C (op_with act path keys rows)
  of_rows act keys rows whole from_path from_value =
      let fit = rows_may_stand schema path value keys rows formed whole from_path from_value in
      of_test C (key_leaves_agree keys rows && are_fit_rows (set_rows keys rows)) _ (Err refusals.BadValue)
      (λ both. none_of_ok C _)
      (λ not_both. one_of_err C refusals.BadValue (inr (record { keys = keys; rows = rows; of_path = from_path; of_value = from_value; differ = first_false (key_leaves_agree keys rows) (are_fit_rows (set_rows keys rows)) not_both fit })))
    where
      first_false : (a b : Bool) → (a && b) ≡ false → b ≡ true → a ≡ false
      first_false true b is own = absurd (true≢false (sym own ∙ is))
      first_false false b is own = refl

  of_op : (act : Act) (change : Change) → change.given ≡ value → is_whole_path path ≡ true → Causes C (op_at schema act path change)
  of_op act change is whole =
      of_then C (key_leaves_of schema path) (λ keys. and_then (rows_of_value schema path change.given) (op_with act path keys))
      (λ refusal told. of_path refusal (of_leaves schema formed path [] path refl refusal told))
      (λ keys from_path. of_then C (rows_of_value schema path change.given) (op_with act path keys)
      (of_value change.given (sym is))
      (λ rows from_value. of_rows act keys rows whole from_path (ap (rows_of_value schema path) (sym is) ∙ from_value)))

both_true : (a b : Bool) → (a && not b) ≡ true → a ≡ true
both_true true b is = refl
both_true false b is = absurd (true≢false (sym is))

not_both : (a b : Bool) → (a && not b) ≡ false → (a ≡ false) ⊎ (b ≡ true)
not_both true true is = inr refl
not_both true false is = absurd (true≢false is)
not_both false b is = inl refl

of_change : (schema : List SchemaNode) → IsWellFormed schema → (prefix : List Elem) (act : Act) (change : Change) → Causes (IsCauseInChange schema (prefix ++ change.path) change.given) (op_of_change schema prefix act change)
of_change schema formed prefix act change =
    let path = prefix ++ change.path in
    let P = IsCauseInChange schema path change.given in
    of_test P (is_whole_path path && not (list_any is_wild path)) (op_at schema act path change) (Err refusals.BadPath)
    (λ both. of_op schema formed path change.given act change refl (both_true (is_whole_path path) (list_any is_wild path) both))
    (λ other. one_of_err P refusals.BadPath (⊎_elim (λ part. inl part) (λ wild. inr (inl wild)) (not_both (is_whole_path path) (list_any is_wild path) other)))

of_delete : (prefix path : List Elem) → Causes (IsCauseInDelete (prefix ++ path)) (op_of_delete prefix path)
of_delete prefix path =
    let P = IsCauseInDelete (prefix ++ path) in
    of_test P (is_whole_path (prefix ++ path)) _ (Err refusals.BadPath) (λ whole. none_of_ok P _) (λ other. one_of_err P refusals.BadPath other)

-- ---- requests

in_none : (schema : List SchemaNode) (ask : UnresolvedSet) (refusal : Refusal) → ((path : List Elem) → IsCauseInDelete path refusal → ⊥) → ((path : List Elem) (value : Given) → IsCauseInChange schema path value refusal → ⊥) → IsCauseInOperations schema ask refusal → ⊥
in_none schema ask refusal no_delete no_change (inl c) = no_delete (ask.prefix ++ c.0) c.2
in_none schema ask refusal no_delete no_change (inr c) = no_change (ask.prefix ++ c.0.path) c.0.given c.2

module _ (schema : List SchemaNode) (formed : IsWellFormed schema) (ask : UnresolvedSet) where
  abbrev O : Refusal → Type 0
  O = IsCauseInOperations schema ask

  of_ops : Causes O (ops_of_request schema ask)
  of_ops =
      let replaced = traverse (op_of_change schema ask.prefix Replace) ask.replaces in
      let updated = traverse (op_of_change schema ask.prefix Update) ask.updates in
      of_then O (traverse (op_of_delete ask.prefix) ask.deletes) (λ deletes. and_then replaced (λ replaces. and_then updated (λ updates. Ok (deletes ++ (replaces ++ updates)))))
      (of_each O (op_of_delete ask.prefix) ask.deletes (λ path among refusal told. inl (path, among, of_delete ask.prefix path refusal told)))
      (λ deletes one. of_then O replaced (λ replaces. and_then updated (λ updates. Ok (deletes ++ (replaces ++ updates))))
      (of_each O (op_of_change schema ask.prefix Replace) ask.replaces (λ change among refusal told. inr (change, Contains-append_left ask.replaces ask.updates change among, of_change schema formed ask.prefix Replace change refusal told)))
      (λ replaces two. of_then O updated (λ updates. Ok (deletes ++ (replaces ++ updates)))
      (of_each O (op_of_change schema ask.prefix Update) ask.updates (λ change among refusal told. inr (change, Contains-append_right ask.replaces ask.updates change among, of_change schema formed ask.prefix Update change refusal told)))
      (λ updates three. none_of_ok O (deletes ++ (replaces ++ updates)))))

  -- no operation is refused for the sake of the action
  wider : (refusal : Refusal) → O refusal → HasCause schema ask refusal
  wider refusals.Unsupported cause = absurd (in_none schema ask refusals.Unsupported (λ path none. none) (λ path value none. none) cause)
  wider refusals.MixedAction cause = absurd (in_none schema ask refusals.MixedAction (λ path none. none) (λ path value none. none) cause)
  wider refusals.BadId cause = absurd (in_none schema ask refusals.BadId (λ path none. none) (λ path value none. none) cause)
  wider refusals.BadDuration cause = absurd (in_none schema ask refusals.BadDuration (λ path none. none) (λ path value none. none) cause)
  wider refusal cause = cause

  of_action : Causes (HasCause schema ask) (checked_duration ask)
  of_action =
      let H = HasCause schema ask in
      let last = ok_or (action_duration ask.action) refusals.BadDuration in
      of_test H ask.unsupported (Err refusals.Unsupported) (cond (is_mixed ask.action (has_operations ask)) (Err refusals.MixedAction) (cond (not (has_fit_id ask.action)) (Err refusals.BadId) last)) (λ is. one_of_err H refusals.Unsupported is)
      (λ no. of_test H (is_mixed ask.action (has_operations ask)) (Err refusals.MixedAction) (cond (not (has_fit_id ask.action)) (Err refusals.BadId) last) (λ is. one_of_err H refusals.MixedAction is)
      (λ no. of_test H (not (has_fit_id ask.action)) (Err refusals.BadId) last (λ is. one_of_err H refusals.BadId (unfit (has_fit_id ask.action) is))
      (λ no. of_option H (action_duration ask.action) refusals.BadDuration (λ none. none))))
    where
      unfit : (b : Bool) → not b ≡ true → b ≡ false
      unfit true is = absurd (true≢false (sym is))
      unfit false is = refl

pub refusals_have_causes : RefusalsHaveCauses
refusals_have_causes schema ask refusal formed is =
    let H = HasCause schema ask in
    of_then H (checked_duration ask) (λ nanos. and_then (ops_of_request schema ask) (λ ops. Ok (ask_of ask.action ops nanos))) (of_action schema formed ask)
    (λ nanos one. of_then H (ops_of_request schema ask) (λ ops. Ok (ask_of ask.action ops nanos))
    (λ r told. wider schema formed ask r (of_ops schema formed ask r told))
    (λ ops two. none_of_ok H (ask_of ask.action ops nanos))) refusal is

pub under_texts : RefusalsUnderTextsHaveCauses
under_texts text schema ask refusal read is = refusals_have_causes schema ask refusal (well_formed text schema read) is
