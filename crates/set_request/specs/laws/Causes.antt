-- Why a request is refused, where the schema was read from a text: for the causes of the profile and
-- no others. What `resolved` tests beside them never is the cause: that rows can't stand in an
-- operation, and that a key has no leaf.
use Rattle.std.specs.Prelude.{◌≡◌, ◌⊎◌, ℕ, List, [], ◌∷◌, ◌++◌, true, false, Some, None, Ok, Err, IsTrue}
use Rattle.std.specs.List.{Contains, list_any}
use Rattle.base_kinds.specs.declared.path.Elem.{Elem}
use Rattle.base_kinds.specs.declared.operation.Row.{Row}
use Rattle.base_kinds.specs.declared.request.Change.{Change}
use Rattle.base_kinds.specs.declared.request.Given.{Given}
use Rattle.base_kinds.specs.declared.request.Given.TheVariants as given
use Rattle.base_kinds.specs.declared.request.UnresolvedSet.{UnresolvedSet}
use Rattle.base_kinds.specs.declared.refusal.Refusal.{Refusal}
use Rattle.base_kinds.specs.declared.refusal.Refusal.TheVariants as refusals
use Rattle.base_kinds.specs.declared.schema.Shape.{Shape}
use Rattle.base_kinds.specs.Ancestors.{child}
use Rattle.base_kinds.specs.Schema.{SchemaNode, node_at}
use Rattle.base_kinds.specs.Tree.{set_rows}
use Rattle.base_kinds.specs.Valid.{has_just_keys}
use Rattle.schema_core.specs.WellFormed.{IsWellFormed}
use Rattle.schema_text.specs.Schemas.{schema_of}
use Rattle.value_core.specs.KeyValues.{key_value}
use Rattle.json_rows.specs.declared.fault.RowsFault.TheVariants as faults
use Rattle.json_rows.specs.Rows.{rows_of}
use Rattle.set_request.specs.Actions.{has_operations, is_mixed, has_fit_id, action_duration}
use Rattle.set_request.specs.KeyLeaves.{is_wild, shape_at, key_leaves_of}
use Rattle.set_request.specs.Operations.{is_whole_path, key_leaves_agree, are_fit_rows}
use Rattle.set_request.specs.Resolution.{resolved}
use Rattle.set_request.specs.ValueRows.{rows_of_value}

-- the rows of a value and the key leaves of its path may stand in an operation
abbrev pub RowsMayStand : Type 0
RowsMayStand =
    (schema : List SchemaNode) (path : List Elem) (value : Given) (keys rows : List Row)
    → IsWellFormed schema → IsTrue (is_whole_path path) → key_leaves_of schema path ≡ Ok keys
    → rows_of_value schema path value ≡ Ok rows → IsTrue (are_fit_rows (set_rows keys rows))

-- each key of an element that has just its node's keys is that of a leaf
abbrev pub KeysHaveLeaves : Type 0
KeysHaveLeaves =
    (schema : List SchemaNode) (entry : List Elem) (elem : Elem) (node : SchemaNode)
    (key : List ℕ × List ℕ) → IsWellFormed schema → node_at schema entry ≡ Some node
    → IsTrue (has_just_keys elem node.keys) → Contains elem.keys key
    → (shape : Shape) × (shape_at schema (child entry key.0) ≡ Some shape)

-- no node has the names of the path up to this element
pub record LacksNode (schema : List SchemaNode) (path : List Elem) : Type 0 where
  pub front : List Elem
  pub elem : Elem
  pub rest : List Elem
  pub split : path ≡ front ++ elem ∷ rest
  pub none : node_at schema (front ++ elem ∷ []) ≡ None

-- the key's text is that of no value of its leaf
pub record IsNoKey (schema : List SchemaNode) (entry : List Elem) (key : List ℕ × List ℕ) :
    Type 0 where
  pub shape : Shape
  pub leaf : shape_at schema (child entry key.0) ≡ Some shape
  pub none : key_value shape key.1 ≡ None

-- an element has other keys than its node, or a key whose text is no key
pub record HasBadKeys (schema : List SchemaNode) (path : List Elem) : Type 0 where
  pub front : List Elem
  pub elem : Elem
  pub rest : List Elem
  pub node : SchemaNode
  pub split : path ≡ front ++ elem ∷ rest
  pub found : node_at schema (front ++ elem ∷ []) ≡ Some node
  pub bad : (has_just_keys elem node.keys ≡ false)
      ⊎ ((key : List ℕ × List ℕ) × (Contains elem.keys key)
      × IsNoKey schema (front ++ elem ∷ []) key)

-- JSON names a child that the schema doesn't have
pub record NamesNoChild (schema : List SchemaNode) (path : List Elem) (value : Given) : Type 0 where
  pub json : List ℕ
  pub is : value ≡ given.Json json
  pub unknown : rows_of schema path json ≡ Err faults.NotInSchema

-- the value's rows say of a key leaf something else than the path's key
pub record Disagrees (schema : List SchemaNode) (path : List Elem) (value : Given) : Type 0 where
  pub keys : List Row
  pub rows : List Row
  pub of_path : key_leaves_of schema path ≡ Ok keys
  pub of_value : rows_of_value schema path value ≡ Ok rows
  pub differ : key_leaves_agree keys rows ≡ false

-- of a delete, at its path with the prefix
abbrev pub IsCauseInDelete : List Elem → Refusal → Type 0
IsCauseInDelete path refusals.BadPath = is_whole_path path ≡ false
IsCauseInDelete path _ = ⊥

-- of a replace or an update of this value, at its path with the prefix
abbrev pub IsCauseInChange : List SchemaNode → List Elem → Given → Refusal → Type 0
IsCauseInChange schema path value refusals.BadPath =
    (is_whole_path path ≡ false)
    ⊎ ((list_any is_wild path ≡ true) ⊎ HasBadKeys schema path)
IsCauseInChange schema path value refusals.NotInSchema =
    LacksNode schema path ⊎ NamesNoChild schema path value
IsCauseInChange schema path value refusals.BadValue =
    (rows_of_value schema path value ≡ Err refusals.BadValue) ⊎ Disagrees schema path value
IsCauseInChange schema path value _ = ⊥

-- some operation has a cause
abbrev pub IsCauseInOperations : List SchemaNode → UnresolvedSet → Refusal → Type 0
IsCauseInOperations schema ask refusal =
    ((path : List Elem) × (Contains ask.deletes path)
    × IsCauseInDelete (ask.prefix ++ path) refusal)
    ⊎ ((change : Change) × (Contains (ask.replaces ++ ask.updates) change)
    × IsCauseInChange schema (ask.prefix ++ change.path) change.given refusal)

-- the action, or some operation, has a cause
abbrev pub HasCause : List SchemaNode → UnresolvedSet → Refusal → Type 0
HasCause schema ask refusals.Unsupported = ask.unsupported ≡ true
HasCause schema ask refusals.MixedAction = is_mixed ask.action (has_operations ask) ≡ true
HasCause schema ask refusals.BadId = has_fit_id ask.action ≡ false
HasCause schema ask refusals.BadDuration = action_duration ask.action ≡ None
HasCause schema ask refusal = IsCauseInOperations schema ask refusal

-- a request is refused for a cause of the profile
abbrev pub RefusalsHaveCauses : Type 0
RefusalsHaveCauses =
    (schema : List SchemaNode) (ask : UnresolvedSet) (refusal : Refusal)
    → IsWellFormed schema → resolved schema ask ≡ Err refusal → HasCause schema ask refusal

-- the same under the schema that a text is
abbrev pub RefusalsUnderTextsHaveCauses : Type 0
RefusalsUnderTextsHaveCauses =
    (text : List ℕ) (schema : List SchemaNode) (ask : UnresolvedSet) (refusal : Refusal)
    → schema_of text ≡ Ok schema → resolved schema ask ≡ Err refusal
    → HasCause schema ask refusal
