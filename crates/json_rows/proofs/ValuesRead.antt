-- The values of a leaf-list are read one after the other, and compared once all are there.
use Rattle.std.proofs.Common.{◌≡◌, List, [], ◌∷◌, ◌++◌, Bool, true, false, cond, not, ◌&&◌, Option, Some, None, option_and_then, refl, sym, ap, ◌∙◌}
use Rattle.std.specs.List.{list_any}
use Rattle.serde_json.specs.Data.{Data, Items, item}
use Rattle.base_kinds.specs.declared.schema.Shape.{Shape}
use Rattle.base_kinds.specs.declared.value.Value.{Value}
use Rattle.base_kinds.specs.Values.{same_scalar, all_differ}
use Rattle.value_core.proofs.OneMore.{differ_more}
use Rattle.json_rows.specs.Leaves.{leaf_at, unless_listed, values_from}

-- what the items give behind values that may be equal
abbrev pub behind : Option Shape → List Value → Items → Option (List Value)
behind shape done items = cond (all_differ done) (values_from shape done items) None

by : (next : Value → Option (List Value)) (value : Value) (differ is_there : Bool) → cond (differ && not is_there) (next value) None ≡ cond differ (option_and_then next (cond is_there None (Some value))) None
by next value true true = refl
by next value true false = refl
by next value false is_there = refl

-- one value more
pub one_read : (shape : Option Shape) (done : List Value) (json : Data) (value : Value) (others : Items) → leaf_at shape json ≡ Some value → behind shape (done ++ value ∷ []) others ≡ behind shape done (item json others)
one_read shape done json value others is =
    ap (λ differ. cond differ (values_from shape (done ++ value ∷ []) others) None) (differ_more done value)
    ∙ by (λ w. values_from shape (done ++ w ∷ []) others) value (all_differ done) (list_any (same_scalar value) done)
    ∙ ap (λ read. cond (all_differ done) (option_and_then (λ w. values_from shape (done ++ w ∷ []) others) (option_and_then (unless_listed done) read)) None) (sym is)
