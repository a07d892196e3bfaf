-- The rows that stay behind a delete.
use Rattle.std.proofs.Common.{◌≡◌, ◌↔◌, List, [], ◌∷◌, refl, sym, ap, Bool, true, false, filter, not}
use Rattle.std.specs.List.{All, Contains}
use Rattle.std.proofs.lemmas.List.Elements.{All-nil, All-cons, All-weaker, All-filter, All-contains, All-contains_itself, filter_passes, Contains-push, Contains-append_left, Contains-append_right}
use Rattle.base_kinds.specs.declared.path.Elem.{Elem}
use Rattle.base_kinds.specs.declared.operation.Row.{Row}
use Rattle.base_kinds.specs.Tree.{uncovered}
use Rattle.base_kinds.specs.Match.{covers}

abbrev IsKept : (Row → Bool) → List Row → Row → Type 0
IsKept keep rows row = keep row ≡ true → Contains (filter keep rows) row

first_kept : (keep : Row → Bool) (first : Row) (rows : List Row) → IsKept keep (first ∷ rows) first
first_kept keep first rows is = rw is (Contains-append_left (first ∷ []) (filter keep rows) first (Contains-push [] first))

kept_behind : (keep : Row → Bool) (first : Row) (rows : List Row) (row : Row) → IsKept keep rows row → IsKept keep (first ∷ rows) row
kept_behind keep first rows row kept is = by_test (keep first) refl
  where
    by_test : (test : Bool) → keep first ≡ test → Contains (filter keep (first ∷ rows)) row
    by_test true first_is = rw first_is (Contains-append_right (first ∷ []) (filter keep rows) row (kept is))
    by_test false first_is = rw first_is (kept is)

all_kept : (keep : Row → Bool) (rows : List Row) → All (IsKept keep rows) rows
all_kept keep [] = All-nil (IsKept keep [])
all_kept keep (first ∷ rows) = All-cons (IsKept keep (first ∷ rows)) first rows (first_kept keep first rows) (All-weaker (IsKept keep rows) (IsKept keep (first ∷ rows)) (λ row. kept_behind keep first rows row) rows (all_kept keep rows))

-- a filter's rows are those that it keeps
kept_exactly : (keep : Row → Bool) (rows : List Row) (row : Row) → Contains (filter keep rows) row ↔ (Contains rows row × (keep row ≡ true))
kept_exactly keep rows row = (
  λ there. (All-contains (Contains rows) (filter keep rows) row (All-filter keep (Contains rows) rows (All-contains_itself rows)) there, All-contains (λ r. keep r ≡ true) (filter keep rows) row (filter_passes keep rows) there),
  λ both. All-contains (IsKept keep rows) rows row (all_kept keep rows) both.0 both.1,
)

from_not : (test : Bool) → not test ≡ true → test ≡ false
from_not true is = sym is
from_not false is = refl

pub keeps_uncovered : (pattern : List Elem) (tree : List Row) (row : Row) → Contains (uncovered pattern tree) row ↔ (Contains tree row × (covers pattern row.path ≡ false))
keeps_uncovered pattern tree row =
    let kept = kept_exactly (λ r. not (covers pattern r.path)) tree row in
    (λ there. ((kept.0 there).0, from_not (covers pattern row.path) (kept.0 there).1), λ both. kept.1 (both.0, ap not both.1))
