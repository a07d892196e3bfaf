-- Setting rows that rise among others that rise, row by row.
use Rattle.std.proofs.Common.{◌≡◌, List, [], ◌∷◌, ◌++◌, refl, sym, ap, ◌∙◌, subst, Bool, true, false, true≢false, Option, Some, None, is_some, IfSome}
use Rattle.std.specs.Option.{option_to_list}
use Rattle.std.specs.List.Sorted.{IsStrictlySortedBy}
use Rattle.std.specs.declared.cmp.Ordering.{Ordering}
use Rattle.std.specs.declared.cmp.Ordering.TheVariants.{Less, Equal, Greater}
use Rattle.base_kinds.specs.declared.operation.Row.{Row}
use Rattle.base_kinds.specs.Paths.{path_cmp}
use Rattle.base_kinds.specs.Tree.{set_row, set_rows, placed}
use Rattle.base_kinds.specs.Rising.{IsRising}
use Rattle.history_laws.proofs.Setting.{AllAbove, above_more}
use Rattle.stream_core.specs.inner.Merging.{first_order}

by_order : (row first : Row) (others : List Row) (order : Ordering) → path_cmp first.path row.path ≡ order → set_row row (first ∷ others) ≡ placed order row first others (set_row row others)
by_order row first others order is = ap (λ o. placed o row first others (set_row row others)) is

-- a row below all that are set stays in front
below_all : (first : Row) (rows others : List Row) → AllAbove first.path rows → set_rows rows (first ∷ others) ≡ first ∷ set_rows rows others
below_all first [] others above = refl
below_all first (row ∷ rows) others above = ap (set_rows rows) (by_order row first others Less above.0) ∙ below_all first rows (set_row row others) above.1

pub rising_behind : (row : Row) (rows : List Row) → IsRising (row ∷ rows) → IsRising rows
unfolding IsStrictlySortedBy
rising_behind row rows rising = rising.1

pub takes_kept : (row : Row) (kept now : List Row) → IsRising now → first_order (row ∷ kept) now ≡ Some Less → set_rows now (row ∷ kept) ≡ row ∷ set_rows now kept
unfolding IsStrictlySortedBy
takes_kept row kept [] rising is = refl
takes_kept row kept (first ∷ now) rising is =
    let less : path_cmp row.path first.path ≡ Less = cc is in
    below_all row (first ∷ now) kept (less, above_more row.path first.path now less rising.0)

pub takes_now : (row : Row) (kept now : List Row) → IsRising (row ∷ now) → first_order kept (row ∷ now) ≡ Some Greater → set_rows (row ∷ now) kept ≡ row ∷ set_rows now kept
unfolding IsStrictlySortedBy
takes_now row [] now rising is = below_all row now [] rising.0
takes_now row (first ∷ kept) now rising is =
    let greater : path_cmp first.path row.path ≡ Greater = cc is in
    ap (set_rows now) (by_order row first kept Greater greater) ∙ below_all row now (first ∷ kept) rising.0

pub takes_both : (row first : Row) (kept now : List Row) → IsRising (row ∷ now) → first_order (first ∷ kept) (row ∷ now) ≡ Some Equal → set_rows (row ∷ now) (first ∷ kept) ≡ row ∷ set_rows now kept
unfolding IsStrictlySortedBy
takes_both row first kept now rising is =
    let equal : path_cmp first.path row.path ≡ Equal = cc is in
    ap (set_rows now) (by_order row first kept Equal equal) ∙ below_all row now kept rising.0

-- ---- what is taken off the front

pub rest_rises : (taken : Option Row) (rows rest : List Row) → rows ≡ option_to_list taken ++ rest → IsRising rows → IsRising rest
rest_rises None rows rest is rising = subst IsRising is rising
rest_rises (Some row) rows rest is rising = rising_behind row rest (subst IsRising is rising)

pub less_taken : (taken : Option Row) (kept rest now : List Row) → kept ≡ option_to_list taken ++ rest → IsRising now → first_order kept now ≡ Some Less → IfSome taken (λ row. set_rows now kept ≡ row ∷ set_rows now rest)
less_taken None kept rest now is rising order = tt
less_taken (Some row) kept rest now is rising order = ap (set_rows now) is ∙ takes_kept row rest now rising (ap (λ k. first_order k now) (sym is) ∙ order)

pub greater_taken : (taken : Option Row) (kept now rest : List Row) → now ≡ option_to_list taken ++ rest → IsRising now → first_order kept now ≡ Some Greater → IfSome taken (λ row. set_rows now kept ≡ row ∷ set_rows rest kept)
greater_taken None kept now rest is rising order = tt
greater_taken (Some row) kept now rest is rising order = ap (λ n. set_rows n kept) is ∙ takes_now row kept rest (subst IsRising is rising) (ap (first_order kept) (sym is) ∙ order)

no_order : (row : Row) (rows : List Row) → first_order [] (row ∷ rows) ≡ Some Equal → ⊥
no_order row rows is = true≢false (ap is_greater is)
  where
    is_greater : Option Ordering → Bool
    is_greater (Some Greater) = true
    is_greater _ = false

pub both_taken : (dropped taken : Option Row) (kept rest now others : List Row) → kept ≡ option_to_list dropped ++ rest → (dropped ≡ None → kept ≡ []) → now ≡ option_to_list taken ++ others → IsRising now → first_order kept now ≡ Some Equal → IfSome taken (λ row. set_rows now kept ≡ row ∷ set_rows others rest)
both_taken dropped None kept rest now others kept_is nothing now_is rising order = tt
both_taken None (Some row) kept rest now others kept_is nothing now_is rising order = absurd (no_order row others (ap (λ k. first_order k (row ∷ others)) (sym (nothing refl)) ∙ ap (first_order kept) (sym now_is) ∙ order))
both_taken (Some first) (Some row) kept rest now others kept_is nothing now_is rising order =
    ap (λ n. set_rows n kept) now_is ∙ ap (set_rows (row ∷ others)) kept_is ∙ takes_both row first rest others (subst IsRising now_is rising) (ap (λ k. first_order k (row ∷ others)) (sym kept_is) ∙ ap (first_order kept) (sym now_is) ∙ order)

pub nothing_left : (kept now : List Row) → first_order kept now ≡ None → set_rows now kept ≡ []
nothing_left [] [] is = refl
nothing_left [] (row ∷ now) is = absurd (true≢false (ap is_some is))
nothing_left (row ∷ kept) [] is = absurd (true≢false (ap is_some is))
nothing_left (row ∷ kept) (first ∷ now) is = absurd (true≢false (ap is_some is))

-- where there is an order, what it names isn't empty
pub less_there : (kept now : List Row) → first_order kept now ≡ Some Less → kept ≡ [] → ⊥
less_there [] [] order is = true≢false (sym (ap is_some order))
less_there [] (row ∷ now) order is = no_less order
  where
    is_greater : Option Ordering → Bool
    is_greater (Some Greater) = true
    is_greater _ = false

    no_less : Some Greater ≡ Some Less → ⊥
    no_less is = true≢false (ap is_greater is)
less_there (row ∷ kept) now order is = cc is
