-- What a value means at a path is one list of rows or one fault.
use Rattle.std.proofs.Common.{◌≡◌, ◌⊎◌, inl, inr, List, [], Ok, Err, Some, refl, ap, IsTrue, subst}
use Rattle.base_kinds.specs.declared.operation.Row.{Row}
use Rattle.base_lists.specs.Rising.{rises}
use Rattle.base_kinds.specs.Tree.{set_rows}
use Rattle.base_kinds.specs.Rising.{row_cmp}
use Rattle.history_laws.proofs.Setting.{rising_sets, test_says_rising}
use Rattle.json_rows.specs.declared.fault.RowsFault.{RowsFault}
use Rattle.base_lists.specs.Results.{and_then}
use Rattle.json_rows.specs.Rows.{rows_of_data, rows_of_walk, rows_by_path, data_of}
use Rattle.json_rows.specs.Walk.{RowsOrFault}
use Rattle.json_rows.specs.laws.Meanings.{MeansOrFails, MeansOneList, MeansOrFailsAlone, RowsRise, OrderIsFree}
use Rattle.json_rows.proofs.Sorted.{tree_of_rows, no_rows}

either : (told : RowsOrFault) → ((rows : List Row) × (told ≡ Ok rows)) ⊎ ((fault : RowsFault) × (told ≡ Err fault))
either (Ok rows) = inl (rows, refl)
either (Err fault) = inr (fault, refl)

pub means_or_fails : MeansOrFails
means_or_fails schema path value = either (rows_of_data schema path (Some value))

one_list : (told : RowsOrFault) (rows others : List Row) → told ≡ Ok rows → told ≡ Ok others → rows ≡ others
one_list told rows others is also = cc

pub means_one_list : MeansOneList
means_one_list schema path value rows others is also = one_list (rows_of_data schema path (Some value)) rows others is also

not_both : (told : RowsOrFault) (rows : List Row) (fault : RowsFault) → told ≡ Ok rows → told ≡ Err fault → ⊥
not_both told rows fault is also = cc

pub means_or_fails_alone : MeansOrFailsAlone
means_or_fails_alone schema path value rows fault is also = not_both (rows_of_data schema path (Some value)) rows fault is also

sorted_rises : (told : RowsOrFault) (rows : List Row) → and_then told rows_by_path ≡ Ok rows → IsTrue (rises row_cmp rows)
sorted_rises (Ok found) rows is =
    let same : set_rows found [] ≡ rows = cc in
    subst (λ r. IsTrue (rises row_cmp r)) same ((test_says_rising (set_rows found [])).1 (rising_sets found [] no_rows))
sorted_rises (Err fault) rows is = absurd (cc)

pub rows_rise : RowsRise
rows_rise schema path text rows is = sorted_rises (rows_of_walk schema path (data_of text)) rows is

pub order_is_free : OrderIsFree
order_is_free walk rows moved rising = ap (λ r. Ok r) (tree_of_rows walk rows moved rising)
