-- The rows that one path covers.
use Rattle.std.proofs.Common.{◌≡◌, List, [], ◌∷◌, ◌++◌, Bool, true, false, cond, length, filter, refl, sym, ap, ◌∙◌, arith, append_assoc}
use Rattle.std.specs.Prelude.{not, nat_lt, ◌||◌}
use Rattle.std.specs.List.{list_any}
use Rattle.std.proofs.lemmas.Bool.{le-ltb}
use Rattle.base_kinds.specs.declared.path.Elem.{Elem}
use Rattle.base_kinds.specs.declared.operation.Row.{Row}
use Rattle.base_kinds.specs.Events.{is_empty_part}
use Rattle.base_kinds.specs.Match.{covers}
use Rattle.base_kinds.specs.Parts.{is_covered, part}

or_none : (b : Bool) → b ≡ (b || false)
or_none true = refl
or_none false = refl

-- one of one pattern is that pattern
pub alone : (pattern path : List Elem) → covers pattern path ≡ is_covered (pattern ∷ []) path
alone pattern path = or_none (covers pattern path)

none_kept : (test : Row → Bool) (rows : List Row) → not (list_any test rows) ≡ nat_lt (length (filter test rows)) 1
none_kept test [] = refl
none_kept test (row ∷ rows) = by_test (test row) (none_kept test rows)
  where
    by_test : (b : Bool) → not (list_any test rows) ≡ nat_lt (length (filter test rows)) 1
        → not (b || list_any test rows) ≡ nat_lt (length (cond b (row ∷ filter test rows) (filter test rows))) 1
    by_test true rest = sym (le-ltb (length (row ∷ filter test rows)) 1 (omega arith))
    by_test false rest = rest

-- none of the rows is covered exactly where their part is empty
pub none_covered : (rows : List Row) (path : List Elem) → not (list_any (λ row. is_covered (path ∷ []) row.path) rows) ≡ is_empty_part rows path
none_covered rows path = none_kept (λ (row : Row). is_covered (path ∷ []) row.path) rows

-- ---- one row more

pub kept : (path : List Elem) (found rows : List Row) (row : Row) → is_covered (path ∷ []) row.path ≡ true
    → found ++ part (path ∷ []) (row ∷ rows) ≡ (found ++ row ∷ []) ++ part (path ∷ []) rows
kept path found rows row is =
    let rest : List Row = part (path ∷ []) rows in
    ap (λ (b : Bool). found ++ cond b (row ∷ rest) rest) is ∙ sym (append_assoc found (row ∷ []) rest)

pub left_out : (path : List Elem) (found rows : List Row) (row : Row) → is_covered (path ∷ []) row.path ≡ false
    → found ++ part (path ∷ []) (row ∷ rows) ≡ found ++ part (path ∷ []) rows
left_out path found rows row is =
    let rest : List Row = part (path ∷ []) rows in
    ap (λ (b : Bool). found ++ cond b (row ∷ rest) rest) is
