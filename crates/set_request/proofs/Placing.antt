-- Setting a row, where the rows before some place are known to stay.
use Rattle.std.proofs.Common.{◌≡◌, ℕ, ◌+◌, ◌<◌, List, ◌∷◌, [], ◌++◌, length, take, drop, get_or, set, sym, ap, ◌∙◌, add-one, append_assoc}
use Rattle.std.specs.List.{insert}
use Rattle.std.specs.declared.cmp.Ordering.{Ordering}
use Rattle.std.specs.declared.cmp.Ordering.TheVariants.{Less, Equal, Greater}
use Rattle.std.proofs.lemmas.List.{set_split, drop_more, take_more}
use Rattle.base_kinds.specs.declared.operation.Row.{Row}
use Rattle.base_kinds.specs.Paths.{path_cmp}
use Rattle.base_kinds.specs.Tree.{set_row, placed}

module _ (row : Row) (rows : List Row) (i : ℕ) (here : Row) (within : i < length rows) (is : here ≡ get_or rows i here) where
  rest : drop i rows ≡ here ∷ drop (i + 1) rows
  rest = drop_more rows i here within ∙ ap (λ r. r ∷ drop (i + 1) rows) (sym is)

  -- what setting the row does to the rest, by how the first of it compares
  by_order : (order : Ordering) → path_cmp here.path row.path ≡ order → set_row row (drop i rows) ≡ placed order row here (drop (i + 1) rows) (set_row row (drop (i + 1) rows))
  by_order order e = ap (set_row row) rest ∙ ap (λ o. placed o row here (drop (i + 1) rows) (set_row row (drop (i + 1) rows))) e

  pub in_place : path_cmp here.path row.path ≡ Equal → set_row row rows ≡ take i rows ++ set_row row (drop i rows) → set rows i row ≡ set_row row rows
  in_place e stays =
      let cut : set rows i row ≡ take i rows ++ row ∷ drop (i + 1) rows = rw add-one (set_split rows i row within) in
      cut ∙ ap (λ r. take i rows ++ r) (sym (by_order Equal e)) ∙ sym stays

  pub before : path_cmp here.path row.path ≡ Greater → set_row row rows ≡ take i rows ++ set_row row (drop i rows) → insert rows i row ≡ set_row row rows
  before e stays = ap (λ r. take i rows ++ r) (sym (by_order Greater e ∙ ap (λ r. row ∷ r) (sym rest))) ∙ sym stays

  pub behind : path_cmp here.path row.path ≡ Less → set_row row rows ≡ take i rows ++ set_row row (drop i rows) → set_row row rows ≡ take (i + 1) rows ++ set_row row (drop (i + 1) rows)
  behind e stays =
      let front : take (i + 1) rows ≡ take i rows ++ here ∷ [] = take_more rows i here within ∙ ap (λ r. take i rows ++ r ∷ []) (sym is) in
      stays ∙ ap (λ r. take i rows ++ r) (by_order Less e) ∙ sym (append_assoc (take i rows) (here ∷ []) (set_row row (drop (i + 1) rows))) ∙ ap (λ r. r ++ set_row row (drop (i + 1) rows)) (sym front)
