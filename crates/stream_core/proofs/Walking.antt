-- What two walks find of each group.
use Rattle.std.proofs.Common.{◌≡◌, ℕ, zero, suc, ◌<◌, ◌≤◌, List, [], ◌∷◌, length, set, get_or, Bool, true, false, refl, sym, ap, ◌∙◌, arith, Option, Some, None, not, ◌&&◌, ◌||◌, ◌==◌, if◌then◌else◌, slice_get}
use Rattle.std.specs.List.{list_any}
use Rattle.std.proofs.lemmas.Bool.{eqb-true, eqb-false}
use Rattle.base_kinds.specs.Legal.{is_empty}
use Rattle.base_kinds.specs.declared.operation.Row.{Row}
use Rattle.sub_plan.specs.declared.plan.Line.{Line}
use Rattle.sub_plan.specs.Groups.{group_of, is_group, group_rows}
use Rattle.stream_laws.specs.Differences.{is_gone, is_new_or_changed}
use Rattle.stream_laws.specs.Beats.{TurnInput, differs, has_rows}
use Rattle.stream_core.specs.declared.walk.Found.{Found}
use Rattle.stream_core.specs.inner.Walks.{nothing_found, found_row, found_at, found_in, found_by, found_gone, found_all}

pub at_is_set : (number : ℕ) (differ : Bool) (found : List Found) (any : Found) → number < length found → set found number (found_row differ (get_or found number any)) ≡ found_at number differ found
at_is_set number differ [] any inside = absurd (omega arith)
at_is_set zero differ (one ∷ found) any inside = refl
at_is_set (suc number) differ (one ∷ found) any inside = ap (λ rest. one ∷ rest) (at_is_set number differ found any (omega arith))

pub at_is_none : (number : ℕ) (differ : Bool) (found : List Found) → (number < length found → ⊥) → found ≡ found_at number differ found
at_is_none number differ [] outside = refl
at_is_none zero differ (one ∷ found) outside = absurd (outside (omega arith))
at_is_none (suc number) differ (one ∷ found) outside = ap (λ rest. one ∷ rest) (at_is_none number differ found (λ inside. outside (omega arith)))

pub row_found : (group : Option ℕ) (number : ℕ) (differ : Bool) (found : List Found) (one any : Found) → group ≡ Some number → one ≡ found_row differ (get_or found number any) → number < length found → set found number one ≡ found_in group differ found
row_found group number differ found one any is made inside = ap (set found number) made ∙ at_is_set number differ found any inside ∙ ap (λ g. found_in g differ found) (sym is)

pub row_of_none : (group : Option ℕ) (number : ℕ) (differ : Bool) (found : List Found) → group ≡ Some number → length found ≤ number → found ≡ found_in group differ found
row_of_none group number differ found is outside = at_is_none number differ found (λ inside. omega (arith, inside, outside)) ∙ ap (λ g. found_in g differ found) (sym is)

-- what one group's findings are after one row, and after rows
abbrev one_after : List Line → (Row → Bool) → ℕ → Row → Found → Found
one_after lines test number row one = if is_group (group_of lines row.path) number then found_row (test row) one else one

abbrev all_after : List Line → (Row → Bool) → ℕ → List Row → Found → Found
all_after lines test number rows one = record { differs = one.differs || list_any test (group_rows lines number rows); some = one.some || not (is_empty (group_rows lines number rows)) }

abbrev there : (Found → Found) → Option Found → Option Found
there change None = None
there change (Some one) = Some (change one)

get_same : (place : ℕ) (differ : Bool) (found : List Found) → slice_get (found_at place differ found) place ≡ there (found_row differ) (slice_get found place)
get_same place differ [] = refl
get_same zero differ (one ∷ found) = refl
get_same (suc place) differ (one ∷ found) = get_same place differ found

get_other : (place number : ℕ) (differ : Bool) (found : List Found) → (place ≡ number → ⊥) → slice_get (found_at place differ found) number ≡ slice_get found number
get_other place number differ [] other = refl
get_other zero zero differ (one ∷ found) other = absurd (other refl)
get_other zero (suc number) differ (one ∷ found) other = refl
get_other (suc place) zero differ (one ∷ found) other = refl
get_other (suc place) (suc number) differ (one ∷ found) other = get_other place number differ found (λ same. other (ap suc same))

there_still : (o : Option Found) → o ≡ there (λ one. one) o
there_still None = refl
there_still (Some one) = refl

get_at : (place number : ℕ) (differ : Bool) (found : List Found) → slice_get (found_at place differ found) number ≡ there (λ one. if place == number then found_row differ one else one) (slice_get found number)
get_at place number differ found = by_test (place == number) refl
  where
    by_test : (same : Bool) → (place == number) ≡ same → slice_get (found_at place differ found) number ≡ there (λ one. if same then found_row differ one else one) (slice_get found number)
    by_test true same = ap (λ n. slice_get (found_at n differ found) number) (eqb-true place number same) ∙ get_same number differ found
    by_test false other = get_other place number differ found (eqb-false place number other) ∙ there_still (slice_get found number)

get_in : (group : Option ℕ) (number : ℕ) (differ : Bool) (found : List Found) → slice_get (found_in group differ found) number ≡ there (λ one. if is_group group number then found_row differ one else one) (slice_get found number)
get_in None number differ found = there_still (slice_get found number)
get_in (Some place) number differ found = get_at place number differ found

or_true : (a b : Bool) → (a || true) ≡ true
or_true true b = refl
or_true false b = refl

or_more : (a b c : Bool) → ((a || b) || c) ≡ (a || (b || c))
or_more true b c = refl
or_more false b c = refl

or_none : (a : Bool) → (a || false) ≡ a
or_none true = refl
or_none false = refl

after_none : (lines : List Line) (test : Row → Bool) (number : ℕ) (one : Found) → one ≡ all_after lines test number [] one
after_none lines test number one = λ i. record { differs = sym (or_none one.differs) i; some = sym (or_none one.some) i }

after_more : (lines : List Line) (test : Row → Bool) (number : ℕ) (row : Row) (rows : List Row) (one : Found) → all_after lines test number rows (one_after lines test number row one) ≡ all_after lines test number (row ∷ rows) one
after_more lines test number row rows one = by_group (is_group (group_of lines row.path) number)
  where
    by_group : (inside : Bool) → all_after lines test number rows (if inside then found_row (test row) one else one) ≡ record { differs = one.differs || list_any test (if inside then row ∷ group_rows lines number rows else group_rows lines number rows); some = one.some || not (is_empty (if inside then row ∷ group_rows lines number rows else group_rows lines number rows)) }
    by_group true = λ i. record { differs = or_more one.differs (test row) (list_any test (group_rows lines number rows)) i; some = sym (or_true one.some true) i }
    by_group false = refl

there_twice : (first second both : Found → Found) → ((one : Found) → second (first one) ≡ both one) → (o : Option Found) → there second (there first o) ≡ there both o
there_twice first second both same None = refl
there_twice first second both same (Some one) = ap Some (same one)

there_same : (change : Found → Found) → ((one : Found) → one ≡ change one) → (o : Option Found) → o ≡ there change o
there_same change same None = refl
there_same change same (Some one) = ap Some (same one)

-- a walk finds for each group what its own rows are
walk_finds : (lines : List Line) (test : Row → Bool) (number : ℕ) (found : List Found) (rows : List Row) → slice_get (found_by lines test found rows) number ≡ there (all_after lines test number rows) (slice_get found number)
walk_finds lines test number found [] = there_same (all_after lines test number []) (after_none lines test number) (slice_get found number)
walk_finds lines test number found (row ∷ rows) =
    walk_finds lines test number (found_in (group_of lines row.path) (test row) found) rows
    ∙ ap (there (all_after lines test number rows)) (get_in (group_of lines row.path) number (test row) found)
    ∙ there_twice (one_after lines test number row) (all_after lines test number rows) (all_after lines test number (row ∷ rows)) (after_more lines test number row rows) (slice_get found number)

nothing_there : (number : ℕ) (found : List Found) → number < length found → slice_get (nothing_found found) number ≡ Some (record { differs = false; some = false })
nothing_there number [] inside = absurd (omega arith)
nothing_there zero (one ∷ found) inside = refl
nothing_there (suc number) (one ∷ found) inside = nothing_there number found (omega arith)

-- both walks find whether the group's rows differ, and whether there are some
pub walks_find : (turn : TurnInput) (number : ℕ) (found : List Found) → number < length found → slice_get (found_all turn.lines turn.sent turn.rows found) number ≡ Some (record { differs = differs turn number; some = has_rows turn number })
walks_find turn number found inside =
    walk_finds turn.lines (is_new_or_changed turn.sent) number (found_gone turn.lines turn.rows (nothing_found found) turn.sent) turn.rows
    ∙ ap (there (all_after turn.lines (is_new_or_changed turn.sent) number turn.rows))
    (walk_finds turn.lines (is_gone turn.rows) number (nothing_found found) turn.sent
    ∙ ap (there (all_after turn.lines (is_gone turn.rows) number turn.sent)) (nothing_there number found inside))
    ∙ ap (λ some. Some (record { differs = differs turn number; some = some })) (either (is_empty (group_rows turn.lines number turn.sent)) (is_empty (group_rows turn.lines number turn.rows)))
  where
    either : (a b : Bool) → (not a || not b) ≡ not (a && b)
    either true b = refl
    either false b = refl
