-- Where the parts of a fold are those of one state, the whole is.
use Rattle.std.proofs.Common.{◌≡◌, ℕ, ◌==◌, List, [], ◌∷◌, ◌++◌, Bool, true, false, ◌||◌, true≢false, refl, sym, ap, ◌∙◌, subst, map, filter, take, slice_get, Option, Some, None, if◌then◌else◌}
use Rattle.std.specs.List.{AllByRecursion}
use Rattle.std.proofs.lemmas.Bool.{eq-eqb}
use Rattle.base_kinds.specs.declared.operation.Row.{Row}
use Rattle.base_kinds.specs.declared.path.Elem.{Elem}
use Rattle.base_kinds.specs.declared.entry.Entry.{Entry}
use Rattle.base_kinds.specs.declared.request.Note.{Note}
use Rattle.base_kinds.specs.History.{world_of}
use Rattle.base_kinds.specs.Match.{covers}
use Rattle.base_kinds.specs.Parts.{is_covered, part}
use Rattle.base_kinds.specs.Rising.{IsRising, value_at}
use Rattle.base_kinds.specs.Paths.{same_path}
use Rattle.gnmi_kinds.specs.declared.reply.SubReply.{SubReply}
use Rattle.history_laws.proofs.Setting.{rising_sets}
use Rattle.history_laws.proofs.States.{rising_world}
use Rattle.history_laws.proofs.Values.{value_at_filter, values_decide}
use Rattle.sub_plan.specs.declared.plan.Group.{Group}
use Rattle.sub_plan.specs.declared.plan.GroupSort.TheVariants.{Change}
use Rattle.sub_plan.specs.declared.plan.Line.{Line}
use Rattle.sub_plan.specs.declared.plan.Plan.{Plan}
use Rattle.sub_plan.specs.Groups.{group_of, group_rows, is_group, patterns_of}
use Rattle.stream_laws.specs.Folds.{notes_in}
use Rattle.stream_laws.specs.Notes.{fold_notes, rows_after_note}
use Rattle.stream_laws.specs.Runs.{view_at}
use Rattle.stream_laws.proofs.Groups.{value_at_own}
use Rattle.stream_laws.proofs.Kept.{rising_filter}
use Rattle.program.specs.headline.Marks.{IsOnChange, part_at, told_at, tree_at}

-- ---- what a subscriber has rises

note_rises : (rows : List Row) (note : Note) → IsRising rows → IsRising (rows_after_note rows note)
note_rises rows note rising = rising_sets note.updates _ (rising_filter _ rows rising)

fold_rises : (rows : List Row) (notes : List Note) → IsRising rows → IsRising (fold_notes rows notes)
fold_rises rows [] rising = rising
fold_rises rows (note ∷ notes) rising = fold_rises (rows_after_note rows note) notes (note_rises rows note rising)

nothing_rises : (rows : List Row) → rows ≡ [] → IsRising rows
unfolding Rattle.std.specs.List.Sorted.IsStrictlySortedBy
nothing_rises [] is = tt
nothing_rises (row ∷ rows) is = absurd (cc is)

told_rises : (plan : Plan) (h : List Entry) (began : ℕ) (front : List SubReply) → IsRising (told_at plan h began front)
told_rises plan h began front = fold_rises (if plan.updates_only then (view_at plan.lines h began).rows else []) (notes_in front) (by_test plan.updates_only)
  where
    by_test : (only : Bool) → IsRising (if only then (view_at plan.lines h began).rows else [])
    by_test true = rising_filter (λ (row : Row). is_covered (patterns_of plan.lines) row.path) (tree_at h began) (rising_world (take began h))
    by_test false = nothing_rises [] refl

-- ---- whose a path is

abbrev is_some : Option ℕ → Bool
is_some None = false
is_some (Some number) = true

covered_so : (lines : List Line) (path : List Elem) → is_covered (patterns_of lines) path ≡ is_some (group_of lines path)
covered_so [] path = refl
covered_so (line ∷ lines) path = by_test (covers line.pattern path) (covered_so lines path)
  where
    by_test : (here : Bool) → is_covered (patterns_of lines) path ≡ is_some (group_of lines path) → (here || is_covered (patterns_of lines) path) ≡ is_some (if here then Some line.group else group_of lines path)
    by_test true rest = refl
    by_test false rest = rest

record IsOfChange (plan : Plan) (number : ℕ) : Type 0 where
  pub group : Group
  pub is : slice_get plan.groups number ≡ Some group
  pub sort : group.sort ≡ Change

of_change : (plan : Plan) (lines : List Line) (path : List Elem) (number : ℕ) → AllByRecursion (λ (line : Line). (group : Group) × (slice_get plan.groups line.group ≡ Some group) × (group.sort ≡ Change)) lines → group_of lines path ≡ Some number → IsOfChange plan number
of_change plan [] path number all is = absurd (cc is)
of_change plan (line ∷ lines) path number all is = by_test (covers line.pattern path) is (λ same. of_change plan lines path number all.1 same)
  where
    by_test : (here : Bool) → (if here then Some line.group else group_of lines path) ≡ Some number → (group_of lines path ≡ Some number → IsOfChange plan number) → IsOfChange plan number
    by_test true same rest = let number_is : line.group ≡ number = cc same in record { group = all.0.0; is = ap (slice_get plan.groups) (sym number_is) ∙ all.0.1; sort = all.0.2 }
    by_test false same rest = rest same

-- ---- one state

module _ (plan : Plan) (h : List Entry) (began : ℕ) (messages : List SubReply) (position : ℕ) (nothing_else : part (patterns_of plan.lines) (told_at plan h began messages) ≡ told_at plan h began messages) where
  abbrev told : List Row
  told = told_at plan h began messages

  abbrev tree : List Row
  tree = tree_at h position

  part_value : (rows : List Row) (path : List Elem) (group : Option ℕ) → group_of plan.lines path ≡ group → value_at path (part (patterns_of plan.lines) rows) ≡ (if is_some group then value_at path rows else None)
  part_value rows path group is = value_at_filter (is_covered (patterns_of plan.lines)) path rows ∙ ap (λ b. if b then value_at path rows else None) (covered_so plan.lines path ∙ ap is_some is)

  own_value : (rows : List Row) (path : List Elem) (number : ℕ) → group_of plan.lines path ≡ Some number → value_at path (group_rows plan.lines number rows) ≡ value_at path rows
  own_value rows path number is = value_at_own plan.lines number path rows ∙ ap (λ b. if b then value_at path rows else None) (ap (λ g. is_group g number) is ∙ eq-eqb number number refl)

  module _ (groups : (path : List Elem) (number : ℕ) → group_of plan.lines path ≡ Some number → group_rows plan.lines number told ≡ group_rows plan.lines number tree) where
    same_at : (path : List Elem) (group : Option ℕ) → group_of plan.lines path ≡ group → value_at path told ≡ value_at path (part (patterns_of plan.lines) tree)
    same_at path None is = ap (value_at path) (sym nothing_else) ∙ part_value told path None is ∙ sym (part_value tree path None is)
    same_at path (Some number) is =
        sym (own_value told path number is) ∙ ap (value_at path) (groups path number is) ∙ own_value tree path number is ∙ sym (part_value tree path (Some number) is)

    one_state : told ≡ part_at plan h position
    one_state = values_decide told (part (patterns_of plan.lines) tree) (told_rises plan h began messages)
        (rising_filter (λ (row : Row). is_covered (patterns_of plan.lines) row.path) tree (rising_world (take position h)))
        (λ path. same_at path (group_of plan.lines path) refl)

-- where each group is at this state
pub groups_are_states : (plan : Plan) (h : List Entry) (began : ℕ) (messages : List SubReply) (position : ℕ) → part (patterns_of plan.lines) (told_at plan h began messages) ≡ told_at plan h began messages → ((number : ℕ) → group_rows plan.lines number (told_at plan h began messages) ≡ group_rows plan.lines number (tree_at h position)) → told_at plan h began messages ≡ part_at plan h position
groups_are_states plan h began messages position nothing_else each = one_state plan h began messages position nothing_else (λ path number is. each number)

-- where each group of changes is, and every line is told on change
pub changes_are_states : (plan : Plan) (h : List Entry) (began : ℕ) (messages : List SubReply) (position : ℕ) → part (patterns_of plan.lines) (told_at plan h began messages) ≡ told_at plan h began messages → ((number : ℕ) (group : Group) → slice_get plan.groups number ≡ Some group → group.sort ≡ Change → group_rows plan.lines number (told_at plan h began messages) ≡ group_rows plan.lines number (tree_at h position)) → IsOnChange plan → told_at plan h began messages ≡ part_at plan h position
changes_are_states plan h began messages position nothing_else changes on_change = one_state plan h began messages position nothing_else
    (λ path number is. let change = of_change plan plan.lines path number on_change is in changes number change.group change.is change.sort)
