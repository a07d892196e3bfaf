-- Rows by the beats of their groups, as one turn's steps find them.
use Rattle.std.specs.Prelude.{List, Bool, not, ◌&&◌, filter, map, ℕ}
use Rattle.base_kinds.specs.declared.path.Elem.{Elem}
use Rattle.base_kinds.specs.declared.operation.Row.{Row}
use Rattle.base_kinds.specs.Tree.{set_rows}
use Rattle.sub_plan.specs.declared.plan.Line.{Line}
use Rattle.sub_plan.specs.Groups.{group_of}
use Rattle.stream_laws.specs.declared.kinds.Beat.{Beat}
use Rattle.stream_laws.specs.declared.kinds.GroupState.{GroupState}
use Rattle.stream_laws.specs.Beats.{TurnInput, beat_numbered, is_due}
use Rattle.stream_laws.specs.Differences.{is_gone}
use Rattle.stream_laws.specs.Notes.{is_sent}

-- the row's group is due
abbrev pub is_due_row : List Line → List Beat → Row → Bool
is_due_row lines all row = is_due (beat_numbered all (group_of lines row.path))

-- the row of now is sent to a subscriber that has these
abbrev pub is_sent_row : List Line → List Beat → List Row → Row → Bool
is_sent_row lines all sent row = is_sent (beat_numbered all (group_of lines row.path)) sent row

-- the row was sent, and is no longer there
abbrev pub is_deleted_row : List Line → List Beat → List Row → Row → Bool
is_deleted_row lines all rows row = is_due_row lines all row && is_gone rows row

abbrev pub deleted_paths : List Line → List Beat → List Row → List Row → List (List Elem)
deleted_paths lines all sent rows =
    map (λ (row : Row). row.path) (filter (λ (row : Row). is_deleted_row lines all rows row) sent)

abbrev pub sent_rows : List Line → List Beat → List Row → List Row → List Row
sent_rows lines all sent rows = filter (λ (row : Row). is_sent_row lines all sent row) rows

abbrev pub due_part : List Line → List Beat → List Row → List Row
due_part lines all rows = filter (λ (row : Row). is_due_row lines all row) rows

abbrev pub other_part : List Line → List Beat → List Row → List Row
other_part lines all rows = filter (λ (row : Row). not (is_due_row lines all row)) rows

-- what the subscriber has after the turn
abbrev pub rows_after : List Line → List Beat → List Row → List Row → List Row
rows_after lines all sent rows = set_rows (due_part lines all rows) (other_part lines all sent)

-- a turn before it is judged
abbrev pub input_of : List Line → List GroupState → List Row → List Row → ℕ → TurnInput
input_of lines states sent rows time =
    record { lines = lines; groups = states; sent = sent; rows = rows; time = time }
