-- Streams. A subscriber folds notifications: it removes the deletes of each, and sets its updates (gNMI 2.1 and 3.5.2.3). A mark is a
-- sync_response, or a notification after it. At each mark the fold is the subscribed part of a committed state, no older than
-- at the mark before.
use Rattle.std.specs.Prelude.{◌≡◌, ℕ, ◌≤◌, List, ◌++◌, true, Some, slice_get, take, length}
use Rattle.std.specs.List.{AllByRecursion, list_any}
use Rattle.base_kinds.specs.declared.operation.Row.{Row}
use Rattle.base_kinds.specs.declared.entry.Entry.{Entry}
use Rattle.base_kinds.specs.History.{stamp_of, world_of}
use Rattle.base_kinds.specs.Parts.{part}
use Rattle.gnmi_kinds.specs.declared.reply.SubReply.{SubReply}
use Rattle.sub_plan.specs.declared.plan.Group.{Group}
use Rattle.sub_plan.specs.declared.plan.GroupSort.TheVariants.{Change}
use Rattle.sub_plan.specs.declared.plan.Line.{Line}
use Rattle.sub_plan.specs.declared.plan.Plan.{Plan}
use Rattle.sub_plan.specs.Groups.{group_rows, patterns_of}
use Rattle.stream_laws.specs.Folds.{fold_of, is_sync, last_stamp}
use Rattle.stream_laws.specs.Runs.{view_at}

-- the configuration after the first `position` commits
abbrev pub tree_at : List Entry → ℕ → List Row
tree_at h position = (world_of (take position h)).tree

-- the part of it that is subscribed to
abbrev pub part_at : Plan → List Entry → ℕ → List Row
part_at plan h position = part (patterns_of plan.lines) (tree_at h position)

-- What a subscriber has who folded these messages. With updates_only it began with the part at the position of the first turn.
abbrev pub told_at : Plan → List Entry → ℕ → List SubReply → List Row
told_at plan h began messages = fold_of plan (view_at plan.lines h began) messages

-- every subscription is told on change (ON_CHANGE, or TARGET_DEFINED)
abbrev pub IsOnChange : Plan → Type 0
IsOnChange plan =
    AllByRecursion
    (λ (line : Line). (group : Group) × (slice_get plan.groups line.group ≡ Some group)
    × (group.sort ≡ Change)) plan.lines

-- These messages end at a mark, which names the state with its stamp.
pub record Mark (plan : Plan) (h : List Entry) (began : ℕ) (messages : List SubReply) : Type 0 where
  pub position : ℕ
  pub inside : position ≤ length h
  pub stamp : last_stamp (view_at plan.lines h began).stamp messages
      ≡ stamp_of (take position h)
  -- Of a plan that is told on change alone the fold is the subscribed part of that state, whole.
  pub whole : IsOnChange plan → told_at plan h began messages ≡ part_at plan h position
  -- In any plan so it is of the paths that are told on change. Sampled paths are as they were when they were last sent, at a state
  -- of their own that isn't newer. There is nothing else in the fold.
  pub changes : (number : ℕ) (group : Group) → slice_get plan.groups number ≡ Some group →
      group.sort ≡ Change →
      group_rows plan.lines number (told_at plan h began messages)
      ≡ group_rows plan.lines number (tree_at h position)
  pub each : (number : ℕ) → (at : ℕ) × (at ≤ position)
      × (group_rows plan.lines number (told_at plan h began messages)
      ≡ group_rows plan.lines number (tree_at h at))
  pub nothing_else :
      part (patterns_of plan.lines) (told_at plan h began messages) ≡ told_at plan h began messages

-- the messages up to some point, with a sync among them
abbrev pub IsUpToMark : List SubReply → List SubReply → Type 0
IsUpToMark messages prefix =
    ((rest : List SubReply) × (messages ≡ prefix ++ rest)) × (list_any is_sync prefix ≡ true)

-- So it is at every mark. No position is below `since`, and none below that of a mark before.
pub record FoldsAtMarks (plan : Plan) (h : List Entry) (since : ℕ) (messages : List SubReply)
    : Type 0 where
  pub began : ℕ
  pub not_before : since ≤ began
  pub mark : (prefix : List SubReply) → IsUpToMark messages prefix → Mark plan h began prefix
  pub from_there : (prefix : List SubReply) (is : IsUpToMark messages prefix) →
      began ≤ (mark prefix is).position
  pub rises : (prefix more : List SubReply) (one : IsUpToMark messages prefix)
      (two : IsUpToMark messages (prefix ++ more)) →
      (mark prefix one).position ≤ (mark (prefix ++ more) two).position

-- One read (ONCE, or one Poll): there is a sync, and the messages together fold to the subscribed part of the state at this position,
-- whole.
pub record ReadsState (plan : Plan) (h : List Entry) (position : ℕ) (messages : List SubReply)
    : Type 0 where
  pub synced : list_any is_sync messages ≡ true
  pub stamp : last_stamp (view_at plan.lines h position).stamp messages
      ≡ stamp_of (take position h)
  pub state : told_at plan h position messages ≡ part_at plan h position
