use Rattle.std.proofs.Common.{◌≤◌, List, Option, Some, None, length, arith}
use Rattle.base_kinds.specs.declared.entry.Entry.{Entry}
use Rattle.base_kinds.specs.declared.entry.Limits.{Limits}
use Rattle.base_kinds.specs.History.{OpenTrial, world_of}
use Rattle.base_kinds.specs.Room.{CanClose}
use Rattle.book_port.proofs.Chronicled.{counted_whole}
use Rattle.book_port.proofs.Runs.{run_is_base}
use Rattle.book_core.specs.Views.{history_in}
use Rattle.shared_book.proofs.held.HeldBookChronicle.count.Goals as goal

within : (limits : Limits) (h : List Entry) (trial : Option OpenTrial) → CanClose limits h trial → length h ≤ limits.entries
within limits h None room = let left = room.entries_left in omega (arith, left)
within limits h (Some trial) room = let left = room.entries_left in omega (arith, left)

pub overflow_add-result : goal.overflow_add-result
overflow_add-result g c =
    let book = c.args.self.now.book in
    let run = c.count.ensures.run in
    let whole = counted_whole book.chronicle in
    let few = c.count.ensures.few in
    let is = c.count.ensures.value in
    let room = within book.opened.limits (history_in book) (world_of (history_in book)).trial (run_is_base book.opened (history_in book) run).room in
    let most = run.founded.in_range.most_entries in
    omega (arith, whole, few, is, room, most)
