use Rattle.history_laws.proofs.RoomKept.{test_says_room, size_after_one, accepted_had_room, trials_leave_room, closings_fit}
use Rattle.history_laws.proofs.room.trials_leave_room.Goals as goal

pub returns : goal.returns
returns c = record { test = test_says_room; size = size_after_one; accepted = accepted_had_room; left = trials_leave_room; closed = closings_fit }
