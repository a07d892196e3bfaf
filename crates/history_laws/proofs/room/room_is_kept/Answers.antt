use Rattle.history_laws.proofs.RoomKept.{new_log_has_room, given_keeps_room, legal_keeps_room}
use Rattle.history_laws.proofs.room.room_is_kept.Goals as goal

pub returns : goal.returns
returns c = record { new = new_log_has_room; given = given_keeps_room; legal = legal_keeps_room }
