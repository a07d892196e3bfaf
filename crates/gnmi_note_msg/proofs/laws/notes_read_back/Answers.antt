use Rattle.gnmi_note_msg.proofs.ReadBack.{rows_note_read, whole_note_read}
use Rattle.gnmi_note_msg.proofs.laws.notes_read_back.Goals as goal

pub returns-clause-rows : goal.returns-clause-rows
returns-clause-rows c = rows_note_read

pub returns-clause-whole : goal.returns-clause-whole
returns-clause-whole c = whole_note_read
