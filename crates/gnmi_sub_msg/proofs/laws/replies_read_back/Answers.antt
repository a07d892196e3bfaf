use Rattle.gnmi_sub_msg.proofs.ReadBack.{note_found, no_sync_found, sync_found, no_note_found}
use Rattle.gnmi_sub_msg.proofs.laws.replies_read_back.Goals as goal

pub returns-clause-note : goal.returns-clause-note
returns-clause-note c = note_found

pub returns-clause-no_sync : goal.returns-clause-no_sync
returns-clause-no_sync c = no_sync_found

pub returns-clause-sync : goal.returns-clause-sync
returns-clause-sync c = sync_found

pub returns-clause-no_note : goal.returns-clause-no_note
returns-clause-no_note c = no_note_found
