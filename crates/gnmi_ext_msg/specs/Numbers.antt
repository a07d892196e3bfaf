-- The numbers of the fields of gnmi_ext.proto's Extension and Commit and their messages, by their names there.
use Rattle.std.specs.Prelude.{ℕ, List, [], ◌∷◌}

-- Extension
abbrev pub extension_registered_ext : ℕ
extension_registered_ext = 1

abbrev pub extension_master_arbitration : ℕ
extension_master_arbitration = 2

abbrev pub extension_history : ℕ
extension_history = 3

abbrev pub extension_commit : ℕ
extension_commit = 4

abbrev pub extension_depth : ℕ
extension_depth = 5

abbrev pub extension_config_subscription : ℕ
extension_config_subscription = 6

-- its oneof, all of whose members are messages
abbrev pub extension_members : List ℕ
extension_members =
    extension_registered_ext ∷ extension_master_arbitration ∷ extension_history ∷ extension_commit
    ∷ extension_depth ∷ extension_config_subscription ∷ []

-- Commit
abbrev pub commit_id : ℕ
commit_id = 1

abbrev pub commit_commit : ℕ
commit_commit = 2

abbrev pub commit_confirm : ℕ
commit_confirm = 3

abbrev pub commit_cancel : ℕ
commit_cancel = 4

abbrev pub commit_set_rollback_duration : ℕ
commit_set_rollback_duration = 5

-- its oneof, all of whose members are messages
abbrev pub commit_actions : List ℕ
commit_actions =
    commit_commit ∷ commit_confirm ∷ commit_cancel ∷ commit_set_rollback_duration ∷ []

-- CommitRequest and CommitSetRollbackDuration
abbrev pub rollback_duration : ℕ
rollback_duration = 1

-- google.protobuf.Duration
abbrev pub duration_seconds : ℕ
duration_seconds = 1

abbrev pub duration_nanos : ℕ
duration_nanos = 2
