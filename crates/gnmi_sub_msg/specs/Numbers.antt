-- The numbers of the fields of gnmi.proto's messages of a Subscribe, by their names there.
use Rattle.std.specs.Prelude.{ℕ, List, [], ◌∷◌}

-- SubscribeRequest
abbrev pub sub_subscribe : ℕ
sub_subscribe = 1

abbrev pub sub_poll : ℕ
sub_poll = 3

abbrev pub sub_extension : ℕ
sub_extension = 5

-- its oneof, all of whose members are messages
abbrev pub sub_members : List ℕ
sub_members = sub_subscribe ∷ sub_poll ∷ []

-- SubscriptionList
abbrev pub list_prefix : ℕ
list_prefix = 1

abbrev pub list_subscription : ℕ
list_subscription = 2

abbrev pub list_mode : ℕ
list_mode = 5

abbrev pub list_use_models : ℕ
list_use_models = 7

abbrev pub list_encoding : ℕ
list_encoding = 8

abbrev pub list_updates_only : ℕ
list_updates_only = 9

-- Subscription
abbrev pub line_path : ℕ
line_path = 1

abbrev pub line_mode : ℕ
line_mode = 2

abbrev pub line_sample_interval : ℕ
line_sample_interval = 3

abbrev pub line_suppress_redundant : ℕ
line_suppress_redundant = 4

abbrev pub line_heartbeat_interval : ℕ
line_heartbeat_interval = 5

-- Subscription's SubscriptionMode
abbrev pub target_defined : ℕ
target_defined = 0

abbrev pub on_change : ℕ
on_change = 1

abbrev pub sample : ℕ
sample = 2

-- SubscriptionList.Mode
abbrev pub stream : ℕ
stream = 0

abbrev pub once : ℕ
once = 1

abbrev pub poll : ℕ
poll = 2

-- SubscribeResponse
abbrev pub reply_update : ℕ
reply_update = 1

abbrev pub reply_sync_response : ℕ
reply_sync_response = 3
