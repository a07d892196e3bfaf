-- gnmi.proto's SubscriptionList and Subscription, as they are read (gNMI 3.5.1.2, 3.5.1.3). `None` stands where the octets are no
-- such message.
use Rattle.std.specs.Prelude.{ℕ, List, ◌||◌, ◌==◌, Option, Some, None, if◌then◌else◌}
use Rattle.base_lists.specs.Options.{◌>>=◌}
use Rattle.base_kinds.specs.declared.request.ListMode.{ListMode}
use Rattle.base_kinds.specs.declared.request.ListMode.TheVariants as lists
use Rattle.base_kinds.specs.declared.request.SubMode.{SubMode}
use Rattle.base_kinds.specs.declared.request.SubMode.TheVariants as modes
use Rattle.pb_message.specs.Fields.{is_message}
use Rattle.gnmi_data_msg.specs.Parts.{fields_in, messages_in}
use Rattle.gnmi_data_msg.specs.Paths.{path_of}
use Rattle.gnmi_data_msg.specs.Encodings.{encoding_of}
use Rattle.gnmi_data_msg.specs.Models.{model_of}
use Rattle.gnmi_data_msg.specs.Singles.{single_message, count_under, flag_under, enum_under}
use Rattle.gnmi_sub_msg.specs.declared.lists.Subscription.{Subscription}
use Rattle.gnmi_sub_msg.specs.declared.lists.SubscriptionList.{SubscriptionList}
use Rattle.gnmi_sub_msg.specs.Numbers.{list_prefix, list_subscription, list_mode, list_use_models, list_encoding, list_updates_only, line_path, line_mode, line_sample_interval, line_suppress_redundant, line_heartbeat_interval, target_defined, on_change, sample, stream, once, poll}

-- TARGET_DEFINED leaves the choice to this target, which takes ON_CHANGE
abbrev pub sub_mode_of : ℕ → SubMode
sub_mode_of number =
    if (number == target_defined) || (number == on_change) then modes.Change
    else if number == sample then modes.Sample
    else modes.Other

abbrev pub list_mode_of : ℕ → ListMode
list_mode_of number =
    if number == stream then lists.Stream
    else if number == once then lists.Once
    else if number == poll then lists.Poll
    else lists.Other

-- a Subscription, its intervals in nanoseconds
unfoldable pub subscription_of : List ℕ → Option Subscription
subscription_of octets =
    if is_message octets then (do
      path ← path_of (single_message line_path octets)
      Some (record {
        path = path;
        mode = sub_mode_of (enum_under line_mode octets);
        interval = count_under line_sample_interval octets;
        suppress = flag_under line_suppress_redundant octets;
        heartbeat = count_under line_heartbeat_interval octets;
      }))
    else None

-- a SubscriptionList; `qos` and `allow_aggregation` are skipped
unfoldable pub list_of : List ℕ → Option SubscriptionList
list_of octets = do
  fields ← fields_in octets
  prefix ← path_of (single_message list_prefix octets)
  subscriptions ← messages_in subscription_of octets list_subscription fields
  models ← messages_in model_of octets list_use_models fields
  Some (record {
    prefix = prefix;
    subscriptions = subscriptions;
    mode = list_mode_of (enum_under list_mode octets);
    models = models;
    encoding = encoding_of (enum_under list_encoding octets);
    updates_only = flag_under list_updates_only octets;
  })
