-- What a GetRequest asks for (gNMI 3.3.1). `None` stands where the octets are no such message.
use Rattle.std.specs.Prelude.{ℕ, List, map, Bool, not, ◌||◌, ◌==◌, length, Option, Some}
use Rattle.std.specs.List.{list_any}
use Rattle.base_lists.specs.Options.{◌>>=◌}
use Rattle.gnmi_kinds.specs.declared.ask.GetAsk.{GetAsk}
use Rattle.gnmi_data_msg.specs.Parts.{fields_in, messages_in}
use Rattle.gnmi_data_msg.specs.Paths.{path_of}
use Rattle.gnmi_ext_msg.specs.Extensions.{extension_of}
use Rattle.gnmi_data_msg.specs.Encodings.{encoding_of}
use Rattle.gnmi_data_msg.specs.Models.{model_of}
use Rattle.gnmi_data_msg.specs.Profile.{is_foreign, path_in}
use Rattle.gnmi_ext_msg.specs.Extensions.{is_other}
use Rattle.gnmi_data_msg.specs.Singles.{single_message, enum_under}
use Rattle.gnmi_get_msg.specs.Numbers.{get_prefix, get_path, get_type, get_encoding, get_use_models, get_extension, type_state, type_operational}

-- data that isn't configuration alone: STATE and OPERATIONAL
abbrev pub is_state : ℕ → Bool
is_state number = (number == type_state) || (number == type_operational)

-- What a GetRequest asks for. Not supported are data that isn't configuration, a choice of models, an extension other than a
-- commit, and a path of another schema. The prefix and the encoding stand in the ask itself, to be judged there.
unfoldable pub get_of : List ℕ → Option GetAsk
get_of octets = do
  fields ← fields_in octets
  prefix ← path_of (single_message get_prefix octets)
  paths ← messages_in path_of octets get_path fields
  models ← messages_in model_of octets get_use_models fields
  extensions ← messages_in extension_of octets get_extension fields
  Some (record {
    prefix = prefix;
    paths = map path_in paths;
    encoding = encoding_of (enum_under get_encoding octets);
    unsupported = is_state (enum_under get_type octets) || not (length models == 0)
        || list_any is_other extensions || list_any is_foreign paths;
  })
