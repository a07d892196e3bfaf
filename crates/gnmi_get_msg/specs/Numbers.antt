-- The numbers of the fields of gnmi.proto's messages of a Get and of Capabilities, by their names there.
use Rattle.std.specs.Prelude.{ℕ}

-- GetRequest
abbrev pub get_prefix : ℕ
get_prefix = 1

abbrev pub get_path : ℕ
get_path = 2

abbrev pub get_type : ℕ
get_type = 3

abbrev pub get_encoding : ℕ
get_encoding = 5

abbrev pub get_use_models : ℕ
get_use_models = 6

abbrev pub get_extension : ℕ
get_extension = 7

-- GetRequest.DataType, of which ALL is 0 and CONFIG is 1
abbrev pub type_state : ℕ
type_state = 2

abbrev pub type_operational : ℕ
type_operational = 3

-- GetResponse
abbrev pub reply_notification : ℕ
reply_notification = 1

-- CapabilityResponse
abbrev pub supported_models : ℕ
supported_models = 1

abbrev pub supported_encodings : ℕ
supported_encodings = 2

abbrev pub gnmi_version : ℕ
gnmi_version = 3
