-- gnmi.proto's ModelData, of which the name alone is read.
use Rattle.std.specs.Prelude.{ℕ, List, Option, Some}
use Rattle.base_lists.specs.Options.{◌>>=◌}
use Rattle.gnmi_data_msg.specs.Parts.{fields_in, single_text}
use Rattle.gnmi_data_msg.specs.declared.models.ModelData.{ModelData}

abbrev pub model_name : ℕ
model_name = 1

-- the model that the octets of a ModelData name
unfoldable pub model_of : List ℕ → Option ModelData
model_of octets = do
  fields ← fields_in octets
  name ← single_text octets model_name fields
  Some (record { name = name })
