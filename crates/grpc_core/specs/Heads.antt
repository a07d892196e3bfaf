-- Which call a list of headers asks for (gRPC over HTTP/2, "Requests").
use Rattle.std.specs.Prelude.{ℕ, Bool, false, List, [], ◌∷◌, Option, Some, None, option_map, codes, nat_eq, bytes_eq, not, if◌then◌else◌}
use Rattle.std.specs.List.{find, starts_with}
use Rattle.hpack_block.specs.declared.header.Header.{Header}
use Rattle.base_kinds.specs.declared.refusal.Refusal.TheVariants.{NoMethod}
use Rattle.grpc_core.specs.declared.method.Method.{Method}
use Rattle.grpc_core.specs.declared.method.Method.TheVariants.{Capabilities, Get, Set, Subscribe}
use Rattle.grpc_core.specs.declared.head.CallHead.{CallHead}
use Rattle.grpc_core.specs.declared.head.CallHead.TheVariants.{Call, Http, Refused}

-- The path of a call: the service with its package, and the method's name in it (gNMI, gnmi.proto, service gNMI).
abbrev pub path_of : Method → List ℕ
path_of Capabilities = codes "/gnmi.gNMI/Capabilities"
path_of Get = codes "/gnmi.gNMI/Get"
path_of Set = codes "/gnmi.gNMI/Set"
path_of Subscribe = codes "/gnmi.gNMI/Subscribe"

abbrev pub methods : List Method
methods = Capabilities ∷ Get ∷ Set ∷ Subscribe ∷ []

abbrev pub is_at : List ℕ → Method → Bool
is_at path method = bytes_eq (path_of method) path

abbrev pub method_at : List ℕ → Option Method
method_at path = find (is_at path) methods

abbrev pub is_named : List ℕ → Header → Bool
is_named name header = bytes_eq header.name name

-- The value of the first header of the name. Several of one name are together their values in order, with commas between
-- them (RFC 9110 section 5.2), so that the first one also says how that begins.
abbrev pub value_of : List ℕ → List Header → Option (List ℕ)
value_of name headers = option_map (λ (header : Header). header.value)
    (find (is_named name) headers)

abbrev pub is_value : List ℕ → Option (List ℕ) → Bool
is_value wanted None = false
is_value wanted (Some value) = bytes_eq value wanted

abbrev pub value_begins : List ℕ → Option (List ℕ) → Bool
value_begins prefix None = false
value_begins prefix (Some value) = starts_with nat_eq value prefix

abbrev pub is_post : List Header → Bool
is_post headers = is_value (codes "POST") (value_of (codes ":method") headers)

-- "If Content-Type does not begin with "application/grpc", gRPC servers SHOULD respond with HTTP status of 415."
abbrev pub is_grpc : List Header → Bool
is_grpc headers = value_begins (codes "application/grpc") (value_of (codes "content-type") headers)

abbrev pub of_method : Option Method → CallHead
of_method None = Refused NoMethod
of_method (Some method) = Call method

abbrev pub of_path : Option (List ℕ) → CallHead
of_path None = Refused NoMethod
of_path (Some path) = of_method (method_at path)

-- Another method of HTTP than POST is answered with status 405 (RFC 9110 section 15.5.6; without the header `allow`, since no
-- other method is to be tried), then another type of content
-- with 415, and then a path of no method is refused.
abbrev pub head_of : List Header → CallHead
head_of headers =
    if not (is_post headers) then Http 405
    else if not (is_grpc headers) then Http 415
    else of_path (value_of (codes ":path") headers)
