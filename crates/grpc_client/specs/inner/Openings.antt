-- What goes before the HEADERS of a call. Only private functions cite this.
use Rattle.std.specs.Prelude.{ℕ, List, [], ◌++◌, Bool, true, false}
use Rattle.h2_windows.specs.Written.{spelled}
use Rattle.grpc_client.specs.Requests.{preface, client_settings}

abbrev pub beginning : Bool → List ℕ
beginning true = []
beginning false = preface ++ spelled client_settings
