use Rattle.std.proofs.Common.{refl}
use Rattle.h2_windows.specs.Written.{spelled}
use Rattle.grpc_client.proofs.request.settings.Goals as goal

pub returns : goal.returns
unfolding spelled
returns c = refl
