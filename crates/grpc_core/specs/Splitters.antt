-- What a splitter is, and what it makes of the next piece of a stream.
use Rattle.std.specs.Prelude.{◌≡◌, ◌≢◌, ℕ, List, ◌++◌, Option, Some, None}
use Rattle.grpc_core.specs.declared.message.SplitFault.{SplitFault}
use Rattle.grpc_core.specs.declared.message.SplitFault.TheVariants.{NoMemory}
use Rattle.grpc_core.specs.Messages.{AreMessages, Splits, standing, end_at}

-- the octets of the message that is not whole yet, and what has stopped it
pub record SplitterView : Type 0 where
  pub rest : List ℕ
  pub fault : Option SplitFault

-- The octets gave messages, which were added to a list, and the rest is the beginning of a further one.
pub record Gives (octets : List ℕ) (before after : List (List ℕ)) (rest : List ℕ) : Type 0 where
  pub messages : List (List ℕ)
  pub added : after ≡ before ++ messages
  pub splits : Splits octets messages rest None

-- The messages before the fault were added, and with the rest that fault stands. Where memory was wanting they are the
-- first messages of the octets.
pub record Stops (octets : List ℕ) (before after : List (List ℕ))
    (fault : SplitFault) : Type 0 where
  pub messages : List (List ℕ)
  pub rest : List ℕ
  pub added : after ≡ before ++ messages
  pub leading : AreMessages octets messages rest
  pub ends : fault ≢ NoMemory → standing rest ≡ end_at (Some fault)
