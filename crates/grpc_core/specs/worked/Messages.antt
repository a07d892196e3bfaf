-- What stands first in octets, at its limits.
use Rattle.std.specs.Prelude.{◌≡◌, refl, [], ◌∷◌, Some, None}
use Rattle.grpc_core.specs.Messages.{standing, framed, cut}
use Rattle.grpc_core.specs.declared.message.Standing.TheVariants.{Waiting, Whole, Faulty}
use Rattle.grpc_core.specs.declared.message.SplitFault.TheVariants.{Compressed, TooLarge}

-- a length of 4,194,304 is read
pub largest_waits : standing (0 ∷ 0 ∷ 64 ∷ 0 ∷ 0 ∷ []) ≡ Waiting
largest_waits = refl

pub one_more_is_too_large : standing (0 ∷ 0 ∷ 64 ∷ 0 ∷ 1 ∷ []) ≡ Faulty TooLarge
one_more_is_too_large = refl

-- The flag is looked at before the length.
pub flag_before_length : standing (1 ∷ 255 ∷ 64 ∷ 0 ∷ 1 ∷ []) ≡ Faulty Compressed
flag_before_length = refl

-- Nothing is said before the fifth octet.
pub early : standing (1 ∷ 255 ∷ 64 ∷ 0 ∷ []) ≡ Waiting
early = refl

pub empty_message : standing (0 ∷ 0 ∷ 0 ∷ 0 ∷ 0 ∷ []) ≡ Whole 0
empty_message = refl

pub one_octet_missing : standing (0 ∷ 0 ∷ 0 ∷ 0 ∷ 2 ∷ 7 ∷ []) ≡ Waiting
one_octet_missing = refl

pub whole_message : standing (0 ∷ 0 ∷ 0 ∷ 0 ∷ 1 ∷ 7 ∷ 0 ∷ []) ≡ Whole 1
whole_message = refl

pub as_sent : framed (7 ∷ 8 ∷ []) ≡ 0 ∷ 0 ∷ 0 ∷ 0 ∷ 2 ∷ 7 ∷ 8 ∷ []
as_sent = refl

-- An empty message, one of an octet, and the beginning of one.
pub two_messages :
    cut (0 ∷ 0 ∷ 0 ∷ 0 ∷ 0 ∷ 0 ∷ 0 ∷ 0 ∷ 0 ∷ 1 ∷ 7 ∷ 0 ∷ 0 ∷ [])
    ≡ record { messages = [] ∷ (7 ∷ []) ∷ []; rest = 0 ∷ 0 ∷ []; fault = None }
two_messages = refl

pub compressed_second :
    cut (0 ∷ 0 ∷ 0 ∷ 0 ∷ 0 ∷ 1 ∷ 0 ∷ 0 ∷ 0 ∷ 1 ∷ [])
    ≡ record { messages = [] ∷ []; rest = 1 ∷ 0 ∷ 0 ∷ 0 ∷ 1 ∷ []; fault = Some Compressed }
compressed_second = refl
