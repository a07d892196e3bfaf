-- Messages among the octets of a stream (gRPC over HTTP/2, "Length-Prefixed-Message": a flag of one octet, which is 0
-- where the message is not compressed, its length in four, highest first, and the message).
use Rattle.std.specs.Prelude.{◌≡◌, ℕ, zero, suc, ◌+◌, ◌*◌, ◌<◌, ◌≤◌, nat_lt, nat_eq, if◌then◌else◌, List, [], ◌∷◌, ◌++◌, length, take, drop, Option, Some, None, All}
use Rattle.std.specs.Int.{bytes_high_first}
use Rattle.grpc_core.specs.declared.message.SplitFault.{SplitFault}
use Rattle.grpc_core.specs.declared.message.SplitFault.TheVariants.{Compressed, TooLarge}
use Rattle.grpc_core.specs.declared.message.Standing.{Standing}
use Rattle.grpc_core.specs.declared.message.Standing.TheVariants.{Waiting, Whole, Faulty}

-- how many octets a message has here at most
abbrev pub largest_message : ℕ
largest_message = 4194304

-- a message as it is sent: not compressed
abbrev pub framed : List ℕ → List ℕ
framed message = 0 ∷ bytes_high_first 4 (length message) ++ message

-- the number that four octets state, the highest first
abbrev pub stated : ℕ → ℕ → ℕ → ℕ → ℕ
stated a b c d = a * 16777216 + b * 65536 + c * 256 + d

-- what stands first where a length is stated and so many octets follow it
abbrev pub of_length : ℕ → ℕ → Standing
of_length size there =
    if nat_lt largest_message size then Faulty TooLarge
    else if nat_lt there size then Waiting
    else Whole size

-- What stands first in octets. The five octets before a message decide: its flag first, then its length. No message
-- encoding is supported, so a compressed message is refused whether or not its call names an encoding.
abbrev pub standing : List ℕ → Standing
standing (flag ∷ a ∷ b ∷ c ∷ d ∷ more) =
    if nat_eq flag 0 then of_length (stated a b c d) (length more) else Faulty Compressed
standing _ = Waiting

-- The octets are these messages, one after the other, and then a rest.
abbrev pub AreMessages : List ℕ → List (List ℕ) → List ℕ → Type 0
AreMessages octets [] rest = octets ≡ rest
AreMessages octets (message ∷ messages) rest =
    (after : List ℕ) × (octets ≡ framed message ++ after) × (length message ≤ largest_message)
    × AreMessages after messages rest

-- where no further message stands: one that is not whole, or a fault
abbrev pub end_at : Option SplitFault → Standing
end_at None = Waiting
end_at (Some fault) = Faulty fault

-- The octets are these messages and then a rest, which is the beginning of a message that is not whole, or with which a
-- fault stands. All octets are so in one way (laws computed and one_list).
pub record Splits (octets : List ℕ) (messages : List (List ℕ)) (rest : List ℕ)
    (fault : Option SplitFault) : Type 0 where
  pub leading : AreMessages octets messages rest
  pub ends : standing rest ≡ end_at fault

-- each is an octet
abbrev pub AreOctets : List ℕ → Type 0
AreOctets octets = All (λ octet. octet < 256) octets

-- The same as a function: the messages of octets, the rest, and the fault that stands with it (law computed).
pub record Cut : Type 0 where
  pub messages : List (List ℕ)
  pub rest : List ℕ
  pub fault : Option SplitFault

abbrev pub with_message : List ℕ → Cut → Cut
with_message message others = record others { messages = message ∷ others.messages }

-- by what stands first, where the octets behind a first message are cut so
abbrev pub cut_at : (List ℕ → Cut) → List ℕ → Standing → Cut
cut_at others octets Waiting = record { messages = []; rest = octets; fault = None }
cut_at others octets (Faulty fault) = record { messages = []; rest = octets; fault = Some fault }
cut_at others octets (Whole size) =
    with_message (take size (drop 5 octets)) (others (drop (5 + size) octets))

-- so many messages at most
abbrev pub cut_within : ℕ → List ℕ → Cut
cut_within zero octets = record { messages = []; rest = octets; fault = None }
cut_within (suc most) octets = cut_at (cut_within most) octets (standing octets)

-- There are at most as many messages as octets, since five stand before each.
abbrev pub cut : List ℕ → Cut
cut octets = cut_within (length octets) octets
