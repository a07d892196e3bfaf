-- Frames that can be spelled and that every peer takes.
use Rattle.std.specs.Prelude.{◌≡◌, ◌^◌, ◌<◌, ◌≤◌, List, length}
use Rattle.std.specs.List.{AllByRecursion}
use Rattle.h2_frame.specs.Frames.{Frame}
use Rattle.h2_windows.specs.Sending.{largest_payload}
use Rattle.h2_windows.specs.declared.stream.Stream.{Stream}

-- The head states the payload's length, which is one that every peer takes, and a stream of 31 bits (RFC 9113 sections 4.1
-- and 4.2).
pub record HasFitHead (frame : Frame) : Type 0 where
  pub states_length : length frame.payload ≡ frame.head.length
  pub length_fits : frame.head.length ≤ largest_payload
  pub stream_fits : frame.head.stream < 2 ^ 31

abbrev pub HaveFitHeads : List Frame → Type 0
HaveFitHeads frames = AllByRecursion HasFitHead frames

-- the numbers of streams have 31 bits
abbrev pub HaveFitNumbers : List Stream → Type 0
HaveFitNumbers streams = AllByRecursion (λ s. s.id < 2 ^ 31) streams
