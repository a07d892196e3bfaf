-- Frames of HTTP/2 as octets (RFC 9113 section 4.1).
use Rattle.std.specs.Prelude.{◌≡◌, ◌⊎◌, ℕ, ◌+◌, ◌*◌, ◌^◌, ◌<◌, ◌≤◌, List, [], ◌∷◌, ◌++◌, length, take, slice_index, slice_range, All}
use Rattle.std.specs.Int.{bytes_high_first}
use Rattle.h2_frame.specs.declared.frame.Head.{Head}
use Rattle.h2_frame.specs.declared.frame.Got.{Got}
use Rattle.h2_frame.specs.declared.frame.Got.TheVariants as got
use Rattle.h2_frame.specs.ErrorCodes.{frame_size_error}

-- a frame: its head, and its payload
pub record Frame : Type 0 where
  pub head : Head
  pub payload : List ℕ

abbrev pub frame_of : Head → List ℕ → Frame
frame_of head payload = record { head = head; payload = payload }

-- The octets of a frame: 24 bits of length, 8 of kind, 8 of flags, the reserved bit, 31 bits of stream, and the
-- payload. Numbers have their highest octet first (RFC 9113 section 4.1).
abbrev pub spelling_with : ℕ → Frame → List ℕ
spelling_with reserved frame =
    bytes_high_first 3 frame.head.length ++ frame.head.kind ∷ frame.head.flags
    ∷ bytes_high_first 4 (reserved * 2 ^ 31 + frame.head.stream) ++ frame.payload

-- As it is sent: the reserved bit is 0 (RFC 9113 section 4.1).
abbrev pub spelling : Frame → List ℕ
spelling frame = spelling_with 0 frame

-- the nine octets before a payload, as they are sent
abbrev pub head_spelling : Head → List ℕ
head_spelling head = spelling (frame_of head [])

-- what the fields of a frame can hold
pub record Fits (frame : Frame) : Type 0 where
  pub payload_length : length frame.payload ≡ frame.head.length
  pub length_fits : frame.head.length < 2 ^ 24
  pub kind_fits : frame.head.kind < 2 ^ 8
  pub flags_fit : frame.head.flags < 2 ^ 8
  pub stream_fits : frame.head.stream < 2 ^ 31
  pub octets_fit : All (λ octet. octet < 2 ^ 8) frame.payload

-- The octets are this frame, whichever the reserved bit is: who receives a frame ignores it (RFC 9113 section 4.1).
pub record Spells (octets : List ℕ) (frame : Frame) : Type 0 where
  pub reserved : ℕ
  pub is_bit : reserved < 2
  pub octets_are : octets ≡ spelling_with reserved frame
  pub fits : Fits frame

-- A whole frame of at most `max` octets of payload stands first: it has `used` octets and this head, and its
-- payload is octets 9 to `used`.
pub record StandsFirst (max : ℕ) (octets : List ℕ) (head : Head) (used : ℕ) : Type 0 where
  pub size : used ≡ 9 + head.length
  pub within : used ≤ length octets
  pub frame : Spells (take used octets) (frame_of head (slice_range octets 9 used))
  pub allowed : head.length ≤ max

-- the octets are a proper prefix of a frame of at most `max` octets of payload
pub record IsPart (max : ℕ) (octets : List ℕ) : Type 0 where
  pub missing : List ℕ
  pub frame : Frame
  pub some_missing : 0 < length missing
  pub whole : Spells (octets ++ missing) frame
  pub allowed : frame.head.length ≤ max

-- The length that the first three octets state. An octet that isn't there counts as 0, so that this is the least
-- length which a frame that begins so can have.
abbrev pub stated_length : List ℕ → ℕ
stated_length octets =
    slice_index octets 0 * 2 ^ 16 + slice_index octets 1 * 2 ^ 8 + slice_index octets 2

-- more octets of payload are stated than a frame may have
abbrev pub IsTooLong : ℕ → List ℕ → Type 0
IsTooLong max octets = max < stated_length octets

-- what an answer of a reader of frames says
abbrev pub IsReadAs : ℕ → List ℕ → Got → Type 0
IsReadAs max octets (got.Frame head used) = StandsFirst max octets head used
IsReadAs max octets got.More = IsPart max octets
IsReadAs max octets (got.Bad code) = (code ≡ frame_size_error) × IsTooLong max octets

-- the first frame of the octets, of at most `max` octets of payload, and what follows it
pub record BeginsWith (max : ℕ) (octets : List ℕ) (frame : Frame) (after : List ℕ) : Type 0 where
  pub front : List ℕ
  pub spells : Spells front frame
  pub allowed : frame.head.length ≤ max
  pub joined : octets ≡ front ++ after

-- The octets begin with these frames, each of at most `max` octets of payload, one after the other, and this follows.
abbrev pub LeadingFrames : ℕ → List ℕ → List Frame → List ℕ → Type 0
LeadingFrames max octets [] after = octets ≡ after
LeadingFrames max octets (frame ∷ frames) after =
    (next : List ℕ) × BeginsWith max octets frame next × LeadingFrames max next frames after

-- The octets are these frames, and then a rest that is a proper prefix of a frame.
pub record Frames (max : ℕ) (octets : List ℕ) (frames : List Frame) (rest : List ℕ) : Type 0 where
  pub leading : LeadingFrames max octets frames rest
  pub is_part : IsPart max rest

-- where no frame can be read: a proper prefix of a frame stands there, or a frame that is longer than allowed
abbrev pub IsEnd : ℕ → List ℕ → Type 0
IsEnd max octets = IsPart max octets ⊎ IsTooLong max octets

-- The octets are these frames, and then an end in either way. All octets are so (law every_run_ends).
pub record FramesTo (max : ℕ) (octets : List ℕ) (frames : List Frame) (rest : List ℕ) : Type 0 where
  pub leading : LeadingFrames max octets frames rest
  pub ends : IsEnd max rest

-- each is an octet
abbrev pub AreOctets : List ℕ → Type 0
AreOctets octets = All (λ octet. octet < 2 ^ 8) octets
