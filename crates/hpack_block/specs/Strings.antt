-- Strings of header blocks (RFC 7541, section 5.2).
use Rattle.std.specs.Prelude.{◌≡◌, ℕ, ◌<◌, ◌≤◌, ◌⊎◌, List, ◌++◌, length, slice_index}
use Rattle.hpack_huff.specs.Huffman.{Huff}
use Rattle.hpack_block.specs.Integers.{IsInteger}

-- The octets begin with a length, with a prefix of 7 bits, and as many octets of content, and the rest follows.
pub record IsContent (octets content rest : List ℕ) : Type 0 where
  pub after : List ℕ
  pub is_length : IsInteger 7 octets (length content) after
  pub follows : after ≡ content ++ rest

-- The content is the text itself where the first octet's top bit is 0, and where it is 1 the text's Huffman code.
abbrev pub IsCoded : ℕ → List ℕ → List ℕ → Type 0
IsCoded first content text =
    ((first < 128) × (content ≡ text)) ⊎ ((128 ≤ first) × Huff content text)

-- The octets begin with the string, and the rest follows.
pub record IsString (octets text rest : List ℕ) : Type 0 where
  pub content : List ℕ
  pub is_content : IsContent octets content rest
  pub is_coded : IsCoded (slice_index octets 0) content text
