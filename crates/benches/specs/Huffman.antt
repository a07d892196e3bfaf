-- The checksum of a text that was decoded.
use Rattle.std.specs.Prelude.{◌≡◌, ℕ, List, fold}
use Rattle.hpack_huff.specs.Huffman.{Huff}
use Rattle.benches.specs.Checksum.{added}

-- The octets are a text's code, and the checksum is that of its symbols, in their order.
pub record ReadsText (octets : List ℕ) (before checksum : ℕ) : Type 0 where
  pub text : List ℕ
  pub huff : Huff octets text
  pub is : checksum ≡ fold added before text
