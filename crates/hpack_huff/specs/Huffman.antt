-- Texts in the Huffman code of HPACK (RFC 7541, section 5.2).
use Rattle.std.specs.Prelude.{◌≡◌, ℕ, ◌<◌, ◌≤◌, Bool, true, List, ◌++◌, replicate, length}
use Rattle.std.specs.List.{flat_map, AllByRecursion}
use Rattle.hpack_huff.specs.Bits.{octet_bits}
use Rattle.hpack_huff.specs.Code.{code_of, end_mark}

-- each symbol is an octet, none the end mark
abbrev pub IsText : List ℕ → Type 0
IsText text = AllByRecursion (λ symbol. symbol < end_mark) text

-- the codes of the symbols, one after the other
unfoldable pub codes_of : List ℕ → List Bool
codes_of symbols = flat_map code_of symbols

-- the bits begin with the codes of the text's symbols, and the rest follows
pub record Begins (bits : List Bool) (text : List ℕ) (rest : List Bool) : Type 0 where
  pub text_is : IsText text
  pub bits_are : bits ≡ codes_of text ++ rest

-- Fewer than 8 bits, all ones: the most significant bits of the end mark's code
pub record IsPadding (bits : List Bool) : Type 0 where
  pub few : length bits ≤ 7
  pub ones : bits ≡ replicate (length bits) true

-- the octets are the codes of the text's symbols, and the padding to the end of an octet
pub record Huff (octets text : List ℕ) : Type 0 where
  pub padding : List Bool
  pub is_padding : IsPadding padding
  pub begins : Begins (octet_bits octets) text padding

-- the text whose code the octets are is added to a list
pub record Decodes (octets old new : List ℕ) : Type 0 where
  pub text : List ℕ
  pub added : new ≡ old ++ text
  pub huff : Huff octets text

-- a text is added with whose codes the octets begin
pub record DecodesFront (octets old new : List ℕ) : Type 0 where
  pub text : List ℕ
  pub rest : List Bool
  pub added : new ≡ old ++ text
  pub begins : Begins (octet_bits octets) text rest
