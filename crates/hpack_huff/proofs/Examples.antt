-- The definitions on examples of RFC 7541.
use Rattle.std.proofs.Common.{◌≡◌, [], ◌∷◌, ◌++◌, true, false, refl, codes}
use Rattle.hpack_huff.specs.Bits.{bits_of, octet_bits}
use Rattle.hpack_huff.specs.Code.{code_lengths, code_length, codes_with, first_code, rank, code_value, code_of}
use Rattle.hpack_huff.specs.Huffman.{codes_of}

-- appendix B: 'a' is 00011
code_of_a : code_of 97 ≡ false ∷ false ∷ false ∷ true ∷ true ∷ []
unfolding code_of code_value code_length code_lengths first_code rank codes_with bits_of
code_of_a = refl

-- appendix B: '!' is 11111110|00, 3f8 in hexadecimal
code_of_mark : code_value 33 ≡ 0x3f8
unfolding code_value code_length code_lengths first_code rank codes_with
code_of_mark = refl

-- appendix B: octet 22 is 3ffffffe in hexadecimal, in 30 bits
code_of_22 : code_value 22 ≡ 0x3ffffffe
unfolding code_value code_length code_lengths first_code rank codes_with
code_of_22 = refl

-- appendix C.4.1: www.example.com, and seven ones of padding
example : octet_bits (0xf1 ∷ 0xe3 ∷ 0xc2 ∷ 0xe5 ∷ 0xf2 ∷ 0x3a ∷ 0x6b ∷ 0xa0 ∷ 0xab ∷ 0x90 ∷ 0xf4 ∷ 0xff ∷ [])
    ≡ codes_of (codes "www.example.com") ++ true ∷ true ∷ true ∷ true ∷ true ∷ true ∷ true ∷ []
unfolding octet_bits codes_of code_of code_value code_length code_lengths first_code rank codes_with bits_of
example = refl
