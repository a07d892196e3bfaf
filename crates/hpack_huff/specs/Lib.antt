pub mod Bits
pub mod Code
pub mod Huffman
pub mod inner
