pub mod Checksum
pub mod Events
pub mod Fields
pub mod Frames
pub mod Huffman
pub mod Messages
pub mod Blocks
