-- Headers of which one frame holds several lists.
use Rattle.std.specs.Prelude.{ℕ, ◌≤◌, List, length, All}
use Rattle.hpack_block.specs.declared.header.Header.{Header}
use Rattle.hpack_block.specs.Written.{block_of, IsShort}

pub record IsSmall (headers : List Header) : Type 0 where
  pub short : All IsShort headers
  pub small : length (block_of headers) ≤ 1000
