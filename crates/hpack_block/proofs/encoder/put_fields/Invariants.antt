use Rattle.std.proofs.Common.{◌≡◌, ◌++◌, take}
use Rattle.hpack_block.specs.Written.{block_of}
use Rattle.hpack_block.proofs.encoder.put_fields.Given as goal

-- the fields of the headers so far are written
abbrev pub invariant-loop-header : goal.invariant-loop-header
invariant-loop-header l = l.out ≡ l.fn.out ++ block_of (take l.header-index l.headers)
