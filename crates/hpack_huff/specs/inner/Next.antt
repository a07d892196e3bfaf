-- What is taken from the front of some bits.
use Rattle.std.specs.Prelude.{◌≡◌, ◌<◌, List, Bool, ◌++◌}
use Rattle.hpack_huff.specs.Code.{code_of, end_mark}
use Rattle.hpack_huff.specs.inner.Taken.{IsUnfinished}
use Rattle.hpack_huff.specs.declared.pending.Next.{Next}
use Rattle.hpack_huff.specs.declared.pending.Next.TheVariants.{Octet, EndMark, Unfinished}

-- the code of what was found stood first, and the new bits are the rest
abbrev pub IsNext : List Bool → List Bool → Next → Type 0
IsNext old new (Octet octet) = (octet < end_mark) × (old ≡ code_of octet ++ new)
IsNext old new EndMark = old ≡ code_of end_mark ++ new
IsNext old new Unfinished = (new ≡ old) × IsUnfinished old
