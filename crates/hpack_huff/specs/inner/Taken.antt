-- Codes that are taken from the front of some bits.
use Rattle.std.specs.Prelude.{◌≡◌, ℕ, ◌<◌, ◌≤◌, List, Bool, ◌++◌, length}
use Rattle.hpack_huff.specs.Code.{code_of, end_mark}
use Rattle.hpack_huff.specs.Huffman.{Begins}

-- no whole code stands first
pub record IsUnfinished (bits : List Bool) : Type 0 where
  pub few : length bits < 30
  pub none : (symbol : ℕ) (rest : List Bool) → symbol ≤ end_mark → bits ≡ code_of symbol ++ rest → ⊥

-- the text that the first codes stand for is added to a list, and the rest of the bits is left
pub record Takes (bits rest : List Bool) (old new : List ℕ) : Type 0 where
  pub text : List ℕ
  pub added : new ≡ old ++ text
  pub begins : Begins bits text rest

-- the same, with the end mark's code first in the rest
pub record MeetsEndMark (bits : List Bool) (old new : List ℕ) : Type 0 where
  pub rest : List Bool
  pub takes : Takes bits (code_of end_mark ++ rest) old new

-- the same, whatever is left
pub record TakesSome (bits : List Bool) (old new : List ℕ) : Type 0 where
  pub rest : List Bool
  pub takes : Takes bits rest old new
