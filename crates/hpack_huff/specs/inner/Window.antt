-- A window: 40 bits as a number.
use Rattle.std.specs.Prelude.{◌≡◌, ℕ, ◌+◌, ◌*◌, ◌<◌, ◌≤◌, ◌-◌, ◌/◌, ◌^◌}
use Rattle.hpack_huff.specs.Code.{code_length, code_value, codes_with, first_code, rank}

-- the window begins with the code of the symbol, which has that many bits
pub record IsFirst (window symbol count : ℕ) : Type 0 where
  pub is_symbol : symbol < 257
  pub count_is : count ≡ code_length symbol
  pub value_is : window / 2 ^ (40 - count) ≡ code_value symbol

-- 8 bits begin with the code of the symbol, which has that many bits, at most 8
pub record IsShort (top symbol count : ℕ) : Type 0 where
  pub is_symbol : symbol < 257
  pub count_is : count ≡ code_length symbol
  pub short : count ≤ 8
  pub value_is : top / 2 ^ (8 - count) ≡ code_value symbol

-- the least window that is above all codes of n bits
unfoldable pub limit : ℕ → ℕ
limit n = (first_code n + codes_with n) * 2 ^ (40 - n)

-- the code of the symbol has that many bits, and so many lower symbols have one of that length
pub record HasRank (symbol count below : ℕ) : Type 0 where
  pub is_symbol : symbol < 257
  pub count_is : code_length symbol ≡ count
  pub rank_is : rank symbol ≡ below
