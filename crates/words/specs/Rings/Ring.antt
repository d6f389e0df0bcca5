-- Readings of a ring, its start and its lowest reading (01, "Letters, rings, readings").
-- Assumes nothing.
use Rattle.std.specs.Prelude.{◌≡◌, List, ◌++◌, ℕ, ◌<◌, ◌-◌, ◌%◌, length, take, drop, get_or}
use Rattle.words.specs.Order.Order.{◌≼◌}
use Rattle.words.specs.Order.Least.{IsLeast, least}

-- the reading at position i: the n letters from i round to i - 1 (01; 000, section 6, a rotation)
unfoldable pub reading : List ℕ → ℕ → List ℕ
reading w i = drop i w ++ take i w

-- the letter at a position round the ring (01, "positions round the ring")
unfoldable pub around : List ℕ → ℕ → ℕ
around w i = get_or w (i % length w) 0

-- i is the start: the smallest position whose reading is no greater than any other reading (01)
abbrev pub IsStart : List ℕ → ℕ → Type 0
IsStart w i = IsLeast (reading w) (length w) i

-- the start, computed
unfoldable pub start : List ℕ → ℕ
start w = least (reading w) (length w - 1)

-- the lowest reading is that at the start (01)
unfoldable pub lowest : List ℕ → List ℕ
lowest w = reading w (start w)

-- i is a position whose reading is no greater than any other: a least starting position (000, section 6)
pub record Lowest (w : List ℕ) (i : ℕ) : Type 0 where
  pub within : i < length w
  pub least : (j : ℕ) → j < length w → reading w i ≼ reading w j

-- v is a reading of u: a turn of it
pub record IsReading (u v : List ℕ) : Type 0 where
  pub at : ℕ
  pub within : at < length u
  pub is : v ≡ reading u at
