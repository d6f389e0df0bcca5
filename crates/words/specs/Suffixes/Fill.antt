-- The suffix table while it is filled from the front.
-- Assumes nothing.
use Rattle.std.specs.Prelude.{◌≡◌, List, ℕ, suc, ◌<◌, length, take, get_or}
use Rattle.words.specs.Suffixes.Prefix.{least_suffix}
use Rattle.words.specs.Repeats.Match.{Kept}

-- a table t that was o: its first l entries are those of the suffix table of w, and beyond the letters of w it is as it was
pub record Filled (w o t : List ℕ) (l : ℕ) : Type 0 where
  pub entry : (i : ℕ) → i < l → get_or t i 0 ≡ least_suffix (take (suc i) w)
  pub kept : Kept (length w) o t
