-- How far the letters from each position on match the front of the word.
-- Assumes nothing.
use Rattle.std.specs.Prelude.{◌≡◌, List, ℕ, ◌≤◌, ◌<◌, ◌+◌, length, drop, get_or}

-- the z letters from i on are the first z
pub record Match (w : List ℕ) (i z : ℕ) : Type 0 where
  pub within : i + z ≤ length w
  pub same : (d : ℕ) → d < z → get_or w (i + d) 0 ≡ get_or w d 0

-- and no more than z
pub record MatchLength (w : List ℕ) (i z : ℕ) : Type 0 where
  pub match : Match w i z
  pub differs : i + z < length w → get_or w (i + z) 0 ≡ get_or w z 0 → ⊥

-- each entry but the first is how far its position matches the front; the first is 0
pub record MatchTable (w t : List ℕ) : Type 0 where
  pub front : get_or t 0 0 ≡ 0
  pub found : (i : ℕ) → 0 < i → i < length w → MatchLength w i (get_or t i 0)

-- a table t that was o: as long, and from entry n on the same
pub record Kept (n : ℕ) (o t : List ℕ) : Type 0 where
  pub size : length t ≡ length o
  pub beyond : drop n t ≡ drop n o
