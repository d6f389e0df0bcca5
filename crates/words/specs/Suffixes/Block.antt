-- A block of a word: from a head on, a Lyndon word stands over and over.
-- Assumes nothing.
use Rattle.std.specs.Prelude.{List, ℕ, ◌≤◌, ◌<◌, ◌+◌, ◌-◌, length, take, drop}
use Rattle.words.specs.Order.Order.{◌≺◌}
use Rattle.words.specs.Factors.Scan.{Scan}

-- no suffix of a longer prefix that begins before m is least
pub record Head (w : List ℕ) (m : ℕ) : Type 0 where
  pub within : m ≤ length w
  pub low : (k i : ℕ) → 0 < k → m + k ≤ length w → i < m → take k (drop m w) ≺ drop i (take (m + k) w)

-- m is a head, and from m to l a Lyndon word of length p stands over and over
pub record Block (w : List ℕ) (m p l : ℕ) : Type 0 where
  pub head : Head w m
  pub some : 0 < p
  pub order : m + p ≤ l
  pub inside : l ≤ length w
  pub scan : Scan (drop m w) (l - m) (l - m - p)
