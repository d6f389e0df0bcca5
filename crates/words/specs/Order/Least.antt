-- The least word of a family, and the first position that has it.
-- Assumes nothing.
use Rattle.std.specs.Prelude.{cond, List, [], ◌∷◌, ℕ, zero, suc, ◌≤◌, ◌<◌}
use Rattle.words.specs.Order.Order.{◌≼◌, before}

-- i is the smallest position below n at which the word that f gives is no greater than any other
pub record IsLeast (f : ℕ → List ℕ) (n i : ℕ) : Type 0 where
  pub within : i < n
  pub lowest : (j : ℕ) → j < n → f i ≼ f j
  pub first : (j : ℕ) → j < n → ((k : ℕ) → k < n → f j ≼ f k) → i ≤ j

-- the one of two positions whose word is lower, the second if they are equal
abbrev pub better : (ℕ → List ℕ) → ℕ → ℕ → ℕ
better f c b = cond (before (f c) (f b)) c b

-- that smallest position, computed: of the positions 0 to k
abbrev pub least : (ℕ → List ℕ) → ℕ → ℕ
least f zero = zero
least f (suc k) = better f (suc k) (least f k)

-- the first of those that are lowest among b and the listed positions
abbrev pub lowest_of : (ℕ → List ℕ) → ℕ → List ℕ → ℕ
lowest_of f b [] = b
lowest_of f b (i ∷ is) = lowest_of f (better f i b) is
