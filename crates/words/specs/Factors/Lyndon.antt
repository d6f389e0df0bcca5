-- Lyndon words (01, "Factors and the two prefix tables").
-- Assumes nothing.
use Rattle.std.specs.Prelude.{Bool, false, List, [], ◌∷◌, ℕ, ◌<◌, length, drop}
use Rattle.words.specs.Order.Order.{◌≺◌, before}
use Rattle.words.specs.Order.Search.{every}

-- a Lyndon word is strictly less than each of its proper nonempty suffixes (01; 000, section 2)
pub record Lyndon (w : List ℕ) : Type 0 where
  pub some : 0 < length w
  pub least : (i : ℕ) → 0 < i → i < length w → w ≺ drop i w

-- the same as a test
abbrev pub lyndon : List ℕ → Bool
lyndon [] = false
lyndon (a ∷ w) = every (λ i. before (a ∷ w) (drop i w)) (length w)
