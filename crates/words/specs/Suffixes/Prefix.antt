-- The least suffix, and the two prefix tables (01, "Factors and the two prefix tables").
-- Assumes nothing.
use Rattle.std.specs.Prelude.{List, ℕ, suc, ◌-◌, length, take, drop}
use Rattle.words.specs.Order.Search.{tabled}
use Rattle.words.specs.Order.Least.{IsLeast, least}
use Rattle.words.specs.Rings.Ring.{start}

-- i is the first position of the least nonempty suffix (01; 000, section 6, the minimum suffix)
abbrev pub IsLeastSuffix : List ℕ → ℕ → Type 0
IsLeastSuffix w i = IsLeast (λ j. drop j w) (length w) i

-- that position, computed
unfoldable pub least_suffix : List ℕ → ℕ
least_suffix w = least (λ i. drop i w) (length w - 1)

-- entry L-1 is f of the prefix of length L, for L from 1 to n
abbrev pub of_prefixes : (List ℕ → ℕ) → List ℕ → List ℕ
of_prefixes f w = tabled (λ i. f (take (suc i) w)) (length w)

-- entry L-1 is the first position of the least nonempty suffix of the prefix of length L (01)
unfoldable pub suffix_table : List ℕ → List ℕ
suffix_table w = of_prefixes least_suffix w

-- entry L-1 is the start of the ring made of the prefix of length L alone (01)
unfoldable pub start_table : List ℕ → List ℕ
start_table w = of_prefixes start w
