-- Searches over numbers by a test, and the values of a function in a row.
-- Assumes nothing.
use Rattle.std.specs.Prelude.{Bool, true, false, cond, List, [], ◌∷◌, ◌++◌, ℕ, zero, suc}

-- the test passes at each number below n
abbrev pub every : (ℕ → Bool) → ℕ → Bool
every t zero = true
every t (suc n) = cond (t n) (every t n) false

-- the greatest number from 1 to n that passes, or 0
abbrev pub greatest : (ℕ → Bool) → ℕ → ℕ
greatest t zero = 0
greatest t (suc n) = cond (t (suc n)) (suc n) (greatest t n)

-- the first number that passes, of the m numbers from k on, or k + m
abbrev pub seek : (ℕ → Bool) → ℕ → ℕ → ℕ
seek t zero k = k
seek t (suc m) k = cond (t k) k (seek t m (suc k))

-- f of the numbers below n, in their order
abbrev pub tabled : (ℕ → ℕ) → ℕ → List ℕ
tabled f zero = []
tabled f (suc n) = tabled f n ++ (f n ∷ [])
