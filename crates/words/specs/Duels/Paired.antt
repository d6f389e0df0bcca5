-- Two readings pair by pair: how far their letters agree.
-- Assumes nothing.
use Rattle.std.specs.Prelude.{◌≡◌, List, ℕ, ◌≤◌, ◌<◌, ◌+◌, length}
use Rattle.words.specs.Rings.Ring.{around}

-- the letters of u from p on and of v from q on agree below k
abbrev pub Paired : List ℕ → List ℕ → ℕ → ℕ → ℕ → Type 0
Paired u v p q k = (j : ℕ) → j < k → around u (p + j) ≡ around v (q + j)

-- where a scan of the pairs ends: at the first differing pair, or after n equal ones
pub record Met (u v : List ℕ) (p q k : ℕ) : Type 0 where
  pub within : k ≤ length u
  pub agree : Paired u v p q k
  pub differs : k < length u → around u (p + k) ≡ around v (q + k) → ⊥
