-- A first factor found letter by letter (001, section 2): a Lyndon word that stands over and over, and what the search knows of it.
-- Assumes nothing.
use Rattle.std.specs.Prelude.{◌≡◌, List, ◌∷◌, ◌++◌, ℕ, ◌≤◌, ◌<◌, ◌+◌, ◌-◌, length, take, get_or}
use Rattle.words.specs.Factors.Lyndon.{Lyndon}

-- v is u over and over, the last time in part, and then u goes on with the letter b
pub data Over (u : List ℕ) : List ℕ → ℕ → Type 0 where
  part : {v : List ℕ} {b : ℕ} (s : List ℕ) → u ≡ v ++ (b ∷ s) → Over u v b
  again : {v : List ℕ} {b : ℕ} → Over u v b → Over u (u ++ v) b

-- j letters are read, and the letter k is expected next; j - k is the length of the Lyndon word that they repeat
pub record Scan (s : List ℕ) (j k : ℕ) : Type 0 where
  pub order : k < j
  pub inside : j ≤ length s
  pub word : Lyndon (take (j - k) s)
  pub over : Over (take (j - k) s) (take k s) (get_or s k 0)
  pub made : take j s ≡ take (j - k) s ++ take k s

-- the first factor has length p: the scan that found it has read j letters, and ended there or met a letter less than the one expected
pub record FirstFactor (s : List ℕ) (p j k : ℕ) : Type 0 where
  pub size : j ≡ k + p
  pub scan : Scan s j k
  pub stops : j < length s → get_or s j 0 < get_or s k 0
