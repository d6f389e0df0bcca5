-- The factors of a word, the factor table, the factor route (01, "Factors and the two prefix tables", "The two routes to a start").
-- Assumes nothing.
use Rattle.std.specs.Prelude.{◌≡◌, List, [], ◌∷◌, ◌++◌, ℕ, zero, suc, ◌≤◌, ◌+◌, length, take, drop}
use Rattle.words.specs.Order.Order.{◌≺◌, ◌≼◌}
use Rattle.words.specs.Order.Search.{greatest}
use Rattle.words.specs.Factors.Lyndon.{Lyndon, lyndon}
use Rattle.words.specs.Order.Least.{lowest_of}
use Rattle.words.specs.Rings.Ring.{reading}

-- words one behind another
abbrev pub flat : List (List ℕ) → List ℕ
flat [] = []
flat (f ∷ fs) = f ++ flat fs

-- Lyndon words of which none is less than the one after it, and b is not less than the first
abbrev pub Under : List ℕ → List (List ℕ) → Type 0
Under b [] = Unit {0}
Under b (f ∷ fs) = Lyndon f × (f ≼ b) × Under f fs

-- Lyndon words of which none is less than the one after it
abbrev pub Falling : List (List ℕ) → Type 0
Falling [] = Unit {0}
Falling (f ∷ fs) = Lyndon f × Under f fs

-- fs is a division of the letters into Lyndon words of which none is less than the one after it (01; 001, section 2)
pub record IsFactors (w : List ℕ) (fs : List (List ℕ)) : Type 0 where
  pub whole : flat fs ≡ w
  pub falling : Falling fs

-- how long the longest Lyndon word is that is a prefix (01, "The first factor is the longest ..")
unfoldable pub longest : List ℕ → ℕ
longest w = greatest (λ k. lyndon (take k w)) (length w)

-- that word, then what the rest of the letters gives; at most f words
abbrev pub divide : ℕ → List ℕ → List (List ℕ)
divide zero w = []
divide (suc f) [] = []
divide (suc f) (a ∷ w) = take (longest (a ∷ w)) (a ∷ w) ∷ divide f (drop (longest (a ∷ w)) (a ∷ w))

-- the factors (01, "The rest of the letters .. is factored next")
unfoldable pub factors : List ℕ → List (List ℕ)
factors w = divide (length w) w

-- where words begin that stand one behind another from a position on
abbrev pub firsts : ℕ → List (List ℕ) → List ℕ
firsts at [] = []
firsts at (f ∷ fs) = at ∷ firsts (at + length f) fs

-- the factor table holds the factors' first positions, ascending (01)
unfoldable pub factor_table : List ℕ → List ℕ
factor_table w = firsts 0 (factors w)

-- the entry whose reading is lowest among the entries' readings, the first of them if several are equal (01, "The factor route")
abbrev pub lowest_entry : List ℕ → List ℕ → ℕ
lowest_entry w [] = 0
lowest_entry w (i ∷ is) = lowest_of (reading w) i is

-- a word, e times
abbrev pub copies : ℕ → List ℕ → List (List ℕ)
copies zero u = []
copies (suc e) u = u ∷ copies e u

-- the first factor has length p, and the run of factors equal to it ends at position end (001, section 2, x = prev l^e rest)
pub record FirstRun (s : List ℕ) (p end : ℕ) : Type 0 where
  pub first : p ≡ longest s
  pub count : ℕ
  pub ends : length (flat (copies count (take p s))) ≡ end
  pub within : p ≤ end
  pub run : factors s ≡ copies count (take p s) ++ factors (drop end s)
  pub less : drop end s ≺ take p s

-- position s is where a factor begins that is not equal to the one before it (02, request 6)
pub record RunHead (w : List ℕ) (s : ℕ) : Type 0 where
  pub front : List (List ℕ)
  pub word : List ℕ
  pub back : List (List ℕ)
  pub split : factors w ≡ front ++ (word ∷ back)
  pub at : length (flat front) ≡ s
  pub fresh : (fs : List (List ℕ)) → front ≡ fs ++ (word ∷ []) → ⊥
