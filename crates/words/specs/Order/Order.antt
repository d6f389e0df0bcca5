-- The order of words (01, "Words are ordered as in source documents 000 and 001").
-- Assumes nothing.
use Rattle.std.specs.Prelude.{◌≡◌, Bool, true, false, cond, List, [], ◌∷◌, ◌++◌, ℕ, ◌<◌, ltb, eqb, length}

infix 20 ◌≺◌ ◌≪◌ ◌≼◌
-- u comes before v: a proper prefix comes first, otherwise the first differing letter decides (01, the same words)
pub data ◌≺◌ : List ℕ → List ℕ → Type 0 where
  ends : {b : ℕ} {v : List ℕ} → [] ≺ (b ∷ v)
  letter : {a b : ℕ} {u v : List ℕ} → a < b → (a ∷ u) ≺ (b ∷ v)
  next : {a b : ℕ} {u v : List ℕ} → a ≡ b → u ≺ v → (a ∷ u) ≺ (b ∷ v)

-- the order as it is published: y is x z with z nonempty, or x = r a s and y = r b t with a < b (000 and 001, section 2)
pub data Published (x y : List ℕ) : Type 0 where
  longer : (z : List ℕ) → 0 < length z → y ≡ x ++ z → Published x y
  differs : (r s t : List ℕ) (a b : ℕ) → a < b → x ≡ r ++ (a ∷ s) → y ≡ r ++ (b ∷ t) → Published x y

-- u comes before v and is no prefix of it: a letter decides (000, section 2)
pub data ◌≪◌ : List ℕ → List ℕ → Type 0 where
  here : {a b : ℕ} {u v : List ℕ} → a < b → (a ∷ u) ≪ (b ∷ v)
  later : {a b : ℕ} {u v : List ℕ} → a ≡ b → u ≪ v → (a ∷ u) ≪ (b ∷ v)

-- u is no greater than v
abbrev pub ◌≼◌ : List ℕ → List ℕ → Type 0
u ≼ v = v ≺ u → ⊥

-- ≺ as a test
abbrev pub before : List ℕ → List ℕ → Bool
before u [] = false
before [] (b ∷ v) = true
before (a ∷ u) (b ∷ v) = cond (ltb a b) true (cond (eqb a b) (before u v) false)
