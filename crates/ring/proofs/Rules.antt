-- Rules in order: where none holds, and what stands behind a refusal.
-- Assumes nothing.
use mathlib.Core.Path.{◌≡◌, refl}
use mathlib.Core.Bool.{false}
use mathlib.Core.List.{List, [], ◌∷◌, ◌++◌}
use Prim.Native.Nat.{ℕ}
use Rattle.words.proofs.Order.Search.{by_test}
use Rattle.ring.specs.Rule.{Rule, judged}

-- no rule of a list holds
abbrev pub Clear : {A : Type 0} → List (Rule A) → Type 0
Clear [] = Unit {0}
Clear (r ∷ rs) = (r.when ≡ false) × Clear rs

-- no rule of a list gives the number k
abbrev pub Never : {A : Type 0} → (A → ℕ) → ℕ → List (Rule A) → Type 0
Never number k [] = Unit {0}
Never number k (r ∷ rs) = (number r.says ≡ k → ⊥) × Never number k rs

module _ {A : Type 0} where
  pub clear_more : (rs more : List (Rule A)) (d : A) → Clear rs → judged (rs ++ more) d ≡ judged more d
  clear_more [] more d c = refl
  clear_more (r ∷ rs) more d c = rw c.0 (clear_more rs more d c.1)

  module _ (number : A → ℕ) (k : ℕ) (d : A) where
    -- a number that no rule gives is given only where none holds
    pub done_clear : (rs : List (Rule A)) → Never number k rs → number (judged rs d) ≡ k → Clear rs
    done_clear [] p e = tt
    done_clear (r ∷ rs) p e = by_test r.when (λ t. absurd (p.0 (rw t at e))) (λ t. (t, done_clear rs p.1 (rw t at e)))

  -- rules behind a refusal change nothing
  pub refused_more : (number : A → ℕ) (rs more : List (Rule A)) (d : A) → (number (judged rs d) ≡ number d → ⊥) → judged (rs ++ more) d ≡ judged rs d
  refused_more number [] more d n = absurd (n refl)
  refused_more number (r ∷ rs) more d n = by_test r.when (λ t. rw t) (λ t. rw t (refused_more number rs more d (λ e. n (rw t e))))
