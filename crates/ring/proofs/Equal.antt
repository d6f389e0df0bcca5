-- The test whether two lists are the same, and whether two readings are.
-- Assumes nothing.
use mathlib.Core.Path.{◌≡◌, refl, sym, ◌∙◌}
use mathlib.Core.Bool.{true, false, true≢false}
use mathlib.Core.List.{List, [], ◌∷◌}
use Prim.Native.Nat.{ℕ, ◌≤◌}
use native.Mathlib.Omega.{arith}
use borrow.Author.Tests.{eq-eqb, ne_eqb, eqb-true}
use lib.Dec.{eqb}
use lib.ListN.{length}
use Rattle.words.specs.Rings.Ring.{reading}
use Rattle.words.specs.Duels.Paired.{Met}
use Rattle.words.proofs.Duels.Paired.{same_at, differ_at}
use Rattle.words.proofs.Order.Search.{by_test, both_true}
use Rattle.ring.specs.Answers.{equal}

equal_self : (u : List ℕ) → equal u u ≡ true
equal_self [] = refl
equal_self (a ∷ u) = rw (eq-eqb a a refl) (equal_self u)

pub equal_true : {u v : List ℕ} → u ≡ v → equal u v ≡ true
equal_true {u} {v} e = rw e (equal_self v)

pub equal_same : (u v : List ℕ) → equal u v ≡ true → u ≡ v
equal_same [] [] e = refl
equal_same [] (b ∷ v) e = absurd (true≢false (sym e))
equal_same (a ∷ u) [] e = absurd (true≢false (sym e))
equal_same (a ∷ u) (b ∷ v) e = let p = both_true _ _ e in cc (eqb-true a b p.0, equal_same u v p.1)

pub equal_false : {u v : List ℕ} → (u ≡ v → ⊥) → equal u v ≡ false
equal_false {u} {v} n = by_test (equal u v) (λ t. absurd (n (equal_same u v t))) (λ t. t)

-- two readings are the same just where all their pairs agree
pub equal_met : (u v : List ℕ) (p q k : ℕ) → length u ≡ length v → p ≤ length u → q ≤ length v → Met u v p q k
    → eqb k (length u) ≡ equal (reading u p) (reading v q)
equal_met u v p q k n x y m =
    by_test (equal (reading u p) (reading v q))
    (λ t. rw (t, eq-eqb k (length u) (omega (arith, m.within, differ_at u v p q k n x y m (equal_same _ _ t)))))
    (λ t. rw (t, ne_eqb k (length u) (λ e. true≢false (sym (equal_true (same_at u v p q k n x y m (omega arith))) ∙ t))))
