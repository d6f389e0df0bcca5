-- What a duel says of the lowest positions, and where its two positions go.
-- Assumes nothing.
use mathlib.Core.Path.{◌≡◌, refl, sym}
use mathlib.Core.Logic.{◌⊎◌, inl, inr}
use mathlib.Core.Bool.{false, not}
use mathlib.Core.List.{List}
use Prim.Native.Nat.{ℕ, ◌≤◌, ◌<◌, ◌+◌, ◌-◌, ◌%◌}
use native.Mathlib.Omega.{arith}
use native.Mathlib.Nat.{mod-lt, add_assoc, zero-add, eq-or-lt_of_le}
use borrow.Author.Tests.{eqb-true, eqb-false, eq-eqb, ne_eqb, lt-ltb, le-ltb, ltb-true, ltb-false, not-true, not-false}
use lib.Dec.{ltb, eqb}
use lib.ListN.{length}
use Rattle.words.specs.Rings.Ring.{around, Lowest}
use Rattle.words.specs.Duels.Paired.{Paired}
use Rattle.words.specs.Duels.Duel.{meet, forward, lower, upper, moved_p, moved_q}
use Rattle.words.proofs.Order.Search.{by_test, either, lt_or_ge, seek_is, seek_finds}
use Rattle.words.proofs.Duels.Paired.{paired_below}
use Rattle.words.proofs.Rings.Turn.{around_mod}

module _ (w : List ℕ) (p q k : ℕ) (h : k < length w) (m : Paired w w p q k) (l : around w (q + k) < around w (p + k)) where
  -- p has the greater letter at k: none of p to p + k is lowest
  beaten : (s j : ℕ) → Lowest w s → j ≤ k → p + j ≡ s → ⊥
  beaten s j i x e =
      let z : 0 < length w = omega arith in
      let a : q + j + (k - j) ≡ q + k = omega arith in
      let b : p + j + (k - j) ≡ p + k = omega arith in
      i.least ((q + j) % length w) (mod-lt (q + j) z)
      (rw (← e)
      (paired_below w w ((q + j) % length w) (p + j) (k - j) refl (omega (arith, mod-lt (q + j) z)) (omega (arith, i.within)) (omega arith)
      (λ n y. rw (around_mod w (q + j) n, add_assoc q j n, add_assoc p j n) (sym (m (j + n) (omega arith))))
      (rw (around_mod w (q + j) (k - j), a, b) l)))

  pub cleared : (s : ℕ) → Lowest w s → (s < p) ⊎ (p + k < s)
  cleared s i = either (lt_or_ge s p) inl (λ x. either (lt_or_ge (p + k) s) inr (λ y. absurd (beaten s (s - p) i (omega arith) (omega arith))))

-- ---- where the letters first differ

pub meet_is : (w : List ℕ) (p q k : ℕ) → k ≤ length w → Paired w w p q k → (k < length w → around w (p + k) ≡ around w (q + k) → ⊥) → meet w p q ≡ k
unfolding meet
meet_is w p q k h a d =
    seek_is (λ k. not (eqb (around w (p + k)) (around w (q + k)))) (length w) 0 k (omega arith) (omega arith)
    (λ j x y. rw (eq-eqb _ _ (a j y))) (λ x. rw (ne_eqb _ _ (d (omega arith))))

pub meet_same : (w : List ℕ) (p q : ℕ) → Paired w w p q (meet w p q)
unfolding meet
meet_same w p q j h = eqb-true _ _ (not-false _ ((seek_finds (λ k. not (eqb (around w (p + k)) (around w (q + k)))) (length w) 0).fails j (omega arith) h))

pub meet_differs : (w : List ℕ) (p q : ℕ) → meet w p q < length w → around w (p + meet w p q) ≡ around w (q + meet w p q) → ⊥
unfolding meet
meet_differs w p q h = eqb-false _ _ (not-true _ ((seek_finds (λ k. not (eqb (around w (p + k)) (around w (q + k)))) (length w) 0).passes (rw zero-add h)))

-- ---- where p and q stand after step 4, from x and y

pub record Settled (x y p q : ℕ) : Type 0 where
  pub order : p < q
  pub grown : x + y ≤ p + q
  pub between : (s : ℕ) → x ≤ s → y ≤ s → (s ≡ p) ⊎ (q ≤ s)
  pub stays : x < y → p ≡ x

pub settled : (x y : ℕ) → Settled x y (lower x y) (upper x y)
unfolding lower upper
settled x y =
    by_test (eqb x y)
    (λ e. let q : x ≡ y = eqb-true x y e in
    let f : ltb y x ≡ false = le-ltb y x (omega arith) in
    rw (e, f) (record { order = omega arith; grown = omega arith; between = λ s a b. either (eq-or-lt_of_le a) (λ c. inl (sym c)) (λ c. inr (omega arith)); stays = λ h. refl }))
    (λ e. let d : x ≡ y → ⊥ = eqb-false x y e in
    by_test (ltb y x)
    (λ t. let l : y < x = ltb-true y x t in rw (e, t) (record { order = l; grown = omega arith; between = λ s a b. inr a; stays = λ h. omega arith }))
    (λ t. let l : x ≤ y = ltb-false y x t in rw (e, t) (record { order = omega arith; grown = omega arith; between = λ s a b. inr b; stays = λ h. refl })))

-- ---- step 4 as code does it: x and y are where p and q have moved to

pub forward_on : (a b p k : ℕ) → b < a → p + (k + 1) ≡ forward a b p k
unfolding forward
forward_on a b p k h = rw (lt-ltb b a h)

pub forward_off : (a b p k : ℕ) → a ≤ b → p ≡ forward a b p k
unfolding forward
forward_off a b p k h = rw (le-ltb b a h)

module _ (p q k a b x y : ℕ) (e : x ≡ forward a b p k) (f : y ≡ forward b a q k) where
  pub moved_same : x ≡ y → (x ≡ moved_p p q k a b) × (y + 1 ≡ moved_q p q k a b)
  unfolding lower upper
  moved_same h = rw (← e, ← f, eq-eqb x y h, le-ltb y x (omega arith)) (refl, refl)

  pub moved_past : y < x → (y ≡ moved_p p q k a b) × (x ≡ moved_q p q k a b)
  unfolding lower upper
  moved_past h = rw (← e, ← f, ne_eqb x y (omega arith), lt-ltb y x h) (refl, refl)

  pub moved_short : x < y → (x ≡ moved_p p q k a b) × (y ≡ moved_q p q k a b)
  unfolding lower upper
  moved_short h = rw (← e, ← f, ne_eqb x y (omega arith), le-ltb y x (omega arith)) (refl, refl)
