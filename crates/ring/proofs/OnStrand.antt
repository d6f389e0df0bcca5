-- A ring on a strand, read where it stands: its letters one by one and round the ring, its parts, and two readings each on its strand.
-- Assumes nothing.
use mathlib.Core.Path.{◌≡◌, sym, ap, ◌∙◌}
use mathlib.Core.List.{List, ◌++◌}
use Prim.Native.Nat.{ℕ, ◌≤◌, ◌<◌, ◌-◌}
use native.Mathlib.Omega.{arith}
use borrow.Author.Tests.{eq-eqb, ne_eqb}
use lib.Dec.{eqb}
use lib.ListN.{length, take, drop, get_or, length-drop, take-append-drop}
use lib.Seq.{take_at, drop_at, take_all}
use Rattle.words.specs.Keys.Facing.{facing}
use Rattle.words.specs.Keys.Strand.{opposite, on_strand}
use Rattle.words.proofs.Order.Search.{by_test}
use Rattle.words.proofs.Keys.Facing.{facing_twice}
use Rattle.words.proofs.Keys.Strand.{length-opposite, length-strand, opposite_at, opposite-append}
use Rattle.ring.specs.OnStrand.{place_on, shown_on}

-- letters that are read alike on a strand are alike
shown_one : (s a b : ℕ) → shown_on s a ≡ shown_on s b → a ≡ b
shown_one s a b =
    by_test (eqb s 1) (λ t. rw t (λ e. sym (facing_twice a) ∙ ap facing e ∙ facing_twice b)) (λ t. rw t (λ e. e))

module _ (s : ℕ) (w : List ℕ) where
  on_opposite : s ≡ 1 → on_strand s w ≡ opposite w
  on_opposite q = rw (eq-eqb s 1 q)

  on_own : (s ≡ 1 → ⊥) → on_strand s w ≡ w
  on_own q = rw (ne_eqb s 1 q)

  -- ---- a letter

  pub at_opposite : s ≡ 1 → (i : ℕ) → i < length w → get_or (on_strand s w) i 0 ≡ facing (get_or w (length w - 1 - i) 0)
  at_opposite q i h = rw (on_opposite q) (opposite_at w i h)

  at_shown : (i p : ℕ) → i < length w → p ≡ place_on s (length w) i → get_or (on_strand s w) i 0 ≡ shown_on s (get_or w p 0)
  at_shown i p h e = by_test (eqb s 1) (λ t. rw (e, t) (opposite_at w i h)) (λ t. rw (e, t))

  -- two letters compared where they stand, at p and q in the ring
  module _ (j k p q : ℕ) (h : j < length w) (l : k < length w) (e : p ≡ place_on s (length w) j) (f : q ≡ place_on s (length w) k) where
    pub alike : get_or w p 0 ≡ get_or w q 0 → get_or (on_strand s w) k 0 ≡ get_or (on_strand s w) j 0
    alike g = at_shown k q l f ∙ ap (shown_on s) (sym g) ∙ sym (at_shown j p h e)

    module _ (a b : ℕ) (x : a ≡ shown_on s (get_or w p 0)) (y : b ≡ shown_on s (get_or w q 0)) where
      pub less : a < b → get_or (on_strand s w) j 0 < get_or (on_strand s w) k 0
      less m = rw (at_shown j p h e, at_shown k q l f, ← x, ← y) m

      pub more : (get_or w p 0 ≡ get_or w q 0 → ⊥) → b ≤ a → get_or (on_strand s w) k 0 < get_or (on_strand s w) j 0
      more n m =
          let d : a ≡ b → ⊥ = λ z. n (shown_one s _ _ (sym x ∙ z ∙ y)) in
          rw (at_shown j p h e, at_shown k q l f, ← x, ← y) (omega arith)

  -- ---- the letters from m on, and those before m

  module _ (m : ℕ) (h : m ≤ length w) where
    abbrev end : ℕ
    end = length w - m

    parted : opposite w ≡ opposite (drop end w) ++ opposite (take end w)
    parted = ap opposite (sym (take-append-drop end w)) ∙ opposite-append (take end w) (drop end w)

    length_parted : length (opposite (drop end w)) ≡ m
    length_parted = length-opposite (drop end w) ∙ length-drop end w ∙ omega arith

    pub back_opposite : s ≡ 1 → on_strand s (take end w) ≡ drop m (on_strand s w)
    back_opposite q = rw (eq-eqb s 1 q, parted) (sym (drop_at (opposite (drop end w)) (opposite (take end w)) m length_parted))

    pub back_own : (s ≡ 1 → ⊥) → on_strand s (take end (drop m w)) ≡ drop m (on_strand s w)
    back_own q = rw (ne_eqb s 1 q) (take_all end (drop m w) (omega (arith, length-drop m w)))

    pub front_opposite : s ≡ 1 → on_strand s (take (length w - end) (drop end w)) ≡ take m (on_strand s w)
    front_opposite q =
        rw (eq-eqb s 1 q, parted, take_all (length w - end) (drop end w) (omega (arith, length-drop end w)))
        (sym (take_at (opposite (drop end w)) (opposite (take end w)) m length_parted))

    pub front_own : (s ≡ 1 → ⊥) → on_strand s (take m w) ≡ take m (on_strand s w)
    front_own q = rw (ne_eqb s 1 q)

-- a ring and what is seen of it on a strand have as many letters
pub seen_size : (s : ℕ) (w v : List ℕ) → on_strand s w ≡ v → length w ≡ length v
seen_size s w v e = sym (length-strand s w) ∙ ap length e

-- ---- two letters of what is seen on a strand, by where they stand in the ring

module _ (s : ℕ) (w v : List ℕ) (e : on_strand s w ≡ v) (j k p q : ℕ) (h : j < length v) (l : k < length v)
    (x : p ≡ place_on s (length w) j) (y : q ≡ place_on s (length w) k) where
  pub seen_alike : get_or w p 0 ≡ get_or w q 0 → get_or v j 0 ≡ get_or v k 0
  seen_alike g =
      let n = seen_size s w v e in
      rw e at (sym (alike s w j k p q (omega arith) (omega arith) x y g))

  pub seen_shown : (shown_on s (get_or w p 0) ≡ get_or v j 0) × (shown_on s (get_or w q 0) ≡ get_or v k 0)
  seen_shown =
      let n = seen_size s w v e in
      (rw e at (sym (at_shown s w j p (omega arith) x)), rw e at (sym (at_shown s w k q (omega arith) y)))
