-- The factor route: the factor whose reading is lowest, the first of several, begins at the start of the ring.
-- Assumes nothing.
use mathlib.Core.Path.{◌≡◌, sym, ap, ◌∙◌}
use mathlib.Core.Logic.{◌⊎◌, inl, inr}
use mathlib.Core.List.{List, [], ◌∷◌, ◌++◌}
use Prim.Native.Nat.{ℕ, ◌≤◌, ◌<◌, ◌+◌, ◌-◌}
use native.Mathlib.Omega.{arith}
use native.Mathlib.Nat.{eq-or-lt_of_le, zero-add}
use lib.ListN.{length, drop, length-append, length-drop}
use lib.Seq.{drop-drop, drop-append-le, drop-append_seam}
use Rattle.words.specs.Order.Order.{◌≺◌}
use Rattle.words.specs.Order.Least.{better, lowest_of}
use Rattle.words.specs.Rings.Ring.{IsStart, reading, start}
use Rattle.words.specs.Factors.Lyndon.{Lyndon}
use Rattle.words.specs.Factors.Factor.{flat, Under, IsFactors, factors, firsts, factor_table, lowest_entry}
use Rattle.words.proofs.Order.Order.{decided, decided_more}
use Rattle.words.proofs.Order.Search.{either, lt_or_ge}
use Rattle.words.proofs.Rings.Ring.{better_old, better_new, better_either, start_is, least_strict}
use Rattle.words.proofs.Factors.Factor.{factors_are}
use Rattle.words.proofs.Factors.Lyndon.{word_below}

-- a reading that begins inside a Lyndon word is greater than the one that begins where that word does
pub inside : (w f r : List ℕ) (at j : ℕ) → drop at w ≡ f ++ r → Lyndon f → 0 < j → j < length f → reading w at ≺ reading w (at + j)
unfolding reading
inside w f r at j e y p l =
    rw (← drop-drop j at w, e, drop-append-le j f r (omega arith))
    (decided (decided_more _ _ (word_below j _ _ y p l)))

module _ (w : List ℕ) (s : ℕ) (i : IsStart w s) where
  pub past : (f r : List ℕ) (at : ℕ) → drop at w ≡ f ++ r → Lyndon f → at < s → at + length f ≤ s
  past f r at e y l =
      either (lt_or_ge s (at + length f))
      (λ m. let d : at + (s - at) ≡ s = omega arith in
      absurd (i.lowest at (omega (arith, i.within)) (rw d at (inside w f r at (s - at) e y (omega arith) (omega arith)))))
      (λ m. m)

  here : (f r : List ℕ) (at : ℕ) → drop at w ≡ f ++ r → Lyndon f → at < length w
  here f r at e y = omega (arith, y.some, length-drop at w, simp length-append at (ap length e))

  next : (f r : List ℕ) (at b : ℕ) → drop at w ≡ f ++ r → Lyndon f → (b ≡ s) ⊎ ((b < s) × (at ≤ s))
      → (better (reading w) at b ≡ s) ⊎ ((better (reading w) at b < s) × (at + length f ≤ s))
  next f r at b e y (inl q) = inl (better_old (reading w) at b (rw q (i.lowest at (here f r at e y))) ∙ q)
  next f r at b e y (inr q) =
      either (eq-or-lt_of_le q.1) (λ d. inl (better_new (reading w) at b (rw d (least_strict (reading w) (length w) s b i q.0)) ∙ d))
      (λ l. inr (better_either (λ k. k < s) (reading w) at b l q.0, past f r at e y l))

  along : (c : List ℕ) (fs : List (List ℕ)) (at b : ℕ) → Under c fs → drop at w ≡ flat fs → (b ≡ s) ⊎ ((b < s) × (at ≤ s))
      → lowest_of (reading w) b (firsts at fs) ≡ s
  along c [] at b u e (inl q) = q
  along c [] at b u e (inr q) = absurd (omega (arith, ap length e, length-drop at w, i.within))
  along c (f ∷ fs) at b u e g =
      along f fs (at + length f) (better (reading w) at b) u.2 (rw (← drop-drop (length f) at w, e, drop-append_seam)) (next f (flat fs) at b e u.0 g)

  along_all : (fs : List (List ℕ)) → IsFactors w fs → lowest_entry w (firsts 0 fs) ≡ s
  along_all [] p = absurd (omega (arith, ap length p.whole, i.within))
  along_all (f ∷ fs) p =
      along f fs (0 + length f) 0 p.falling.1 (rw (zero-add, ← p.whole, drop-append_seam))
      (either (eq-or-lt_of_le {n = 0} {m = s} (omega arith)) inl (λ l. inr (l, past f (flat fs) 0 (sym p.whole) p.falling.0 l)))

pub route_is : (w : List ℕ) → 0 < length w → lowest_entry w (factor_table w) ≡ start w
unfolding factor_table
route_is w h = along_all w (start w) (start_is w h) (factors w) (factors_are w)
