-- The least nonempty suffix: how it is known, and that the last factor is it.
-- Assumes nothing.
use mathlib.Core.Path.{◌≡◌, sym, ap, ◌∙◌}
use mathlib.Core.List.{List, [], ◌∷◌, ◌++◌, append-nil}
use Prim.Native.Nat.{ℕ, ◌≤◌, ◌<◌, ◌+◌, ◌-◌}
use native.Mathlib.Omega.{arith}
use lib.ListN.{length, drop, length-drop}
use lib.Seq.{drop-drop, drop-append-le, drop-append_seam}
use Rattle.words.specs.Order.Order.{◌≼◌}
use Rattle.words.specs.Factors.Lyndon.{Lyndon}
use Rattle.words.specs.Factors.Factor.{flat, Under, IsFactors, factors, firsts, factor_table}
use Rattle.words.specs.Suffixes.Prefix.{least_suffix}
use Rattle.words.proofs.Order.Order.{irrefl, le_trans, le_antisym, prefix_le}
use Rattle.words.proofs.Order.Search.{either, lt_or_ge}
use Rattle.words.proofs.Suffixes.Prefix.{least_suffix_is}
use Rattle.words.proofs.Factors.Lyndon.{from_in}
use Rattle.words.proofs.Factors.Factor.{factors_are}

-- the last entry of a table, d if it has none
abbrev pub last_of : ℕ → List ℕ → ℕ
last_of d [] = d
last_of d (i ∷ is) = last_of i is

-- two suffixes that are equal begin at one place
one_place : (w : List ℕ) (i j : ℕ) → i < length w → j < length w → drop i w ≡ drop j w → i ≡ j
one_place w i j h l e = omega (arith, length-drop i w, length-drop j w, ap length e)

-- a suffix that is no greater than any other begins where the least does
pub suffix_is : (w : List ℕ) (t : ℕ) → t < length w → ((j : ℕ) → j < length w → drop t w ≼ drop j w) → least_suffix w ≡ t
suffix_is w t h m = let s = least_suffix_is w (omega arith) in one_place w _ t s.within h (le_antisym (s.lowest t h) (m _ s.within))

module _ (w : List ℕ) where
  -- from at on, p is where the least suffix begins, and that suffix is no greater than f
  record Low (f : List ℕ) (at p : ℕ) : Type 0 where
    from : at ≤ p
    within : p < length w
    under : drop p w ≼ f
    low : (i : ℕ) → at ≤ i → i < length w → drop p w ≼ drop i w

  in_first : (f r : List ℕ) (at i : ℕ) → Lyndon f → drop at w ≡ f ++ r → at ≤ i → i < at + length f → f ≼ drop i w
  in_first f r at i y e h l =
      let d : at + (i - at) ≡ i = omega arith in
      let q : drop i w ≡ drop (i - at) f ++ r = ap (λ k. drop k w) (sym d) ∙ sym (drop-drop (i - at) at w) ∙ rw (e, drop-append-le (i - at) f r (omega arith)) in
      rw q (le_trans (from_in f (i - at) y (omega arith)) (prefix_le (drop (i - at) f) r))

  low_last : (f : List ℕ) (fs : List (List ℕ)) (at : ℕ) → Lyndon f → Under f fs → drop at w ≡ f ++ flat fs → Low f at (last_of at (firsts (at + length f) fs))
  low_last f [] at y u e =
      let q : drop at w ≡ f = e ∙ append-nil f in
      let l : length w - at ≡ length f = sym (length-drop at w) ∙ ap length q in
      record { from = omega arith; within = omega (arith, y.some); under = rw q irrefl; low = λ i h m. rw q (in_first f [] at i y e h (omega (arith, y.some))) }
  low_last f (g ∷ gs) at y u e =
      let k = low_last g gs (at + length f) u.0 u.2 (sym (drop-drop (length f) at w) ∙ rw (e, drop-append_seam)) in
      record {
        from = omega (arith, k.from);
        within = k.within;
        under = le_trans k.under u.1;
        low = λ i h m. either (lt_or_ge i (at + length f)) (λ l. le_trans (le_trans k.under u.1) (in_first f (flat (g ∷ gs)) at i y e h l)) (λ l. k.low i l m);
      }

  last_of_lem : (fs : List (List ℕ)) → 0 < length w → IsFactors w fs → least_suffix w ≡ last_of 0 (firsts 0 fs)
  last_of_lem [] h p = absurd (omega (arith, ap length p.whole))
  last_of_lem (f ∷ fs) h p = let k = low_last f fs 0 p.falling.0 p.falling.1 (sym p.whole) in suffix_is w _ k.within (λ j l. k.low j (omega arith) l)

pub last_least : (w : List ℕ) → 0 < length w → least_suffix w ≡ last_of 0 (factor_table w)
unfolding factor_table
last_least w h = last_of_lem w (factors w) h (factors_are w)
