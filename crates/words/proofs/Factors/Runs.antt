-- A word that has letters has a first run, whose length and end are determined; the factor table has an entry for each factor, no more than there are letters, and they ascend.
-- Assumes nothing.
use mathlib.Core.Path.{◌≡◌, refl, sym, ap, ◌∙◌}
use mathlib.Core.List.{List, [], ◌∷◌, ◌++◌}
use Prim.Native.Nat.{ℕ, zero, suc, ◌≤◌, ◌<◌, ◌+◌}
use native.Mathlib.Omega.{arith}
use native.Mathlib.Nat.{eq-or-lt_of_le}
use lib.ListN.{length, take, drop, get_or, length-append}
use Rattle.words.specs.Order.Order.{◌≺◌}
use Rattle.words.specs.Factors.Factor.{Under, flat, copies, factors, firsts, factor_table, FirstRun}
use Rattle.words.proofs.Order.Search.{either, lt_or_ge}
use Rattle.words.proofs.Order.Order.{prefix_le}
use Rattle.words.proofs.Factors.Factor.{factors_are, factors_below}
use Rattle.words.proofs.Factors.Scan.{Scan, scan_first, scan_equal, scan_greater, scan_end}

-- a scan goes on to a lesser letter or to the end
run_on : (fuel : ℕ) (s : List ℕ) (j k : ℕ) → Scan s j k → length s ≤ j + fuel → (p : ℕ) × (e : ℕ) × FirstRun s p e
run_on zero s j k a h = (_, _, scan_end s j k a (λ l. absurd (omega arith)))
run_on (suc f) s j k a h =
    either (lt_or_ge j (length s))
    (λ l. either (lt_or_ge (get_or s j 0) (get_or s k 0)) (λ m. (_, _, scan_end s j k a (λ x. m)))
    (λ m. either (eq-or-lt_of_le m) (λ e. run_on f s (j + 1) (k + 1) (scan_equal s j k a l e) (omega arith)) (λ g. run_on f s (j + 1) 0 (scan_greater s j k a l g) (omega arith))))
    (λ l. (_, _, scan_end s j k a (λ x. absurd (omega arith))))

-- a word that has letters has a first run
pub first_run : (s : List ℕ) → 0 < length s → (p : ℕ) × (e : ℕ) × FirstRun s p e
first_run s h = run_on (length s) s 1 0 (scan_first s h) (omega arith)

-- what is less than u does not have u for its first factor
not_first : (u y : List ℕ) → y ≺ u → (fs : List (List ℕ)) → factors y ≡ u ∷ fs → ⊥
not_first u y h fs e = let x : y ≡ u ++ flat fs = sym (factors_are y).whole ∙ ap flat e in prefix_le u (flat fs) (rw x at h)

one_count : (a b : ℕ) (u : List ℕ) (x y : List (List ℕ)) → copies a u ++ x ≡ copies b u ++ y
    → ((fs : List (List ℕ)) → x ≡ u ∷ fs → ⊥) → ((fs : List (List ℕ)) → y ≡ u ∷ fs → ⊥) → a ≡ b
one_count zero zero u x y e f g = refl
one_count zero (suc b) u x y e f g = absurd (f _ e)
one_count (suc a) zero u x y e f g = absurd (g _ (sym e))
one_count (suc a) (suc b) u x y e f g = ap suc (one_count a b u x y (cc) f g)

-- the length and the end of a first run are determined
pub first_run_one : (s : List ℕ) (p e q f : ℕ) → FirstRun s p e → FirstRun s q f → (p ≡ q) × (e ≡ f)
first_run_one s p e q f a b =
    let x : p ≡ q = a.first ∙ sym b.first in
    let u : List ℕ = take p s in
    let y : take q s ≡ u = ap (λ i. take i s) (sym x) in
    let n : a.count ≡ b.count =
    one_count a.count b.count u _ _ (sym a.run ∙ b.run ∙ ap (λ v. copies b.count v ++ factors (drop f s)) y) (not_first u _ a.less) (not_first u _ (rw y at b.less)) in
    (x, sym a.ends ∙ ap (λ c. length (flat (copies c u))) n ∙ ap (λ v. length (flat (copies b.count v))) (sym y) ∙ b.ends)

-- ---- the table has an entry for each factor, and no more than there are letters

length-firsts : (at : ℕ) (fs : List (List ℕ)) → length (firsts at fs) ≡ length fs
length-firsts at [] = refl
length-firsts at (f ∷ fs) = ap suc (length-firsts (at + length f) fs)

pub length-factor_table : (w : List ℕ) → length (factor_table w) ≡ length (factors w)
unfolding factor_table
length-factor_table w = length-firsts 0 (factors w)

few : (at : ℕ) (b : List ℕ) (fs : List (List ℕ)) → Under b fs → length (firsts at fs) ≤ length (flat fs)
few at b [] u = omega arith
few at b (f ∷ fs) u = rw length-append (omega (arith, u.0.some, few (at + length f) f fs u.2))

pub table_few : (w : List ℕ) → length (factor_table w) ≤ length w
unfolding factor_table
table_few w = rw (ap length (factors_are w).whole) at (few 0 w (factors w) (factors_below w))

-- the first positions of words that are not empty ascend
ascend : (at : ℕ) (b : List ℕ) (fs : List (List ℕ)) → Under b fs → (i : ℕ) → suc i < length (firsts at fs) → get_or (firsts at fs) i 0 < get_or (firsts at fs) (suc i) 0
ascend at b [] u i h = absurd (omega arith)
ascend at b (f ∷ []) u i h = absurd (omega arith)
ascend at b (f ∷ g ∷ fs) u zero h = omega (arith, u.0.some)
ascend at b (f ∷ g ∷ fs) u (suc i) h = ascend (at + length f) f (g ∷ fs) u.2 i (omega arith)

pub table_ascends : (w : List ℕ) (i : ℕ) → suc i < length (factor_table w) → get_or (factor_table w) i 0 < get_or (factor_table w) (suc i) 0
unfolding factor_table
table_ascends w = ascend 0 w (factors w) (factors_below w)
