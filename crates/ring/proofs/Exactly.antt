-- Which rule answered: the first of the order 6, 1, 2, 3, 4 that holds; what a verdict of Taken says.
-- Assumes nothing.
use mathlib.Core.Path.{◌≡◌, refl, sym, ap, ◌∙◌}
use mathlib.Core.Bool.{Bool, true, false, true≢false}
use mathlib.Core.List.{List, [], ◌∷◌}
use Prim.Native.Nat.{ℕ, zero, suc, ◌≤◌, ◌<◌}
use native.Mathlib.Omega.{arith}
use borrow.Author.Tests.{eqb-true, le-ltb}
use lib.ListN.{length, get_or}
use Rattle.words.specs.Keys.Kind.{known, is_letter}
use Rattle.words.proofs.Order.Search.{by_test, either, lt_or_ge}
use Rattle.ring.specs.Verdict.{Verdict}
use Rattle.ring.specs.Verdict.{Taken, Kind, Empty, Long, Letter, Short, NotKey}
use Rattle.ring.specs.Judging.{most, first_bad, Permitted, number_of, place_of, taken, verdict, Given, unknown, none, many, letter, lacking, done}
use Rattle.ring.specs.Answers.{fewer}
use Rattle.ring.proofs.Judging.{says_kind, says_empty, says_long, says_letter, says_short, says_taken}

-- ---- the first position that has no letter

pub bad_here : (kind : ℕ) (w : List ℕ) → first_bad kind w < length w → is_letter kind (get_or w (first_bad kind w) 0) ≡ false
bad_here kind [] h = absurd (omega arith)
bad_here kind (a ∷ w) h =
    by_test (is_letter kind a)
    (λ t. let k : suc (first_bad kind w) < suc (length w) = rw t at h in rw t (bad_here kind w (omega arith))) (λ t. rw t t)

pub good_before : (kind : ℕ) (w : List ℕ) (i : ℕ) → i < first_bad kind w → is_letter kind (get_or w i 0) ≡ true
good_before kind [] i h = absurd (omega arith)
good_before kind (a ∷ w) zero h =
    by_test (is_letter kind a) (λ t. t) (λ t. absurd (let k : 0 < 0 = rw t at h in omega arith))
good_before kind (a ∷ w) (suc i) h =
    by_test (is_letter kind a)
    (λ t. let k : suc i < suc (first_bad kind w) = rw t at h in good_before kind w i (omega arith))
    (λ t. absurd (let k : suc i < 0 = rw t at h in omega arith))

pub good_all : (kind : ℕ) (w : List ℕ) → ((i : ℕ) → i < length w → is_letter kind (get_or w i 0) ≡ true) → length w ≤ first_bad kind w
good_all kind w l =
    either (lt_or_ge (first_bad kind w) (length w)) (λ h. absurd (true≢false (sym (l _ h) ∙ bad_here kind w h))) (λ h. h)

pub good_at : (kind : ℕ) (w : List ℕ) → length w ≤ first_bad kind w → (i : ℕ) → i < length w → is_letter kind (get_or w i 0) ≡ true
good_at kind w h i l = good_before kind w i (omega arith)

-- a position that has no letter, and letters before it, is the first
pub bad_is : (kind : ℕ) (w : List ℕ) (i : ℕ) → i < length w → is_letter kind (get_or w i 0) ≡ false
    → ((j : ℕ) → j < i → is_letter kind (get_or w j 0) ≡ true) → first_bad kind w ≡ i
bad_is kind w i h b g =
    either (lt_or_ge (first_bad kind w) i) (λ l. absurd (true≢false (sym (g _ l) ∙ bad_here kind w (omega arith))))
    (λ l. either (lt_or_ge i (first_bad kind w)) (λ m. absurd (true≢false (sym (good_before kind w i m) ∙ b))) (λ m. omega arith))

-- 0 is the number of Taken alone
pub number_taken : (v : Verdict) → number_of v ≡ 0 → v ≡ Taken
number_taken Taken e = refl
number_taken Kind e = absurd (omega arith)
number_taken Empty e = absurd (omega arith)
number_taken Long e = absurd (omega arith)
number_taken (Letter i) e = absurd (omega arith)
number_taken Short e = absurd (omega arith)
number_taken NotKey e = absurd (omega arith)

pub taken_is : (v : Verdict) → taken v ≡ true → v ≡ Taken
taken_is v e = number_taken v (eqb-true (number_of v) 0 e)

-- ---- which rule answered

permitted : (kind : ℕ) (w : List ℕ) → known kind ≡ true → 0 < length w → length w ≤ most → length w ≤ first_bad kind w → Permitted kind w
permitted kind w k p m f = record { kinds = k; some = p; within = m; letters = good_at kind w f }

module _ (kind : ℕ) (w : List ℕ) (short : Bool) where
  abbrev Said : Verdict → Type 0
  Said v = Given kind w (short ≡ true) (number_of v) (place_of v)

  given_long : known kind ≡ true → 0 < length w → Said (verdict kind w short)
  given_long k p =
      let z : length w ≡ 0 → ⊥ = λ e. omega arith in
      either (lt_or_ge most (length w)) (λ h. rw (says_long kind w short k z h) (many k h))
      (λ m. either (lt_or_ge (first_bad kind w) (length w))
      (λ h. rw (says_letter kind w short k z m _ refl h) (letter k m (first_bad kind w) h (bad_here kind w h) (good_before kind w)))
      (λ f. by_test short (λ t. rw (says_short kind w short k z m f t) (lacking (permitted kind w k p m f) t))
      (λ t. rw (says_taken kind w short k z m f t) (done (permitted kind w k p m f) (λ e. true≢false (sym e ∙ t))))))

  -- what is said is given
  pub given : Said (verdict kind w short)
  given =
      by_test (known kind)
      (λ k. either (lt_or_ge 0 (length w)) (given_long k)
      (λ p. let e : length w ≡ 0 = omega arith in rw (says_empty kind w short k e) (none k e)))
      (λ k. rw (says_kind kind w short k) (unknown k))

  -- ---- what is taken

  fits : {k i : ℕ} → Given kind w (short ≡ true) k i → k ≡ 0 → Permitted kind w × (short ≡ false)
  fits (unknown k) e = absurd (omega arith)
  fits (none k l) e = absurd (omega arith)
  fits (many k l) e = absurd (omega arith)
  fits (letter k l i h b g) e = absurd (omega arith)
  fits (lacking p t) e = absurd (omega arith)
  fits (done p n) e = (p, by_test short (λ t. absurd (n t)) (λ t. t))

  -- a call is done only on a permitted ring with room enough
  pub taken_permitted : verdict kind w short ≡ Taken → Permitted kind w × (short ≡ false)
  taken_permitted e = fits given (ap number_of e)

  -- a permitted ring with room enough is taken
  pub permitted_taken : Permitted kind w → short ≡ false → verdict kind w short ≡ Taken
  permitted_taken p e =
      says_taken kind w short p.kinds (λ z. omega (arith, p.some)) p.within (good_all kind w p.letters) e

  -- without room enough it is refused with 4
  pub permitted_short : Permitted kind w → short ≡ true → verdict kind w short ≡ Short
  permitted_short p e =
      says_short kind w short p.kinds (λ z. omega (arith, p.some)) p.within (good_all kind w p.letters) e

-- a table or room of n entries or more is room enough
pub roomed : (kind : ℕ) (w : List ℕ) (size : ℕ) → Permitted kind w → length w ≤ size → verdict kind w (fewer size w) ≡ Taken
roomed kind w size p h = permitted_taken kind w (fewer size w) p (le-ltb size (length w) h)
