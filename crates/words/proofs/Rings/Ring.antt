-- The least of a family of words; the start.
-- Assumes nothing.
use mathlib.Core.Path.{◌≡◌, refl, subst}
use mathlib.Core.Bool.{Bool, true, false, cond}
use mathlib.Core.List.{List}
use Prim.Native.Nat.{ℕ, zero, suc, ◌<◌, ◌-◌}
use native.Mathlib.Omega.{arith}
use lib.ListN.{length}
use Rattle.words.proofs.Order.Search.{up_to, by_test, either}
use Rattle.words.specs.Order.Order.{◌≺◌, ◌≼◌, before}
use Rattle.words.specs.Order.Least.{IsLeast, better, least}
use Rattle.words.specs.Rings.Ring.{IsStart, reading, start, Lowest}
use Rattle.words.proofs.Order.Order.{before_true, before_false, before_less, before_no, irrefl, lt_le, lt_of_lt_le, lt_of_le_lt, le_trans, le_or}

pub better_new : (f : ℕ → List ℕ) (c b : ℕ) → f c ≺ f b → better f c b ≡ c
better_new f c b h = rw (before_true h)

pub better_old : (f : ℕ → List ℕ) (c b : ℕ) → f b ≼ f c → better f c b ≡ b
better_old f c b h = rw (before_false (f c) (f b) h)

pub better_either : (P : ℕ → Type 0) (f : ℕ → List ℕ) (c b : ℕ) → P c → P b → P (better f c b)
better_either P f c b x y = by_test (before (f c) (f b)) (λ e. rw e x) (λ e. rw e y)

pub least_one : (f : ℕ → List ℕ) (n i j : ℕ) → IsLeast f n i → IsLeast f n j → i ≡ j
least_one f n i j p q = omega (arith, p.first j q.within q.lowest, q.first i p.within p.lowest)

least_zero : (f : ℕ → List ℕ) → IsLeast f 1 0
least_zero f = record { within = omega arith; lowest = λ j h. rw (let e : j ≡ 0 = omega arith in e) irrefl; first = λ j h l. omega arith }

least_step : (f : ℕ → List ℕ) (k b : ℕ) (t : Bool) → before (f (suc k)) (f b) ≡ t → IsLeast f (suc k) b → IsLeast f (suc (suc k)) (cond t (suc k) b)
least_step f k b true e p =
    let l : f (suc k) ≺ f b = before_less (f (suc k)) (f b) e in
    record {
      within = omega arith;
      lowest = up_to (λ j. f (suc k) ≼ f j) (suc k) (λ j h. lt_le (lt_of_lt_le l (p.lowest j h))) irrefl;
      first = up_to _ (suc k) (λ j h m. absurd (p.lowest j h (lt_of_le_lt (m (suc k) (omega arith)) l))) (λ m. omega arith);
    }
least_step f k b false e p = record {
  within = omega (arith, p.within);
  lowest = up_to (λ j. f b ≼ f j) (suc k) p.lowest (before_no e);
  first = up_to _ (suc k) (λ j h m. p.first j h (λ i l. m i (omega arith))) (λ m. omega (arith, p.within));
}

pub least_is : (f : ℕ → List ℕ) (k : ℕ) → IsLeast f (suc k) (least f k)
least_is f zero = least_zero f
least_is f (suc k) = least_step f k (least f k) _ refl (least_is f k)

-- what stands before the least is greater
pub least_strict : (f : ℕ → List ℕ) (n i j : ℕ) → IsLeast f n i → j < i → f i ≺ f j
least_strict f n i j p h =
    either (le_or (f i) (f j)) (λ l. l)
    (λ l. absurd (omega (arith, p.first j (omega (arith, p.within)) (λ k m. le_trans l (p.lowest k m)))))

pub least_below : (f : ℕ → List ℕ) (n : ℕ) → 0 < n → IsLeast f n (least f (n - 1))
least_below f n h = subst (λ m. IsLeast f m (least f (n - 1))) (let e : suc (n - 1) ≡ n = omega arith in e) (least_is f (n - 1))

pub start_is : (w : List ℕ) → 0 < length w → IsStart w (start w)
unfolding start
start_is w h = least_below (reading w) (length w) h

pub start-lowest : {w : List ℕ} {i : ℕ} → IsStart w i → Lowest w i
start-lowest p = record { within = p.within; least = p.lowest }

pub start_one : (w : List ℕ) (i : ℕ) → IsStart w i → i ≡ start w
start_one w i p = least_one _ _ _ _ p (start_is w (omega (arith, p.within)))
