-- Decimal digits: how many there are, and how a loop writes them from the last to the first.
-- Assumes nothing.
use mathlib.Core.Path.{◌≡◌, refl, ap, ◌∙◌}
use mathlib.Core.List.{List, [], ◌∷◌, ◌++◌, append_assoc}
use Prim.Native.Nat.{ℕ, zero, suc, ◌≤◌, ◌<◌, ◌+◌, ◌/◌, ◌%◌}
use native.Mathlib.Omega.{arith}
use native.Mathlib.Nat.{mod-eq_of_lt}
use borrow.Author.Tests.{lt-ltb, le-ltb}
use lib.ListN.{length, take, drop, set, length-append, length-set}
use lib.Seq.{set_split, drop_at, length-take-le}
use Rattle.report.specs.Decimal.{digit, digits, padded}

pub length-padded : (k x : ℕ) → length (padded k x) ≡ k
length-padded zero x = refl
length-padded (suc k) x = rw (length-append, length-padded k (x / 10)) (omega arith)

pub one_digit : (f x : ℕ) → x < 10 → digits (suc f) x ≡ padded 1 x
one_digit f x h = rw (lt-ltb x 10 h, mod-eq_of_lt h)

pub more_digits : (f k x : ℕ) → 10 ≤ x → digits f (x / 10) ≡ padded k (x / 10) → digits (suc f) x ≡ padded (suc k) x
more_digits f k x h e = rw (le-ltb x 10 h, e)

-- ---- digits written from the last to the first: i of k are left, and `rest` holds them

pub record Backward (t : List ℕ) (x k i rest : ℕ) : Type 0 where
  pub same : padded k x ≡ padded i rest ++ drop i t
  pub within : i ≤ k
  pub size : length t ≡ k

after-set : (t : List ℕ) (j v : ℕ) → j < length t → drop j (set t j v) ≡ v ∷ drop (suc j) t
after-set t j v h = ap (drop j) (set_split t j v h) ∙ drop_at (take j t) (v ∷ drop (suc j) t) j (length-take-le j t (omega arith))

module _ (t : List ℕ) (x k i rest : ℕ) (b : Backward t x k i rest) where
  pub backward_one : (j : ℕ) → suc j ≡ i → Backward (set t j (48 + rest % 10)) x k j (rest / 10)
  backward_one j e = record {
    same = b.same ∙ rw (← e, after-set t j (48 + rest % 10) (omega (arith, b.within, b.size))) (append_assoc (padded j (rest / 10)) (digit (rest % 10) ∷ []) (drop (suc j) t));
    within = omega (arith, b.within);
    size = length-set t j (48 + rest % 10) ∙ b.size;
  }
