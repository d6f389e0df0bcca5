-- Cases, what each search over numbers finds, and the entries of a row of values.
-- Assumes nothing.
use mathlib.Core.Path.{◌≡◌, refl, sym, ◌∙◌, subst}
use mathlib.Core.Bool.{Bool, true, false, cond, ◌||◌, true≢false}
use Prim.Native.Nat.{ℕ, zero, suc, ◌≤◌, ◌<◌, ◌+◌}
use native.Mathlib.Omega.{arith}
use native.Mathlib.Nat.{eq-or-lt_of_le}
use mathlib.Core.List.{[], ◌∷◌}
use lib.ListN.{length, get_or, length-append, get_or-append}
use lib.Seq.{get_or_at}
use mathlib.Core.Logic.{◌⊎◌, inl, inr, ⊎_elim}
use Rattle.words.specs.Order.Search.{every, greatest, seek, tabled}

-- what holds below n and at n holds below n + 1
pub up_to : (P : ℕ → Type 0) (n : ℕ) → ((j : ℕ) → j < n → P j) → P n → (j : ℕ) → j < suc n → P j
up_to P n all here j h = ⊎_elim (λ e. subst P (sym e) here) (λ l. all j l) (eq-or-lt_of_le {n = j} {m = n} (omega arith))

pub lt_or_ge : (a b : ℕ) → (a < b) ⊎ (b ≤ a)
lt_or_ge zero zero = inr (omega arith)
lt_or_ge zero (suc b) = inl (omega arith)
lt_or_ge (suc a) zero = inr (omega arith)
lt_or_ge (suc a) (suc b) = ⊎_elim (λ h. inl (omega arith)) (λ h. inr (omega arith)) (lt_or_ge a b)

-- the two cases of a sum, the sum first: the cases' types are known where they are read
pub either : {A B P : Type 0} → A ⊎ B → (A → P) → (B → P) → P
either (inl a) f g = f a
either (inr b) f g = g b

-- one value is promised, so two that are promised are one
pub promised_one : {A : Type 0} {x y z : A} → x ≡ z → y ≡ z → x ≡ y
promised_one p q = p ∙ sym q

-- neither of two tests passes
pub neither : (s t : Bool) → (s || t) ≡ false → (s ≡ false) × (t ≡ false)
neither false t e = (refl, e)
neither true t e = absurd (true≢false e)

-- a test's two cases, each with its equation
pub by_test : {P : Type 0} (t : Bool) → (t ≡ true → P) → (t ≡ false → P) → P
by_test true f g = f refl
by_test false f g = g refl

pub every_at : (t : ℕ → Bool) (n : ℕ) → every t n ≡ true → (i : ℕ) → i < n → t i ≡ true
every_at t zero e i h = absurd (omega arith)
every_at t (suc n) e i h =
    by_test (t n) (λ q. up_to (λ i. t i ≡ true) n (every_at t n (simp q at e)) q i h) (λ q. absurd (true≢false (sym (simp q at e))))

pub every_true : (t : ℕ → Bool) (n : ℕ) → ((i : ℕ) → i < n → t i ≡ true) → every t n ≡ true
every_true t zero h = refl
every_true t (suc n) h = simp (h n (omega arith), every_true t n (λ i l. h i (omega arith)))

-- k is the greatest number from 1 to n that passes
pub greatest_is : (t : ℕ → Bool) (n k : ℕ) → k ≤ n → t k ≡ true → ((j : ℕ) → k < j → j ≤ n → t j ≡ false) → greatest t n ≡ k
greatest_is t zero k h p q = omega arith
greatest_is t (suc n) k h p q =
    ⊎_elim (λ e. rw (← e, p)) (λ l. rw (q (suc n) l (omega arith)) (greatest_is t n k (omega arith) p (λ j x y. q j x (omega arith)))) (eq-or-lt_of_le h)

-- where some number from 1 to n passes, the greatest that passes is no less and passes
pub greatest_passes : (t : ℕ → Bool) (n k : ℕ) → 0 < k → k ≤ n → t k ≡ true → (k ≤ greatest t n) × (t (greatest t n) ≡ true) × (greatest t n ≤ n)
greatest_passes t zero k p h e = absurd (omega arith)
greatest_passes t (suc n) k p h e =
    by_test (t (suc n)) (λ q. rw q (h, q, omega arith))
    (λ q. rw q (⊎_elim (λ d. absurd (true≢false (sym e ∙ rw d q)))
    (λ l. let r = greatest_passes t n k p (omega arith) e in (r.0, r.1, omega (arith, r.2))) (eq-or-lt_of_le h)))

pub seek_is : (t : ℕ → Bool) (m k r : ℕ) → k ≤ r → r ≤ k + m → ((j : ℕ) → k ≤ j → j < r → t j ≡ false) → (r < k + m → t r ≡ true) → seek t m k ≡ r
seek_is t zero k r h l f p = omega arith
seek_is t (suc m) k r h l f p =
    ⊎_elim (λ e. let q : t k ≡ true = rw e (p (omega arith)) in rw q e)
    (λ b. rw (f k (omega arith) b) (seek_is t m (suc k) r b (omega arith) (λ j x y. f j (omega arith) y) (λ x. p (omega arith)))) (eq-or-lt_of_le h)

-- what `seek` finds, of the m numbers from k on
pub record Found (t : ℕ → Bool) (m k r : ℕ) : Type 0 where
  pub from : k ≤ r
  pub upto : r ≤ k + m
  pub fails : (j : ℕ) → k ≤ j → j < r → t j ≡ false
  pub passes : r < k + m → t r ≡ true

found_here : (t : ℕ → Bool) (m k : ℕ) → t k ≡ true → Found t (suc m) k k
found_here t m k q = record { from = omega arith; upto = omega arith; fails = λ j h l. absurd (omega arith); passes = λ h. q }

found_later : (t : ℕ → Bool) (m k r : ℕ) → t k ≡ false → Found t m (suc k) r → Found t (suc m) k r
found_later t m k r q f = record {
  from = omega (arith, f.from);
  upto = omega (arith, f.upto);
  fails = λ j h l. either (eq-or-lt_of_le h) (λ e. rw (← e) q) (λ b. f.fails j b l);
  passes = λ h. f.passes (omega arith);
}

pub seek_finds : (t : ℕ → Bool) (m k : ℕ) → Found t m k (seek t m k)
seek_finds t zero k = record { from = omega arith; upto = omega arith; fails = λ j h l. absurd (omega arith); passes = λ h. absurd (omega arith) }
seek_finds t (suc m) k = by_test (t k) (λ q. rw q (found_here t m k q)) (λ q. rw q (found_later t m k _ q (seek_finds t m (suc k))))

pub found_le : (t : ℕ → Bool) (m k r j : ℕ) → Found t m k r → k ≤ j → t j ≡ true → r ≤ j
found_le t m k r j f h e = either (lt_or_ge j r) (λ l. absurd (true≢false (sym e ∙ f.fails j h l))) (λ l. l)

-- two tests, both passed
pub both_true : (s t : Bool) → cond s t false ≡ true → (s ≡ true) × (t ≡ true)
both_true true t e = (refl, e)
both_true false t e = absurd (true≢false (sym e))

-- ---- the values of a function in a row

pub length-tabled : (f : ℕ → ℕ) (n : ℕ) → length (tabled f n) ≡ n
length-tabled f zero = refl
length-tabled f (suc n) = rw (length-append, length-tabled f n) (omega arith)

-- an entry, whatever stands for one that is not there
pub tabled_any : (f : ℕ → ℕ) (n i d : ℕ) → i < n → get_or (tabled f n) i d ≡ f i
tabled_any f zero i d h = absurd (omega arith)
tabled_any f (suc n) i d h =
    up_to (λ i. get_or (tabled f (suc n)) i d ≡ f i) n
    (λ j l. rw (get_or-append (tabled f n) (f n ∷ []) d j (rw (length-tabled f n) l)) (tabled_any f n j d l))
    (get_or_at (tabled f n) (f n) [] d n (length-tabled f n)) i h

pub tabled_at : (f : ℕ → ℕ) (n i : ℕ) → i < n → get_or (tabled f n) i 0 ≡ f i
tabled_at f n i h = tabled_any f n i 0 h
