-- The duels: what a loop over them keeps, a step, and what it has at each end: the start, the pairs, the repeat.
-- Assumes nothing.
use mathlib.Core.Path.{◌≡◌, refl, sym, ap, ◌∙◌}
use mathlib.Core.Logic.{◌⊎◌, inl, inr}
use mathlib.Core.List.{List}
use Prim.Native.Nat.{ℕ, zero, suc, ◌≤◌, ◌<◌, ◌+◌, ◌-◌, ◌*◌, ◌%◌}
use native.Mathlib.Omega.{arith}
use native.Mathlib.Nat.{eq-or-lt_of_le, mod-lt, mod-eq_of_lt}
use borrow.Author.Tests.{le-leb, lt-leb, lt-ltb, le-ltb}
use lib.ListN.{length}
use Rattle.words.specs.Rings.Ring.{around, start, Lowest}
use Rattle.words.specs.Repeats.Repeat.{repeat}
use Rattle.words.specs.Duels.Paired.{Paired, Met}
use Rattle.words.specs.Duels.Duel.{going, ended, meet, forward, lower, upper, moved_p, moved_q, fight, fought, duels, pairs, pairs_of}
use Rattle.words.proofs.Order.Search.{either, lt_or_ge}
use Rattle.words.proofs.Rings.Ring.{start_is, start-lowest}
use Rattle.words.proofs.Rings.Turn.{around_right}
use Rattle.words.proofs.Repeats.Repeat.{Period, period_rest, period_between, repeat_is, repeat_period, repeat_multiple, start_below, lowest_on}
use Rattle.words.proofs.Duels.Beaten.{cleared, meet_is, settled}

-- the duels of w have come to p, q and c; each lowest position is p, or is no less than q
pub record Run (w : List ℕ) (p q c : ℕ) : Type 0 where
  pub fuel : ℕ
  pub same : duels w ≡ fought (suc fuel) w (going p q c)
  pub enough : 2 * length w ≤ suc fuel + (p + q)
  pub order : p < q
  pub read : c < p + q
  pub few : c ≤ 3 * length w - 4
  pub left : (s : ℕ) → Lowest w s → (s ≡ p) ⊎ (q ≤ s)

-- what the end of the duels says
pub record Answer (w : List ℕ) (p c g : ℕ) : Type 0 where
  pub ended : duels w ≡ ended p c
  pub start : p ≡ start w
  pub pairs : c ≡ pairs w
  pub few : c ≤ 3 * length w - 4
  pub repeat : g ≡ repeat w

pub run_first : (w : List ℕ) → 0 < length w → Run w 0 1 0
unfolding duels
run_first w h =
    let e : 2 * length w ≡ suc (2 * length w - 1) = omega arith in
    record {
      fuel = 2 * length w - 1;
      same = ap (λ f. fought f w (going 0 1 0)) e;
      enough = omega arith;
      order = omega arith;
      read = omega arith;
      few = omega arith;
      left = λ s i. either (eq-or-lt_of_le {n = 0} {m = s} (omega arith)) (λ e. inl (sym e)) inr;
    }

ended_stays : (f : ℕ) (w : List ℕ) (p c : ℕ) → fought f w (ended p c) ≡ ended p c
ended_stays zero w p c = refl
ended_stays (suc f) w p c = ended_stays f w p c

answer : (w : List ℕ) (p c g : ℕ) → duels w ≡ ended p c → p ≡ start w → c ≤ 3 * length w - 4 → g ≡ repeat w → Answer w p c g
unfolding pairs
answer w p c g e s f r = record { ended = e; start = s; pairs = sym (ap pairs_of e); few = f; repeat = r }

module _ (w : List ℕ) (n : 0 < length w) (p q c : ℕ) (r : Run w p q c) where
  first : Lowest w (start w)
  first = start-lowest (start_is w n)

  -- ---- q is past the end: p is the only lowest position

  only : length w ≤ q → (s : ℕ) → Lowest w s → s ≡ p
  only h s i = either (r.left s i) (λ e. e) (λ l. absurd (omega (arith, i.within)))

  alone : length w ≤ q → length w ≡ repeat w
  alone h =
      let g : ℕ = repeat w in
      let b : start w < g = start_below w n in
      either (eq-or-lt_of_le (repeat_is w n).turns.within) sym
      (λ l. let d : Period w (length w - g) = period_rest w g (omega arith) (repeat_period w n) in
      absurd (omega (arith, only h (start w) first, only h _ (lowest_on w n (start w) _ (length w - g) first d refl (omega arith)))))

  pub run_out : length w ≤ q → Answer w p c (length w)
  run_out h =
      answer w p c (length w) (r.same ∙ rw (le-leb (length w) q h) (ended_stays r.fuel w p c)) (sym (only h (start w) first)) r.few (alone h)

  module _ (h : q < length w) where
    fights : duels w ≡ fought r.fuel w (fight w p q c (meet w p q))
    fights = r.same ∙ rw (lt-leb (length w) q h)

    -- ---- n equal pairs

    module _ (a : Paired w w p q (length w)) where
      period : Period w (q - p)
      period =
          period_between w p q (omega (arith, r.order)) (omega (arith, r.order))
          (λ j. sym (around_right w p j) ∙ a (j % length w) (mod-lt j n) ∙ around_right w q j)

      enough_on : repeat w ≤ q - p
      enough_on =
          either (lt_or_ge (q - p) (repeat w)) (λ x. absurd (omega (arith, mod-eq_of_lt x, repeat_multiple w n (q - p) period, r.order))) (λ x. x)

      is_start : p ≡ start w
      is_start = either (r.left (start w) first) sym (λ z. absurd (omega (arith, start_below w n, enough_on)))

      is_repeat : q - p ≡ repeat w
      is_repeat =
          let g : ℕ = repeat w in
          either (eq-or-lt_of_le enough_on) sym
          (λ x. let i = lowest_on w n (start w) (p + g) g first (repeat_period w n) (rw is_start) (omega arith) in
          absurd (either (r.left (p + g) i) (λ e. omega (arith, start_below w n)) (λ z. omega arith)))

      pub run_same : Answer w p (c + length w) (q - p)
      run_same =
          answer w p _ _
          (fights ∙ rw (meet_is w p q (length w) (omega arith) a (λ l. absurd (omega arith)), le-ltb (length w) (length w) (omega arith)) (ended_stays r.fuel w p (c + length w)))
          is_start (omega (arith, r.read, r.order)) is_repeat

    -- ---- a differing pair at k

    module _ (k : ℕ) (l : k < length w) (a : Paired w w p q k) (d : around w (p + k) ≡ around w (q + k) → ⊥) where
      x : ℕ
      x = forward (around w (p + k)) (around w (q + k)) p k

      y : ℕ
      y = forward (around w (q + k)) (around w (p + k)) q k

      -- the one with the greater letter moves
      moves : (P : ℕ → ℕ → Type 0) → (around w (p + k) < around w (q + k) → P p (q + (k + 1))) → (around w (q + k) < around w (p + k) → P (p + (k + 1)) q) → P x y
      unfolding x y forward
      moves P f g =
          either (lt_or_ge (around w (p + k)) (around w (q + k)))
          (λ m. rw (le-ltb (around w (q + k)) (around w (p + k)) (omega arith), lt-ltb (around w (p + k)) (around w (q + k)) m) (f m))
          (λ m. either (eq-or-lt_of_le m) (λ e. absurd (d (sym e)))
          (λ o. rw (lt-ltb (around w (q + k)) (around w (p + k)) o, le-ltb (around w (p + k)) (around w (q + k)) m) (g o)))

      leaves : (s : ℕ) → Lowest w s → (s ≡ lower x y) ⊎ (upper x y ≤ s)
      leaves s i =
          moves (λ x y. (s ≡ lower x y) ⊎ (upper x y ≤ s))
          (λ m. let z = settled p (q + (k + 1)) in
          either (r.left s i) (λ e. inl (e ∙ sym (z.stays (omega (arith, r.order)))))
          (λ e. either (cleared w q p k l (λ j o. sym (a j o)) m s i) (λ o. absurd (omega arith)) (λ o. z.between s (omega (arith, r.order)) (omega arith))))
          (λ m. either (cleared w p q k l a m s i)
          (λ o. either (r.left s i) (λ e. absurd (omega arith)) (λ e. absurd (omega (arith, r.order))))
          (λ o. either (r.left s i) (λ e. absurd (omega arith)) (λ e. (settled (p + (k + 1)) q).between s (omega arith) e)))

      -- p + q grows by what was read
      pub run_grows : p + q + (k + 1) ≤ moved_p p q k (around w (p + k)) (around w (q + k)) + moved_q p q k (around w (p + k)) (around w (q + k))
      unfolding x y
      run_grows = omega (arith, (settled x y).grown, moves (λ x y. p + q + (k + 1) ≤ x + y) (λ m. omega arith) (λ m. omega arith))

      pub run_step : Run w (moved_p p q k (around w (p + k)) (around w (q + k))) (moved_q p q k (around w (p + k)) (around w (q + k))) (c + (k + 1))
      unfolding x y
      run_step =
          let g : p + q + (k + 1) ≤ lower x y + upper x y = run_grows in
          let f : r.fuel ≡ suc (r.fuel - 1) = omega (arith, r.enough, r.order) in
          record {
            fuel = r.fuel - 1;
            same = fights ∙ rw (meet_is w p q k (omega arith) a (λ o. d), lt-ltb k (length w) l) (ap (λ n. fought n w (going (lower x y) (upper x y) (c + (k + 1)))) f);
            enough = omega (arith, r.enough);
            order = (settled x y).order;
            read = omega (arith, r.read);
            few = omega (arith, r.read, r.order);
            left = leaves;
          }

-- the same with names for what code holds: the two letters, and the two positions after step 4
pub run_moved : (w : List ℕ) → 0 < length w → (p q c : ℕ) → Run w p q c → q < length w → (k : ℕ) → k < length w → Met w w p q k → (a b x y : ℕ)
    → a ≡ around w (p + k) → b ≡ around w (q + k) → (x ≡ moved_p p q k a b) × (y ≡ moved_q p q k a b) → Run w x y (c + (k + 1)) × (p + q < x + y)
run_moved w n p q c r h k l m a b x y e f g =
    let d = m.differs l in
    rw (g.0, g.1, e, f) (run_step w n p q c r h k l m.agree d, omega (arith, run_grows w n p q c r h k l m.agree d))
