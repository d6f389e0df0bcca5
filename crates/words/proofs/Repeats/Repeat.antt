-- The repeat is the smallest p that turns the ring to itself, and no other number is; it divides n, the start is below it, and the lowest
-- positions are the start, the start plus the repeat, and so on.
-- Assumes nothing.
use mathlib.Core.Path.{◌≡◌, sym, ap, ◌∙◌}
use mathlib.Core.Logic.{◌↔◌}
use mathlib.Core.List.{List}
use mathlib.Core.Bool.{true}
use Prim.Native.Nat.{ℕ, zero, suc, ◌≤◌, ◌<◌, ◌+◌, ◌-◌, ◌*◌, ◌%◌, ◌/◌}
use native.Mathlib.Omega.{arith}
use native.Mathlib.Nat.{add_comm, add_assoc, add-mod_right, mod-add-div', mod-lt, zero-add, add-zero, zero-mul, suc-mul}
use borrow.Author.Tests.{eq-eqb, eqb-true}
use lib.ListN.{length, get_or}
use lib.Seq.{ext_get_or}
use Rattle.words.specs.Rings.Ring.{reading, around, start, Lowest}
use Rattle.words.specs.Repeats.Repeat.{Turns, IsRepeat, same_turned, repeat, Along}
use Rattle.words.proofs.Order.Search.{either, lt_or_ge, every_at, every_true, seek_finds, found_le}
use Rattle.words.proofs.Order.Order.{irrefl, le_antisym}
use Rattle.words.proofs.Rings.Ring.{start_is, start-lowest, least_strict}
use Rattle.words.proofs.Rings.Turn.{length-reading, reading_at, around-reading, reading_zero}

-- ---- readings by the letters round the ring

reading_same : (w : List ℕ) (i k : ℕ) → i ≤ length w → k ≤ length w → ((j : ℕ) → around w (i + j) ≡ around w (k + j)) → reading w i ≡ reading w k
reading_same w i k x y h =
    let e : length (reading w i) ≡ length w = length-reading w i x in
    ext_get_or 0 _ _ (e ∙ sym (length-reading w k y))
    (λ j l. let m : j < length w = rw e at l in reading_at w i j x m ∙ h j ∙ sym (reading_at w k j y m))

around_same : (w : List ℕ) (i k : ℕ) → 0 < length w → i ≤ length w → k ≤ length w → reading w i ≡ reading w k → (j : ℕ) → around w (i + j) ≡ around w (k + j)
around_same w i k p x y e j = sym (around-reading w i j x p) ∙ ap (λ v. around v j) e ∙ around-reading w k j y p

-- the letters round the ring are the same d places on
abbrev pub Period : List ℕ → ℕ → Type 0
Period w d = (j : ℕ) → around w (j + d) ≡ around w j

pub period_reading : (w : List ℕ) (i d : ℕ) → Period w d → i + d ≤ length w → reading w (i + d) ≡ reading w i
period_reading w i d h l =
    reading_same w (i + d) i l (omega arith) (λ j. let a : i + d + j ≡ i + j + d = omega arith in rw a (h (i + j)))

period_all : (w : List ℕ) → Period w (length w)
unfolding around
period_all w j = rw add-mod_right

period_of : (w : List ℕ) (d : ℕ) → Turns w d → Period w d
period_of w d t j =
    rw (add_comm j d)
    (sym (around-reading w d j t.within (omega (arith, t.some, t.within))) ∙ ap (λ v. around v j) t.same)

turns_of : (w : List ℕ) (d : ℕ) → Period w d → 0 < d → d ≤ length w → Turns w d
turns_of w d h p l = record { some = p; within = l; same = reading_same w d 0 l (omega arith) (λ j. rw (add_comm d j, zero-add) (h j)) ∙ reading_zero w }

pub period_times : (w : List ℕ) (g k : ℕ) → Period w g → Period w (k * g)
period_times w g zero h j = rw (zero-mul, add-zero)
period_times w g (suc k) h j = rw (suc-mul, ← add_assoc) (h (j + k * g) ∙ period_times w g k h j)

period_mod : (w : List ℕ) (g d : ℕ) → Period w g → Period w d → Period w (d % g)
period_mod w g d h k j =
    sym (period_times w g (d / g) h (j + d % g)) ∙ rw (add_assoc, mod-add-div') (k j)

-- what is left of the way round
pub period_rest : (w : List ℕ) (d : ℕ) → d ≤ length w → Period w d → Period w (length w - d)
period_rest w d l h j =
    let e : j + (length w - d) + d ≡ j + length w = omega arith in
    sym (h (j + (length w - d))) ∙ rw e (period_all w j)

-- two positions from which the letters are the same all round
pub period_between : (w : List ℕ) (p q : ℕ) → p ≤ q → p ≤ length w → ((j : ℕ) → around w (p + j) ≡ around w (q + j)) → Period w (q - p)
period_between w p q h l m j =
    let a : p + (j + (length w - p)) ≡ j + length w = omega arith in
    let b : q + (j + (length w - p)) ≡ j + (q - p) + length w = omega arith in
    sym (period_all w (j + (q - p))) ∙ rw (← a, ← b) (sym (m (j + (length w - p)))) ∙ period_all w j

-- ---- the repeat is the smallest

test_turn : (w : List ℕ) (p : ℕ) → 0 < p → p ≤ length w → same_turned w p ≡ true → Turns w p
test_turn w p h l e =
    let n : length (reading w p) ≡ length w = length-reading w p l in
    record { some = h; within = l; same = ext_get_or 0 _ _ n (λ i m. eqb-true _ _ (every_at _ (length w) e i (rw n at m))) }

turn_test : (w : List ℕ) (p : ℕ) → Turns w p → same_turned w p ≡ true
turn_test w p t = every_true _ (length w) (λ i h. eq-eqb _ _ (ap (λ v. get_or v i 0) t.same))

pub repeat_is : (w : List ℕ) → 0 < length w → IsRepeat w (repeat w)
unfolding repeat
repeat_is w h =
    let f = seek_finds (same_turned w) (length w) 1 in
    let n : Turns w (length w) = turns_of w (length w) (period_all w) h (omega arith) in
    let l : repeat w ≤ length w = found_le _ (length w) 1 (repeat w) (length w) f h (turn_test w (length w) n) in
    record {
      turns = test_turn w (repeat w) f.from l (f.passes (omega arith));
      smallest = λ q r. found_le _ (length w) 1 (repeat w) q f r.some (turn_test w q r);
    }

pub repeat_one : (w : List ℕ) (p : ℕ) → IsRepeat w p → p ≡ repeat w
repeat_one w p r =
    let s = repeat_is w (omega (arith, r.turns.some, r.turns.within)) in
    omega (arith, r.smallest (repeat w) s.turns, s.smallest p r.turns)

-- ---- what the repeat says of the ring

module _ (w : List ℕ) (n : 0 < length w) where
  repeat-turns : Turns w (repeat w)
  repeat-turns = (repeat_is w n).turns

  pub repeat_period : Period w (repeat w)
  repeat_period = period_of w (repeat w) repeat-turns

  -- any way on to the same letters is a multiple of it
  pub repeat_multiple : (d : ℕ) → Period w d → d % repeat w ≡ 0
  repeat_multiple d h =
      let l : d % repeat w < repeat w = mod-lt d repeat-turns.some in
      either (lt_or_ge 0 (d % repeat w))
      (λ x. absurd (omega (arith, (repeat_is w n).smallest _ (turns_of w _ (period_mod w _ d repeat_period h) x (omega (arith, repeat-turns.within))))))
      (λ x. omega arith)

  pub repeat_divides : length w % repeat w ≡ 0
  repeat_divides = repeat_multiple (length w) (period_all w)

  pub start_below : start w < repeat w
  start_below =
      let i = start_is w n in
      let s : start w < length w = i.within in
      either (lt_or_ge (start w) (repeat w)) (λ x. x)
      (λ x. let a : start w - repeat w + repeat w ≡ start w = omega arith in
      let e : reading w (start w) ≡ reading w (start w - repeat w) = rw a at (period_reading w (start w - repeat w) (repeat w) repeat_period (omega arith)) in
      absurd (irrefl (rw e at (least_strict (reading w) (length w) (start w) (start w - repeat w) i (omega (arith, repeat-turns.some))))))

  -- a lowest position stands a multiple of the repeat behind the start
  pub lowest_multiple : (i : ℕ) → Lowest w i → (start w ≤ i) × ((i - start w) % repeat w ≡ 0)
  lowest_multiple i l =
      let s = start_is w n in
      let x : start w ≤ i = s.first i l.within l.least in
      let e : reading w (start w) ≡ reading w i = le_antisym (s.lowest i l.within) (l.least (start w) s.within) in
      (x, repeat_multiple (i - start w) (period_between w (start w) i x (omega (arith, s.within)) (around_same w (start w) i n (omega (arith, s.within)) (omega (arith, l.within)) e)))

  -- the same letters d places on from a lowest position: a lowest position
  pub lowest_on : (i k d : ℕ) → Lowest w i → Period w d → i + d ≡ k → k < length w → Lowest w k
  lowest_on i k d l h e m =
      let q : reading w k ≡ reading w i = rw e at (period_reading w i d h (omega arith)) in
      record { within = m; least = λ j x. rw q (l.least j x) }

  -- the lowest positions are exactly the start, the start plus the repeat, and so on below n
  pub lowest_along : (i : ℕ) → Lowest w i ↔ Along (length w) (start w) (repeat w) i
  lowest_along i = (
    λ l. let m = lowest_multiple i l in
        let e : (i - start w) % repeat w + (i - start w) / repeat w * repeat w ≡ i - start w = mod-add-div' (i - start w) (repeat w) in
        record { within = l.within; times = (i - start w) / repeat w; is = omega (arith, m.0, m.1) },
    λ a. lowest_on (start w) i (a.times * repeat w) (start-lowest (start_is w n)) (period_times w _ a.times repeat_period) (sym a.is) a.within,
  )
