-- A lowest reading turned back: where its start is, and what stays the same however a ring is turned.
-- Assumes nothing.
use mathlib.Core.Path.{◌≡◌, sym, ap, ◌∙◌}
use mathlib.Core.List.{List}
use Prim.Native.Nat.{ℕ, ◌<◌, ◌+◌, ◌-◌, ◌%◌}
use native.Mathlib.Omega.{arith}
use native.Mathlib.Nat.{mod-lt, mod_self, mod-eq_of_lt}
use lib.ListN.{length}
use Rattle.words.specs.Rings.Ring.{reading, start, lowest, Lowest}
use Rattle.words.specs.Keys.Strand.{opposite}
use Rattle.words.specs.Repeats.Repeat.{repeat}
use Rattle.words.proofs.Rings.Ring.{start_is}
use Rattle.words.proofs.Rings.Turn.{length-reading, reading_zero, reading-reading, lowest-reading, own_lowest}
use Rattle.words.proofs.Keys.Strand.{length-opposite, opposite-reading}
use Rattle.words.proofs.Repeats.Repeat.{repeat_is, start_below, lowest_multiple}
use Rattle.words.proofs.Repeats.Turned.{repeat-reading, repeat-lowest}

-- ---- the start is below the repeat of the lowest reading too

pub start_low : (w : List ℕ) → 0 < length w → start w < repeat (lowest w)
start_low w h = rw (repeat-lowest w h) (start_below w h)

-- ---- the opposite strand of a turned ring

pub lowest-opposite : (w : List ℕ) (i : ℕ) → 0 < length w → lowest (opposite (reading w i)) ≡ lowest (opposite w)
lowest-opposite w i h = rw (opposite-reading w i) (lowest-reading (opposite w) (length w - i) (rw length-opposite (omega arith)) (rw length-opposite h))

-- ---- turned back by s below the repeat: the start is s

module _ (k : List ℕ) (s : ℕ) (h : 0 < length k) (z : start k ≡ 0) (l : s < repeat k) where
  within : s < length k
  within = omega (arith, (repeat_is k h).turns.within)

  abbrev back : List ℕ
  back = reading k (length k - s)

  size : length back ≡ length k
  size = length-reading k (length k - s) (omega arith)

  forth : reading back s ≡ k
  forth =
      let e : length k - s + s ≡ length k = omega (arith, within) in
      reading-reading k (length k - s) s (omega arith) (omega (arith, within)) h ∙ ap (λ i. reading k (i % length k)) e ∙ ap (reading k) (mod_self (length k)) ∙ reading_zero k

  lowest_there : Lowest back s
  lowest_there = record {
    within = rw size within;
    least = λ j m. let i : j < length k = rw size at m in
        rw (forth, reading-reading k (length k - s) j (omega arith) (omega arith) h) (rw (z, reading_zero) at ((start_is k h).lowest ((length k - s + j) % length k) (mod-lt (length k - s + j) h)));
  }

  pub start_back : start back ≡ s
  start_back =
      let n : 0 < length back = rw size h in
      let m = lowest_multiple back n s lowest_there in
      let r : repeat back ≡ repeat k = repeat-reading k (length k - s) (omega arith) h in
      let d : s - start back < repeat back = omega arith in
      let x : s - start back ≡ 0 = sym (mod-eq_of_lt d) ∙ m.1 in
      omega (arith, m.0)

  pub lowest_back : lowest back ≡ k
  lowest_back = lowest-reading k (length k - s) (omega arith) h ∙ own_lowest k z
