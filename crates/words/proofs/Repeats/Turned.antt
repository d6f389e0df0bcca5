-- The repeat is the same for every reading of the ring.
-- Assumes nothing.
use mathlib.Core.Path.{◌≡◌, sym, ap, ◌∙◌}
use mathlib.Core.List.{List}
use Prim.Native.Nat.{ℕ, ◌≤◌, ◌<◌, ◌-◌, ◌%◌}
use native.Mathlib.Omega.{arith}
use native.Mathlib.Nat.{add_comm}
use lib.ListN.{length}
use Rattle.words.specs.Rings.Ring.{reading, start, lowest, IsReading}
use Rattle.words.specs.Repeats.Repeat.{Turns, repeat}
use Rattle.words.proofs.Rings.Ring.{start_is}
use Rattle.words.proofs.Rings.Turn.{length-reading, reading-reading, reading_back}
use Rattle.words.proofs.Repeats.Repeat.{repeat_is, repeat_one}

-- rings that turn by the same numbers have one repeat
pub same_turns : (w v : List ℕ) → 0 < length w → ((p : ℕ) → Turns w p → Turns v p) → ((p : ℕ) → Turns v p → Turns w p) → repeat v ≡ repeat w
same_turns w v l f g =
    let r = repeat_is w l in
    sym (repeat_one v (repeat w) (record { turns = f _ r.turns; smallest = λ q t. r.smallest q (g q t) }))

-- ---- a reading

turns_on : (w : List ℕ) (i p : ℕ) → i ≤ length w → 0 < length w → Turns w p → Turns (reading w i) p
turns_on w i p h l t =
    let n : length (reading w i) ≡ length w = length-reading w i h in
    let m : p ≤ length w = t.within in
    record {
      some = t.some;
      within = rw n m;
      same = reading-reading w i p h m l ∙ ap (λ k. reading w (k % length w)) (add_comm i p) ∙ sym (reading-reading w p i m h l) ∙ ap (λ x. reading x i) t.same;
    }

turns_back : (w : List ℕ) (i p : ℕ) → i ≤ length w → 0 < length w → Turns (reading w i) p → Turns w p
turns_back w i p h l t =
    let n : length (reading w i) ≡ length w = length-reading w i h in
    rw (reading_back w i h l) at (turns_on (reading w i) (length w - i) p (rw n (omega arith)) (rw n l) t)

pub repeat-reading : (w : List ℕ) (i : ℕ) → i ≤ length w → 0 < length w → repeat (reading w i) ≡ repeat w
repeat-reading w i h l = same_turns w (reading w i) l (λ p. turns_on w i p h l) (λ p. turns_back w i p h l)

pub repeat-lowest : (w : List ℕ) → 0 < length w → repeat (lowest w) ≡ repeat w
unfolding lowest
repeat-lowest w h = repeat-reading w (start w) (omega (arith, (start_is w h).within)) h

pub repeat_of_reading : (u v : List ℕ) → IsReading u v → repeat v ≡ repeat u
repeat_of_reading u v r = rw r.is (repeat-reading u r.at (omega (arith, r.within)) (omega (arith, r.within)))
