-- The duels come to an end, at the start; how many pairs they read.
-- Assumes nothing.
use mathlib.Core.Path.{◌≡◌, ◌∙◌}
use mathlib.Core.List.{List, [], ◌∷◌}
use Prim.Native.Nat.{ℕ, zero, suc, ◌≤◌, ◌<◌, ◌+◌, ◌-◌, ◌*◌}
use native.Mathlib.Omega.{arith}
use lib.ListN.{length}
use Rattle.words.specs.Rings.Ring.{start}
use Rattle.words.specs.Duels.Duel.{ended, meet, duels, pairs}
use Rattle.words.proofs.Order.Search.{either, lt_or_ge}
use Rattle.words.proofs.Duels.Beaten.{meet_same, meet_differs}
use Rattle.words.proofs.Duels.Duel.{Run, Answer, run_first, run_out, run_same, run_step, run_grows}

record Ended (w : List ℕ) : Type 0 where
  at : ℕ
  read : ℕ
  on : ℕ
  answer : Answer w at read on

finish : (f : ℕ) (w : List ℕ) → 0 < length w → (p q c : ℕ) → Run w p q c → 2 * length w ≤ f + (p + q) → Ended w
finish zero w n p q c r h = record { at = p; read = c; on = length w; answer = run_out w n p q c r (omega (arith, r.order)) }
finish (suc f) w n p q c r h =
    either (lt_or_ge q (length w))
    (λ l. either (lt_or_ge (meet w p q) (length w))
    (λ m. let d = meet_differs w p q m in
    finish f w n _ _ _ (run_step w n p q c r l (meet w p q) m (meet_same w p q) d) (omega (arith, run_grows w n p q c r l (meet w p q) m (meet_same w p q) d)))
    (λ m. record { at = p; read = c + length w; on = q - p; answer = run_same w n p q c r l (λ j o. meet_same w p q j (omega arith)) }))
    (λ l. record { at = p; read = c; on = length w; answer = run_out w n p q c r l })

duels_finish : (w : List ℕ) → 0 < length w → Ended w
duels_finish w n = finish (2 * length w) w n 0 1 0 (run_first w n) (omega arith)

-- the duels end at the start, with the pairs read
pub duels_end : (w : List ℕ) → 0 < length w → duels w ≡ ended (start w) (pairs w)
duels_end w n = let a = (duels_finish w n).answer in a.ended ∙ rw (← a.start, ← a.pairs)

-- the pairs are at most 3n - 4, where n is 2 or more (02, request 6), and 0 for n = 1
pub pairs_few : (w : List ℕ) → 0 < length w → pairs w ≤ 3 * length w - 4
pairs_few w n = let a = (duels_finish w n).answer in omega (arith, a.pairs, a.few)

-- the pairs are at most 3n (01)
pub pairs_three : (w : List ℕ) → pairs w ≤ 3 * length w
unfolding pairs duels
pairs_three [] = omega arith
pairs_three (a ∷ w) = omega (arith, pairs_few (a ∷ w) (omega arith))
