-- The lowest reading is a Lyndon word as long as the repeat, n / repeat times over.
-- Assumes nothing.
use mathlib.Core.Path.{◌≡◌, sym, ap, ◌∙◌}
use mathlib.Core.List.{List}
use Prim.Native.Nat.{ℕ, ◌<◌, ◌*◌, ◌/◌}
use native.Mathlib.Omega.{arith}
use native.Mathlib.Nat.{eq-or-lt_of_le, mul-div_cancel}
use lib.ListN.{length, take}
use Rattle.words.specs.Rings.Ring.{start, lowest}
use Rattle.words.specs.Factors.Lyndon.{Lyndon}
use Rattle.words.specs.Factors.Factor.{flat, copies}
use Rattle.words.specs.Repeats.Repeat.{repeat, WordTimes}
use Rattle.words.proofs.Order.Search.{either}
use Rattle.words.proofs.Rings.Turn.{length-lowest, start_of_lowest}
use Rattle.words.proofs.Factors.Factor.{run_within, run_word, run_size, length-copies}
use Rattle.words.proofs.Factors.Runs.{first_run}
use Rattle.words.proofs.Repeats.Necklace.{run_more, run_repeat, run_whole}
use Rattle.words.proofs.Repeats.Turned.{repeat-lowest}

-- letters that are their own lowest reading are one run
own_word : (w : List ℕ) → 0 < length w → start w ≡ 0 → WordTimes w (repeat w)
own_word w h z =
    let x = first_run w h in
    let p : ℕ = x.0 in
    let r = x.2 in
    let q : x.1 ≡ length w = either (eq-or-lt_of_le (run_within w p x.1 r)) (λ e. e) (λ l. absurd (run_more w p x.1 r l z)) in
    let y : Lyndon (take p w) = run_word w p x.1 r in
    let n : length (take p w) ≡ p = run_size w p x.1 r in
    let s : w ≡ flat (copies r.count (take p w)) = run_whole w p x.1 r q in
    let c : length w ≡ r.count * p = ap length s ∙ length-copies r.count (take p w) ∙ ap (λ k. r.count * k) n in
    let d : length w / p ≡ r.count = ap (λ k. k / p) c ∙ mul-div_cancel r.count (omega (arith, y.some)) in
    rw (run_repeat w p x.1 r h q) (record { within = omega (arith, r.within); lyndon = y; whole = rw d (sym s) })

pub lowest_word : (w : List ℕ) → 0 < length w → WordTimes (lowest w) (repeat w)
lowest_word w h = rw (repeat-lowest w h) at (own_word (lowest w) (rw (length-lowest w h) h) (start_of_lowest w h))
