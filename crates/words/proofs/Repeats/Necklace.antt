-- Letters that are their own lowest reading: those that are one run of equal factors; the repeat is then the factor's length.
-- Assumes nothing.
use mathlib.Core.Path.{◌≡◌, sym, ap, ◌∙◌}
use mathlib.Core.List.{List, ◌++◌, append-nil, append_assoc}
use Prim.Native.Nat.{ℕ, zero, suc, ◌≤◌, ◌<◌, ◌+◌}
use native.Mathlib.Omega.{arith}
use native.Mathlib.Nat.{zero-add}
use lib.ListN.{length, take, drop, length-append, length-drop}
use lib.Seq.{drop-length, drop-append_seam}
use Rattle.words.specs.Order.Order.{◌≺◌}
use Rattle.words.specs.Rings.Ring.{reading, start}
use Rattle.words.specs.Factors.Lyndon.{Lyndon}
use Rattle.words.specs.Factors.Factor.{flat, copies, FirstRun}
use Rattle.words.specs.Repeats.Repeat.{repeat}
use Rattle.words.proofs.Order.Search.{either, lt_or_ge}
use Rattle.words.proofs.Order.Order.{irrefl, before_false, append_left, decided, decided_more, decided_or_prefix}
use Rattle.words.proofs.Rings.Ring.{start_is}
use Rattle.words.proofs.Rings.Turn.{reading_zero}
use Rattle.words.proofs.Factors.Lyndon.{word_below}
use Rattle.words.proofs.Factors.Factor.{copies_behind, run_split, run_size, run_word}
use Rattle.words.proofs.Factors.Route.{inside}
use Rattle.words.proofs.Factors.Run.{Best, best_none, best_old, best_last, reading_split}
use Rattle.words.proofs.Repeats.Repeat.{repeat_one}

-- ---- one run: the start is 0

pub run_start : (w : List ℕ) (p e : ℕ) → FirstRun w p e → 0 < length w → e ≡ length w → start w ≡ 0
run_start w p e r h q =
    let b : Best w (0 + e) 0 = best_old w 0 p e r 0 h (best_none w) (before_false (reading w 0) (reading w 0) irrefl) in
    sym (best_last w 0 h (rw (zero-add, q) at b))

-- ---- something behind the run: the reading there is lower

-- what is less than u, before copies of u, comes before what follows those copies
turned_lower : (c : ℕ) (u y : List ℕ) → Lyndon u → y ≺ u → 0 < length y → 0 < length (flat (copies c u)) → y ++ flat (copies c u) ≺ flat (copies c u) ++ y
turned_lower zero u y l h s t = absurd (omega arith)
turned_lower (suc c) u y l h s t =
    let b : List ℕ = flat (copies c u) in
    rw (append_assoc u b y)
    (either (decided_or_prefix h) (λ d. decided (decided_more (u ++ b) (b ++ y) d))
    (λ p. let d : drop (length y) u ≡ p.0 = rw (p.1, drop-append_seam) in
    let k : length y < length u = omega (arith, simp length-append at (ap length p.1), p.2) in
    let m : u ++ b ≺ p.0 ++ (b ++ y) = decided (rw d at (word_below (length y) b (b ++ y) l s k)) in
    let n : y ++ (u ++ b) ≺ (y ++ p.0) ++ (b ++ y) = rw append_assoc (append_left y m) in
    rw (← p.1) at n))

module _ (w : List ℕ) (p e : ℕ) (r : FirstRun w p e) where
  abbrev run : List ℕ
  run = flat (copies r.count (take p w))

  some : 0 < p
  some = omega (arith, (run_word w p e r).some, run_size w p e r)

  pub run_more : e < length w → start w ≡ 0 → ⊥
  run_more h z =
      let s : w ≡ run ++ drop e w = run_split w p e r in
      let n : length run ≡ e = r.ends in
      let a : reading w e ≡ drop e w ++ run = rw n at (reading_split w run (drop e w) s) in
      let b : reading w 0 ≡ run ++ drop e w = reading_zero w ∙ s in
      let l : reading w e ≺ reading w 0 = rw (a, b) (turned_lower r.count (take p w) (drop e w) (run_word w p e r) r.less (rw length-drop (omega arith)) (omega (arith, some, r.within))) in
      (rw z at ((start_is w (omega arith)).lowest e h)) l

-- ---- one run: the repeat

pub run_whole : (w : List ℕ) (p e : ℕ) (r : FirstRun w p e) → e ≡ length w → w ≡ flat (copies r.count (take p w))
run_whole w p e r q = run_split w p e r ∙ rw (q, drop-length, append-nil)

turned_copies : (c : ℕ) (w u : List ℕ) → w ≡ flat (copies c u) → 0 < length w → (reading w (length u) ≡ w) × (b : List ℕ) × (w ≡ u ++ b)
turned_copies zero w u e h = absurd (omega (arith, ap length e))
turned_copies (suc c) w u e h = (reading_split w u (flat (copies c u)) e ∙ copies_behind c u ∙ sym e, flat (copies c u), e)

-- copies of a Lyndon word: no turn by fewer letters than it has gives the same letters
pub copies-repeat : (c : ℕ) (w u : List ℕ) → Lyndon u → w ≡ flat (copies c u) → 0 < length w → repeat w ≡ length u
copies-repeat c w u y e h =
    let t = turned_copies c w u e h in
    let n : length u ≤ length w = omega (arith, ap length t.2, length-append u t.1) in
    sym (repeat_one w (length u) (record {
      turns = record { some = y.some; within = n; same = t.0 };
      smallest = λ d k. either (lt_or_ge d (length u))
          (λ l. absurd (irrefl (rw (zero-add, k.same, reading_zero) at (inside w u t.1 0 d t.2 y k.some l))))
          (λ l. l);
    }))

pub run_repeat : (w : List ℕ) (p e : ℕ) → FirstRun w p e → 0 < length w → e ≡ length w → repeat w ≡ p
run_repeat w p e r h q =
    copies-repeat r.count w (take p w) (run_word w p e r) (run_whole w p e r q) h ∙ run_size w p e r
