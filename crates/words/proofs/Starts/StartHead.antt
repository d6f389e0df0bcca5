-- From one head to the next: of a prefix that goes beyond the block, every reading before the next head is greater than the one there.
-- Assumes nothing.
use mathlib.Core.Path.{◌≡◌, sym, ap, ◌∙◌}
use mathlib.Core.List.{List, ◌++◌, append_assoc}
use Prim.Native.Nat.{ℕ, zero, suc, ◌≤◌, ◌<◌, ◌+◌, ◌-◌, ◌%◌}
use native.Mathlib.Omega.{arith}
use native.Mathlib.Nat.{eq-or-lt_of_le}
use lib.ListN.{length, take, drop, get_or, length-append, length-drop, take-append-drop}
use lib.Seq.{drop-append_seam, length-take-le, get_or-take}
use Rattle.words.specs.Order.Order.{◌≺◌, ◌≪◌}
use Rattle.words.specs.Rings.Ring.{reading}
use Rattle.words.specs.Factors.Lyndon.{Lyndon}
use Rattle.words.specs.Factors.Factor.{flat, copies, FirstRun}
use Rattle.words.proofs.Order.Search.{either, lt_or_ge}
use Rattle.words.proofs.Order.Order.{trans, decided, decided_more}
use Rattle.words.proofs.Factors.Factor.{run_split, run_word, run_size}
use Rattle.words.proofs.Factors.Route.{inside}
use Rattle.words.proofs.Factors.Run.{reading_split}
use Rattle.words.proofs.Factors.Scan.{Scan, scan_end, scan_drop, scan_take, drop-take}
use Rattle.words.proofs.Starts.Chain.{Above}

-- what is less than u at a letter is below every reading that begins in copies of u
in_copies : (c : ℕ) (x a u z y r : List ℕ) → x ≡ a ++ (flat (copies c u) ++ z) → Lyndon u → y ≪ u → (i : ℕ) → length a ≤ i → i < length a + length (flat (copies c u)) → y ++ r ≺ reading x i
in_copies zero x a u z y r g l d i m n = absurd (omega arith)
in_copies (suc c) x a u z y r g l d i m n =
    let b : List ℕ = flat (copies c u) ++ z in
    let f : x ≡ a ++ (u ++ b) = g ∙ rw append_assoc in
    let e : y ++ r ≺ reading x (length a) = rw (reading_split x a (u ++ b) f, append_assoc) (decided (decided_more r (b ++ a) d)) in
    either (lt_or_ge i (length a + length u))
    (λ o. either (eq-or-lt_of_le m) (λ q. rw (← q) e)
    (λ q. let k : length a + (i - length a) ≡ i = omega arith in
    trans e (rw k at (inside x u b (length a) (i - length a) (ap (drop (length a)) f ∙ drop-append_seam a (u ++ b)) l (omega arith) (omega arith)))))
    (λ o. in_copies c x (a ++ u) u z y r (f ∙ sym (append_assoc a u b)) l d i (rw length-append o) (omega (arith, length-append a u, length-append u (flat (copies c u)))))

pub above_next : (x : List ℕ) (m p e : ℕ) → m ≤ length x → FirstRun (drop m x) p e → drop e (drop m x) ≪ take p (drop m x) → Above x m → Above x (m + e)
above_next x m p e l r d h i n =
    let s : List ℕ = drop m x in
    let u : List ℕ = take p s in
    let c : List ℕ = flat (copies r.count u) in
    let a : List ℕ = take m x in
    let g : x ≡ a ++ (c ++ drop e s) = sym (take-append-drop m x) ∙ ap (λ z. a ++ z) (run_split s p e r) in
    let q : length a ≡ m = length-take-le m x l in
    let o : length (a ++ c) ≡ m + e = rw length-append (omega (arith, r.ends)) in
    let f : reading x (m + e) ≡ drop e s ++ (a ++ c) = rw (← o) (reading_split x (a ++ c) (drop e s) (g ∙ sym (append_assoc a c (drop e s)))) in
    let k : (j : ℕ) → m ≤ j → j < m + e → reading x (m + e) ≺ reading x j =
    λ j y z. rw f (in_copies r.count x a u (drop e s) (drop e s) (a ++ c) g (run_word s p e r) d j (omega arith) (omega (arith, r.ends))) in
    either (lt_or_ge i m) (λ y. trans (k m (omega arith) (omega (arith, r.within, (run_word s p e r).some, run_size s p e r))) (h i y)) (λ y. k i y n)

-- in the terms of the scan: w is cut at l, behind the letter that ended the block
pub above_cut : (w : List ℕ) (m j k l : ℕ) → Scan (drop m w) j k → m + j < l → l ≤ length w → get_or (drop m w) j 0 < get_or (drop m w) k 0
    → Above (take l w) m → Above (take l w) (m + (j - j % (j - k)))
above_cut w m j k l a h n d =
    let q : m + (l - m) ≡ l = omega arith in
    let e : drop m (take l w) ≡ take (l - m) (drop m w) = ap (λ i. drop m (take i w)) (sym q) ∙ drop-take m (l - m) w (omega arith) in
    let o : k < j = a.order in
    let b : Scan (drop m (take l w)) j k = rw e (scan_take (drop m w) (l - m) j k (omega arith) (rw length-drop (omega arith)) a) in
    let v : j < length (drop m (take l w)) = rw (length-drop m (take l w), length-take-le l w n) (omega arith) in
    let x : get_or (drop m (take l w)) j 0 < get_or (drop m (take l w)) k 0 = rw (e, get_or-take (l - m) (drop m w) j 0 (omega arith), get_or-take (l - m) (drop m w) k 0 (omega arith)) d in
    above_next (take l w) m (j - k) _ (rw (length-take-le l w n) (omega arith)) (scan_end _ j k b (λ y. x)) (scan_drop _ j k b v x)
