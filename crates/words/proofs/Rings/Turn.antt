-- Readings by letters round the ring; a reading of a reading; a lowest reading is its own; rings whose lowest readings are equal are readings of
-- each other.
-- Assumes nothing.
use mathlib.Core.Path.{◌≡◌, sym, ap, ◌∙◌}
use mathlib.Core.List.{List, append-nil}
use Prim.Native.Nat.{ℕ, ◌≤◌, ◌<◌, ◌+◌, ◌-◌, ◌%◌}
use native.Mathlib.Omega.{arith}
use native.Mathlib.Nat.{mod-add-mod, add-mod-mod, mod-lt, mod-eq_of_lt, mod-eq-sub-mod, add-mod_right, mod_self, add_assoc}
use lib.ListN.{length, take, drop, get_or, length-append, length-drop, length-take, get_or-append}
use lib.Seq.{get_or-drop, get_or-take, get_or-append-add, ext_get_or}
use Rattle.words.specs.Order.Order.{◌≼◌}
use Rattle.words.specs.Rings.Ring.{IsStart, reading, around, start, lowest, IsReading}
use Rattle.words.proofs.Order.Order.{le_antisym}
use Rattle.words.proofs.Order.Search.{either, lt_or_ge}
use Rattle.words.proofs.Rings.Ring.{start_is, start_one}

pub length-reading : (w : List ℕ) (i : ℕ) → i ≤ length w → length (reading w i) ≡ length w
unfolding reading
length-reading w i h = rw (length-append, length-drop, length-take) (omega arith)

pub reading_at : (w : List ℕ) (i k : ℕ) → i ≤ length w → k < length w → get_or (reading w i) k 0 ≡ around w (i + k)
unfolding reading around
reading_at w i k h l =
    either (lt_or_ge (i + k) (length w))
    (λ m. rw (get_or-append (drop i w) (take i w) 0 k (rw length-drop (omega arith)), get_or-drop, mod-eq_of_lt m))
    (λ m. let e : k ≡ length (drop i w) + (i + k - length w) = rw length-drop (omega arith) in
    let d : (i + k) % length w ≡ i + k - length w = mod-eq-sub-mod m ∙ mod-eq_of_lt (omega arith) in
    ap (λ x. get_or (reading w i) x 0) e ∙ get_or-append-add (drop i w) (take i w) (i + k - length w) 0 ∙ rw (d, get_or-take i w (i + k - length w) 0 (omega arith)))

pub around_mod : (w : List ℕ) (i k : ℕ) → around w (i % length w + k) ≡ around w (i + k)
unfolding around
around_mod w i k = rw mod-add-mod

pub around_right : (w : List ℕ) (i k : ℕ) → around w (i + k % length w) ≡ around w (i + k)
unfolding around
around_right w i k = rw add-mod-mod

-- the letters round a reading are those round the ring, from i on
pub around-reading : (w : List ℕ) (i m : ℕ) → i ≤ length w → 0 < length w → around (reading w i) m ≡ around w (i + m)
unfolding around
around-reading w i m h p = rw (length-reading w i h) (reading_at w i (m % length w) h (mod-lt m p) ∙ around_right w i m)

pub reading-reading : (w : List ℕ) (i j : ℕ) → i ≤ length w → j ≤ length w → 0 < length w → reading (reading w i) j ≡ reading w ((i + j) % length w)
reading-reading w i j h l p =
    let e : length (reading w i) ≡ length w = length-reading w i h in
    let a : j ≤ length (reading w i) = rw e l in
    let b : (i + j) % length w ≤ length w = omega (arith, mod-lt (i + j) p) in
    ext_get_or 0 _ _ (length-reading (reading w i) j a ∙ e ∙ sym (length-reading w _ b))
    (λ k m. let n : k < length w = rw (length-reading (reading w i) j a, e) at m in
    reading_at (reading w i) j k a (rw e n) ∙ around-reading w i (j + k) h p ∙ ap (around w) (sym (add_assoc i j k)) ∙ sym (around_mod w (i + j) k) ∙ sym (reading_at w _ k b n))

pub reading_zero : (w : List ℕ) → reading w 0 ≡ w
unfolding reading
reading_zero w = append-nil w

-- back from a reading to the ring
pub reading_back : (w : List ℕ) (i : ℕ) → i ≤ length w → 0 < length w → reading (reading w i) (length w - i) ≡ w
reading_back w i h p =
    let e : i + (length w - i) ≡ length w = omega arith in
    reading-reading w i (length w - i) h (omega arith) p ∙ rw (e, mod_self) (reading_zero w)

-- the way on from a reading to another
on_to : (n i s : ℕ) → i ≤ n → s < n → (i + (s + (n - i)) % n) % n ≡ s
on_to n i s h l =
    let e : i + (s + (n - i)) ≡ s + n = omega arith in
    add-mod-mod i (s + (n - i)) n ∙ rw (e, add-mod_right) (mod-eq_of_lt l)

-- a reading has the ring's lowest reading
lowest_turned : (w : List ℕ) (i s t : ℕ) → i ≤ length w → IsStart w s → IsStart (reading w i) t → reading (reading w i) t ≡ reading w s
lowest_turned w i s t h a b =
    let p : 0 < length w = omega (arith, a.within) in
    let e : length (reading w i) ≡ length w = length-reading w i h in
    let k : ℕ = (s + (length w - i)) % length w in
    let l : k < length w = mod-lt _ p in
    let x : reading (reading w i) k ≡ reading w s = reading-reading w i k h (omega arith) p ∙ ap (reading w) (on_to (length w) i s h a.within) in
    let y : reading (reading w i) t ≡ reading w ((i + t) % length w) = reading-reading w i t h (omega (arith, b.within)) p in
    le_antisym (rw x at (b.lowest k (rw e l))) (rw y (a.lowest _ (mod-lt (i + t) p)))

pub lowest-reading : (w : List ℕ) (i : ℕ) → i ≤ length w → 0 < length w → lowest (reading w i) ≡ lowest w
unfolding lowest
lowest-reading w i h p = lowest_turned w i _ _ h (start_is w p) (start_is (reading w i) (rw (length-reading w i h) p))

pub lowest_of_reading : (u v : List ℕ) → IsReading u v → lowest v ≡ lowest u
lowest_of_reading u v r = rw r.is (lowest-reading u r.at (omega (arith, r.within)) (omega (arith, r.within)))

meeting : (u v : List ℕ) (s t : ℕ) → s < length u → t < length v → reading v t ≡ reading u s → IsReading u v
meeting u v s t h l e =
    let n : length v ≡ length u = sym (length-reading v t (omega arith)) ∙ ap length e ∙ length-reading u s (omega arith) in
    record {
      at = (s + (length v - t)) % length u;
      within = mod-lt _ (omega arith);
      is = sym (reading_back v t (omega arith) (omega arith)) ∙ ap (λ x. reading x (length v - t)) e ∙ reading-reading u s (length v - t) (omega arith) (omega arith) (omega arith);
    }

-- rings with one lowest reading are readings of each other
pub reading_of_lowest : (u v : List ℕ) → 0 < length u → 0 < length v → lowest v ≡ lowest u → IsReading u v
unfolding lowest
reading_of_lowest u v p q e = meeting u v _ _ (start_is u p).within (start_is v q).within e

-- ---- a lowest reading is its own

pub length-lowest : (w : List ℕ) → 0 < length w → length (lowest w) ≡ length w
unfolding lowest
length-lowest w h = length-reading w (start w) (omega (arith, (start_is w h).within))

-- where a reading is the lowest of the ring, it is its own lowest reading
own_start : (w : List ℕ) → 0 < length w → ((j : ℕ) → j < length w → w ≼ reading w j) → start w ≡ 0
own_start w h f = sym (start_one w 0 (record { within = h; lowest = λ j l. rw reading_zero (f j l); first = λ j l m. omega arith }))

pub start_of_lowest : (w : List ℕ) → 0 < length w → start (lowest w) ≡ 0
unfolding lowest
start_of_lowest w h =
    let s : start w < length w = (start_is w h).within in
    let n : length (reading w (start w)) ≡ length w = length-reading w (start w) (omega arith) in
    own_start (reading w (start w)) (rw n h)
    (λ j l. let k : j < length w = rw n at l in
    rw (reading-reading w (start w) j (omega arith) (omega arith) h) ((start_is w h).lowest _ (mod-lt _ h)))

pub own_lowest : (w : List ℕ) → start w ≡ 0 → lowest w ≡ w
unfolding lowest
own_lowest w z = ap (reading w) z ∙ reading_zero w

-- the letter round the ring, below n and from n on
pub around_in : (w : List ℕ) (i : ℕ) → i < length w → around w i ≡ get_or w i 0
unfolding around
around_in w i h = rw (mod-eq_of_lt h)

pub around_out : (w : List ℕ) (i : ℕ) → length w ≤ i → i < length w + length w → around w i ≡ get_or w (i - length w) 0
unfolding around
around_out w i h l = rw (mod-eq-sub-mod h ∙ mod-eq_of_lt (omega arith))
