-- Where the least suffix of a prefix begins: at a head or behind it, and inside a block by the block's own earlier entries.
-- Assumes nothing.
use mathlib.Core.Path.{◌≡◌, refl, sym, ap, ◌∙◌}
use mathlib.Core.List.{List, ◌++◌, append_assoc}
use Prim.Native.Nat.{ℕ, zero, suc, ◌≤◌, ◌<◌, ◌+◌, ◌-◌}
use native.Mathlib.Omega.{arith}
use native.Mathlib.Nat.{add_assoc}
use lib.ListN.{length, take, drop, length-append, length-drop, length-take, take-append-drop}
use lib.Seq.{take-add, drop-drop, take_at, drop-append-le, drop-append-add, length-take-le}
use Rattle.words.specs.Order.Order.{◌≺◌, ◌≼◌}
use Rattle.words.specs.Factors.Lyndon.{Lyndon}
use Rattle.words.specs.Factors.Factor.{flat, copies, FirstRun}
use Rattle.words.specs.Suffixes.Prefix.{least_suffix}
pub use Rattle.words.specs.Suffixes.Block.{Head}
use Rattle.words.proofs.Order.Search.{either, lt_or_ge}
use Rattle.words.proofs.Order.Order.{irrefl, trans, lt_le, le_trans, lt_of_le_lt, lt_of_lt_le, prefix_le, decided}
use Rattle.words.proofs.Factors.Factor.{run_split, run_word, run_within}
use Rattle.words.proofs.Factors.Lyndon.{word_below, from_in}
use Rattle.words.proofs.Suffixes.Prefix.{least_suffix_is}
use Rattle.words.proofs.Factors.Over.{expected}
use Rattle.words.proofs.Factors.Scan.{Scan, drop-take}
use Rattle.words.proofs.Suffixes.Suffix.{suffix_is}

-- ---- heads: no suffix of a longer prefix that begins before m is least

pub head_first : (w : List ℕ) → Head w 0
head_first w = record { within = omega arith; low = λ k i h l x. absurd (omega arith) }

-- a word of the run, or what begins in it, is no less than u
in_run : (e : ℕ) (u z : List ℕ) (x : ℕ) → Lyndon u → x < length (flat (copies e u)) → u ≼ drop x (flat (copies e u) ++ z)
in_run zero u z x y h = absurd (omega arith)
in_run (suc e) u z x y h =
    rw append_assoc
    (either (lt_or_ge x (length u))
    (λ l. rw (drop-append-le x u (flat (copies e u) ++ z) (omega arith)) (le_trans (from_in u x y l) (prefix_le (drop x u) _)))
    (λ l. let q : length u + (x - length u) ≡ x = omega arith in
    rw (← q, drop-append-add) (in_run e u z (x - length u) y (omega (arith, length-append u (flat (copies e u)))))))

-- a suffix of a prefix of w that begins at m + x, as a suffix of a prefix of what stands behind m
suffix_at : (w : List ℕ) (m x k i : ℕ) → m ≤ length w → m + x ≡ i → drop i (take (m + k) w) ≡ drop x (take k (drop m w))
suffix_at w m x k i h e = rw (← e) (sym (drop-drop x m (take (m + k) w)) ∙ ap (drop x) (drop-take m k w h))

take_low : (k : ℕ) (z : List ℕ) → take k z ≼ z
take_low k z = rw take-append-drop at (prefix_le (take k z) (drop k z))

-- behind a run of equal factors stands the next head
pub head_next : (w : List ℕ) (m p e : ℕ) → Head w m → FirstRun (drop m w) p e → Head w (m + e)
head_next w m p e a r =
    let s : List ℕ = drop m w in
    let u : List ℕ = take p s in
    let c : List ℕ = flat (copies r.count u) in
    let y : Lyndon u = run_word s p e r in
    let g : s ≡ c ++ drop e s = run_split s p e r in
    let n : e ≤ length s = run_within s p e r in
    let z : 0 < length c = omega (arith, r.ends, r.within, y.some, length-take p s) in
    let t : (k : ℕ) → take (e + k) s ≡ c ++ take k (drop e s) = λ k. take-add e k s ∙ ap (λ x. x ++ take k (drop e s)) (ap (take e) g ∙ take_at c (drop e s) e r.ends) in
    let b : (k : ℕ) → take k (drop (m + e) w) ≺ u = λ k. rw (← drop-drop e m w) (lt_of_le_lt (take_low k (drop e s)) r.less) in
    record {
      within = omega (arith, length-drop m w, a.within);
      low = λ k i h l x. rw add_assoc
          (either (lt_or_ge i m)
          (λ o. trans (lt_of_lt_le (b k) (rw t (in_run r.count u (take k (drop e s)) 0 y z))) (a.low (e + k) i (omega arith) (omega arith) o))
          (λ o. rw (suffix_at w m (i - m) (e + k) i a.within (omega arith), t) (lt_of_lt_le (b k) (in_run r.count u (take k (drop e s)) (i - m) y (omega (arith, r.ends))))));
    }

-- ---- entries

-- of a prefix that is longer than m, the least suffix begins at m or later
pub entry_head : (w : List ℕ) (m k : ℕ) → Head w m → 0 < k → m + k ≤ length w → least_suffix (take (m + k) w) ≡ m + least_suffix (take k (drop m w))
entry_head w m k a h l =
    let v : List ℕ = take k (drop m w) in
    let n : length v ≡ k = length-take-le k (drop m w) (rw length-drop (omega arith)) in
    let i = least_suffix_is v (omega arith) in
    let e : drop (m + least_suffix v) (take (m + k) w) ≡ drop (least_suffix v) v = suffix_at w m (least_suffix v) k _ a.within refl in
    suffix_is (take (m + k) w) (m + least_suffix v) (rw length-take (omega (arith, i.within)))
    (λ j x. rw e (either (lt_or_ge j m)
    (λ o. le_trans (i.lowest 0 (omega arith)) (lt_le (a.low k j h l o)))
    (λ o. rw (suffix_at w m (j - m) k j a.within (omega arith)) (i.lowest (j - m) (omega (arith, length-take (m + k) w))))))

-- of a Lyndon word, it begins at 0
pub entry_word : (u : List ℕ) → Lyndon u → least_suffix u ≡ 0
entry_word u y = suffix_is u 0 y.some (λ j h. from_in u j y h)

in_word : (u v : List ℕ) (z : ℕ) → Lyndon u → z < length u → u ++ v ≼ drop z (u ++ v)
in_word u v zero y h = irrefl
in_word u v (suc z) y h = rw (drop-append-le (suc z) u v (omega arith)) (lt_le (decided (word_below (suc z) v v y (omega arith) h)))

-- of a Lyndon word u over and over, it begins one u later than that of what stands behind the first u
pub entry_over : (s : List ℕ) (j k : ℕ) → Scan s j k → 0 < k → least_suffix (take j s) ≡ j - k + least_suffix (take k s)
entry_over s j k a h =
    let u : List ℕ = take (j - k) s in
    let v : List ℕ = take k s in
    let o : j ≤ length s = a.inside in
    let q : k < j = a.order in
    let n : length u ≡ j - k = length-take-le (j - k) s (omega arith) in
    let x : length v ≡ k = length-take-le k s (omega arith) in
    let i = least_suffix_is v (omega arith) in
    let d = expected u v _ a.over in
    let p : v ≼ u ++ v = rw d.1 (prefix_le v _) in
    let b : (y : ℕ) (z : ℕ) → j - k + y ≡ z → drop z (u ++ v) ≡ drop y v = λ y z e. ap (λ i. drop i (u ++ v)) (sym e ∙ ap (λ i. i + y) (sym n)) ∙ drop-append-add u v y in
    rw a.made (suffix_is (u ++ v) (j - k + least_suffix v) (rw length-append (omega (arith, i.within)))
    (λ z l. rw (b (least_suffix v) _ refl) (either (lt_or_ge z (j - k))
    (λ m. le_trans (i.lowest 0 (omega arith)) (le_trans p (in_word u v z a.word (omega arith))))
    (λ m. rw (b (z - (j - k)) z (omega arith)) (i.lowest (z - (j - k)) (omega (arith, length-append u v)))))))
