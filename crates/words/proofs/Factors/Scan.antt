-- The first factor, found letter by letter: what a loop that reads the letters keeps, and what it knows at the end.
-- The letters read are a Lyndon word u, over and over. The expected letter goes on; a greater one makes all letters one Lyndon word;
-- a lesser one, or the end, leaves u as the first factor, and the run of factors equal to u ends behind its last whole copy.
-- Assumes nothing.
use mathlib.Core.Path.{◌≡◌, refl, sym, ap, ◌∙◌}
use mathlib.Core.List.{List, [], ◌∷◌, ◌++◌, append-nil, append_assoc}
use Prim.Native.Nat.{ℕ, zero, suc, ◌≤◌, ◌<◌, ◌+◌, ◌-◌, ◌*◌, ◌%◌}
use native.Mathlib.Omega.{arith}
use native.Mathlib.Numerals.{add-one}
use native.Mathlib.Nat.{mod-eq_of_lt, mul-add-mod_self_right}
use lib.ListN.{length, take, drop, get_or, length-append, length-drop, take-append-drop}
use lib.Seq.{take-take, take-add, take-suc, drop-cons, drop_at, get_or_at, get_or-take, get_or-drop, length-take-le, drop-append_seam}
use Rattle.words.specs.Order.Order.{◌≪◌}
use Rattle.words.specs.Factors.Lyndon.{Lyndon}
use Rattle.words.specs.Factors.Factor.{flat, copies, FirstRun}
pub use Rattle.words.specs.Factors.Scan.{Scan, FirstFactor}
use Rattle.words.proofs.Factors.Lyndon.{lyndon_is}
use Rattle.words.proofs.Factors.Factor.{run_factors, run_longest, length-copies}
use Rattle.words.proofs.Factors.Over.{Over, part, again, greater, equal, expected, Rest, lesser}

from_front : (s : List ℕ) (n : ℕ) → 0 < n → n ≤ length s → Over (take n s) [] (get_or s 0 0)
from_front [] n h l = absurd (omega arith)
from_front (a ∷ s) zero h l = absurd (omega arith)
from_front (a ∷ s) (suc n) h l = part (take n s) refl

-- a Lyndon word of all letters read
fresh : (s : List ℕ) (j : ℕ) → 0 < j → j ≤ length s → Lyndon (take j s) → Scan s j 0
fresh s j h l y =
    let e : j - 0 ≡ j = omega arith in
    record { order = h; inside = l; word = rw e y; over = rw e (from_front s j h l); made = rw e (sym (append-nil (take j s))) }

pub scan_first : (s : List ℕ) → 0 < length s → Scan s 1 0
scan_first [] h = absurd (omega arith)
scan_first (a ∷ s) h = fresh (a ∷ s) 1 (omega arith) (omega arith) (lyndon_is (a ∷ []) refl)

pub scan_greater : (s : List ℕ) (j k : ℕ) → Scan s j k → j < length s → get_or s k 0 < get_or s j 0 → Scan s (j + 1) 0
scan_greater s j k a l h =
    fresh s (j + 1) (omega arith) (omega arith)
    (rw (add-one, take-suc s j 0 l, a.made) (greater _ _ _ (get_or s j 0) a.word (again a.over) h).0)

-- the expected letter stands at k
coming : (s : List ℕ) (j k : ℕ) (u : List ℕ) (d : ℕ) → k < j → j ≤ length s → take j s ≡ u ++ take k s → Over u (take k s) d → d ≡ get_or s k 0
coming s j k u d h l m o =
    let x = expected u (take k s) d o in
    sym (get_or_at (take k s) d x.0 0 k (length-take-le k s (omega arith))) ∙ ap (λ y. get_or y k 0) (sym (m ∙ x.1)) ∙ get_or-take j s k 0 h

lesser_head : (s : List ℕ) (j c : ℕ) (t : List ℕ) {b : ℕ} → drop j s ≡ c ∷ t → (j < length s → get_or s j 0 < b) → c < b
lesser_head s j c t e h =
    let l : j < length s = omega (arith, length-drop j s, ap length e) in
    let q : c ≡ get_or s j 0 = cc (drop-cons s j 0 l) in
    rw q (h l)

pub scan_equal : (s : List ℕ) (j k : ℕ) → Scan s j k → j < length s → get_or s k 0 ≡ get_or s j 0 → Scan s (j + 1) (k + 1)
scan_equal s j k a l h =
    let q : k < length s = omega (arith, a.order) in
    let e : j + 1 - (k + 1) ≡ j - k = omega arith in
    let t : take (k + 1) s ≡ take k s ++ (get_or s k 0 ∷ []) = rw (add-one, take-suc s k 0) in
    let m : take (j + 1) s ≡ take (j - k) s ++ take (k + 1) s = rw (add-one j, take-suc s j 0 l, a.made, append_assoc, t, h) in
    let g = equal _ _ _ a.over a.word.some in
    let o : Over (take (j - k) s) (take (k + 1) s) g.0 = rw t g.1 in
    let d : g.0 ≡ get_or s (k + 1) 0 = coming s (j + 1) (k + 1) _ g.0 (omega (arith, a.order)) (omega arith) m o in
    record { order = omega (arith, a.order); inside = omega arith; word = rw e a.word; over = rw (e, ← d) o; made = rw e m }

-- the first factor is the word repeated, and the letters read beyond its whole copies are fewer than it has
rest_at_lem : (s : List ℕ) (j k : ℕ) → Scan s j k → (j < length s → get_or s j 0 < get_or s k 0) → Rest (take (j - k) s) (take k s) (drop j s)
rest_at_lem s j k a h = lesser _ _ (drop j s) _ a.over (λ c t e. lesser_head s j c t e h)

over_by : (j p e r : ℕ) → j ≡ e * p + r → r < p → j % p ≡ r
over_by j p e r h l = rw (h, mul-add-mod_self_right e p r) (mod-eq_of_lt l)

run_of : (s : List ℕ) (j k : ℕ) → Scan s j k → Rest (take (j - k) s) (take k s) (drop j s)
    → FirstRun s (j - k) (j - j % (j - k)) × (j < length s → drop (j - j % (j - k)) s ≪ take (j - k) s)
run_of s j k a r =
    let u : List ℕ = take (j - k) s in
    let n : length u ≡ j - k = length-take-le (j - k) s (omega (arith, a.inside)) in
    let g : s ≡ flat (copies (suc r.count) u) ++ r.rest =
    sym (take-append-drop j s) ∙ ap (λ x. x ++ drop j s) a.made ∙ append_assoc u (take k s) (drop j s) ∙ ap (λ x. u ++ x) r.split ∙ sym (append_assoc u _ _) in
    let x : length (flat (copies (suc r.count) u)) ≡ suc r.count * (j - k) = length-copies (suc r.count) u ∙ ap (λ y. suc r.count * y) n in
    let m : j ≡ length (flat (copies (suc r.count) u)) + r.part = rw length-append (omega (arith, r.read, n, length-take-le k s (omega (arith, a.order, a.inside)), a.order)) in
    let e : length (flat (copies (suc r.count) u)) ≡ j - j % (j - k) = omega (arith, m, over_by j (j - k) (suc r.count) r.part (m ∙ ap (λ y. y + r.part) x) (omega (arith, n, r.short))) in
    let d : drop (j - j % (j - k)) s ≡ r.rest = let c : List ℕ = flat (copies (suc r.count) u) in rw (← e) (ap (drop (length c)) g ∙ drop-append_seam c r.rest) in (
      record {
        first = sym (run_longest r.count u r.rest s a.word r.less g ∙ n);
        count = suc r.count;
        ends = e;
        within = omega (arith, e, n, length-append u (flat (copies r.count u)));
        run = rw d (run_factors r.count u r.rest s a.word r.less g);
        less = rw d r.less;
      },
      λ h. rw d (r.far (rw length-drop (omega arith))),
    )

pub scan_end : (s : List ℕ) (j k : ℕ) → Scan s j k → (j < length s → get_or s j 0 < get_or s k 0) → FirstRun s (j - k) (j - j % (j - k))
scan_end s j k a h = (run_of s j k a (rest_at_lem s j k a h)).0

-- at a lesser letter, a letter decides that what stands behind the run is less
pub scan_drop : (s : List ℕ) (j k : ℕ) → Scan s j k → j < length s → get_or s j 0 < get_or s k 0 → drop (j - j % (j - k)) s ≪ take (j - k) s
scan_drop s j k a h l = (run_of s j k a (rest_at_lem s j k a (λ x. l))).1 h

-- the scan of a longer word is the scan of a prefix that it has not left
pub scan_take : (s : List ℕ) (n j k : ℕ) → j ≤ n → n ≤ length s → Scan s j k → Scan (take n s) j k
scan_take s n j k h l a =
    let o : k < j = a.order in
    let u : take (j - k) (take n s) ≡ take (j - k) s = take-take (j - k) n s (omega arith) in
    let v : take k (take n s) ≡ take k s = take-take k n s (omega arith) in
    record {
      order = o;
      inside = rw (length-take-le n s l) h;
      word = rw u a.word;
      over = rw (u, v, get_or-take n s k 0 (omega arith)) a.over;
      made = take-take j n s h ∙ a.made ∙ rw (u, v);
    }

-- the letters read tell which letter is expected
pub scan_one : (s : List ℕ) (j k i : ℕ) → Scan s j k → Scan s j i → k ≡ i
scan_one s j k i a b =
    let n : length (take j s) ≡ j = length-take-le j s a.inside in
    let x = (scan_end (take j s) j k (scan_take s j j k (omega arith) a.inside a) (λ l. absurd (omega arith))).first in
    let y = (scan_end (take j s) j i (scan_take s j j i (omega arith) b.inside b) (λ l. absurd (omega arith))).first in
    omega (arith, a.order, b.order)

-- ---- what a scan has read of the slice behind the first factor

over_less : (u x : List ℕ) (b : ℕ) → Over u x b → length u ≤ length x → Over u (drop (length u) x) b
over_less u x b (part s e) h = absurd (omega (arith, simp length-append at (ap length e)))
over_less u w b (again {v} o) h = rw drop-append_seam o

pub drop-take : (m k : ℕ) (w : List ℕ) → m ≤ length w → drop m (take (m + k) w) ≡ take k (drop m w)
drop-take m k w h = rw take-add (drop_at (take m w) (take k (drop m w)) m (length-take-le m w h))

-- where the letter expected stands behind the first factor, that word stands there again, and the slice behind the factor is read so far
module _ (s : List ℕ) (p k : ℕ) (a : Scan s (k + p) k) (h : p ≤ k) where
  size_read : k + p - k ≡ p
  size_read = omega arith

  abbrev u : List ℕ
  u = take p s

  length_u : length u ≡ p
  length_u = length-take-le p s (omega (arith, a.inside))

  whole : p + (k - p) ≡ k
  whole = omega arith

  same_read : take k (drop p s) ≡ take k s
  same_read =
      let c : p + k ≡ k + p = omega arith in
      let m : take (k + p) s ≡ u ++ take k s = rw size_read at a.made in
      sym (drop-take p k s (omega (arith, a.inside))) ∙ ap (λ i. drop p (take i s)) c ∙ ap (drop p) m ∙ drop_at u (take k s) p length_u

  pub word_again : take p (drop p s) ≡ take p s
  word_again = sym (take-take p k (drop p s) h) ∙ ap (take p) same_read ∙ take-take p k s h

  pub scan_behind : Scan (drop p s) k (k - p)
  scan_behind =
      let i : k + p ≤ length s = a.inside in
      let v : take (k - p) (drop p s) ≡ drop p (take k s) = sym (rw whole at (drop-take p (k - p) s (omega arith))) in
      let w : take (k - p) (drop p (drop p s)) ≡ take (k - p) (drop p s) = sym (rw whole at (drop-take p (k - p) (drop p s) (rw length-drop (omega arith)))) ∙ ap (drop p) same_read ∙ sym v in
      let q : k - (k - p) ≡ p = omega arith in
      let x : Over u (take k s) (get_or s k 0) = rw size_read at a.over in
      let y : Over u (drop p (take k s)) (get_or s k 0) = rw length_u at (over_less u (take k s) (get_or s k 0) x (rw (length_u, length-take-le k s (omega arith)) h)) in
      record {
        order = omega (arith, a.order);
        inside = rw length-drop (omega arith);
        word = rw (q, word_again) (rw size_read at a.word);
        over = rw (q, word_again, v, get_or-drop, whole) y;
        made = ap (λ i. take i (drop p s)) (sym whole) ∙ take-add p (k - p) (drop p s) ∙ rw (q, w);
      }

-- ---- the first factor, by its scan

module _ (s : List ℕ) (p j k : ℕ) (f : FirstFactor s p j k) where
  length_factor : j - k ≡ p
  length_factor = omega (arith, f.size)

  pub factor_run : FirstRun s p (j - j % p)
  factor_run = rw length_factor at (scan_end s j k f.scan f.stops)

  pub factor_word : Lyndon (take p s)
  factor_word = rw length_factor at f.scan.word

  pub factor_within : (0 < p) × (p ≤ j) × (j ≤ length s)
  factor_within = (omega (arith, f.size, f.scan.order), omega (arith, f.size), f.scan.inside)

  -- the slice behind the factor, where its word stands there again: that word is its first factor, and the scan has found it already
  pub factor_behind : p ≤ k → FirstFactor (drop p s) p (j - p) (k - p)
  factor_behind h =
      let e : j ≡ k + p = f.size in
      let c : j - p ≡ k = omega arith in
      let x : p + k ≡ j = omega arith in
      let y : p + (k - p) ≡ k = omega arith in
      rw c (record {
        size = omega arith;
        scan = scan_behind s p k (rw e at f.scan) h;
        stops = λ l. rw (get_or-drop, x, get_or-drop, y) (f.stops (omega (arith, length-drop p s)));
      })
