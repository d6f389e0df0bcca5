-- The start table in the scan of a block: how each entry follows from the test, or from an earlier entry of the block.
-- Assumes nothing.
use mathlib.Core.Path.{◌≡◌, sym, ap, ◌∙◌, subst}
use mathlib.Core.List.{List, [], ◌∷◌, ◌++◌, append-nil, append_assoc}
use Prim.Native.Nat.{ℕ, zero, suc, ◌≤◌, ◌<◌, ◌+◌, ◌-◌}
use native.Mathlib.Omega.{arith}
use lib.ListN.{length, take, drop, length-append}
use lib.Seq.{take-add, drop-append_seam, length-take-le}
use Rattle.words.specs.Rings.Ring.{start}
use Rattle.words.proofs.Rings.Ring.{start_one}
use Rattle.words.proofs.Factors.Over.{Over, part, again}
use Rattle.words.proofs.Factors.Scan.{Scan}
use Rattle.words.proofs.Starts.Push.{power, power_zero, power_suc, AtMost, More}
use Rattle.words.proofs.Starts.Chain.{Above}
use Rattle.words.proofs.Starts.Start.{Tail, tail_longest, tail_most, tail_length, Chain, new, good, bad, chain, agrees_same}

-- x is u some times over and then v, a part of u or the whole, with u = v t
pub record Parts (u x : List ℕ) : Type 0 where
  pub count : ℕ
  pub part : List ℕ
  pub rest : List ℕ
  pub whole : x ≡ power count u ++ part
  pub cut : u ≡ part ++ rest
  pub some : 0 < length part

parts : (u x : List ℕ) (b : ℕ) → Over u x b → 0 < length u → 0 < length x → Parts u x
parts u x b (part s e) n h = record { count = 0; part = x; rest = b ∷ s; whole = rw power_zero; cut = e; some = h }
parts u x b (again {v = []} o) n h =
    record { count = 0; part = u; rest = []; whole = rw power_zero (append-nil u); cut = sym (append-nil u); some = n }
parts u x b (again {v = c ∷ y} o) n h =
    let r = parts u (c ∷ y) b o n (omega arith) in
    record {
      count = suc r.count;
      part = r.part;
      rest = r.rest;
      whole = ap (λ z. u ++ z) r.whole ∙ sym (append_assoc u (power r.count u) r.part) ∙ rw power_suc;
      cut = r.cut;
      some = r.some;
    }

-- ---- the part behind the copies is one

power_more : (e : ℕ) (u v : List ℕ) → power (suc e) u ++ v ≡ u ++ (power e u ++ v)
power_more e u v = rw power_suc (append_assoc u (power e u) v)

long : (e : ℕ) (u v x : List ℕ) → v ≡ power (suc e) u ++ x → 0 < length x → length v ≤ length u → ⊥
long e u v x q h l = omega (arith, ap length (q ∙ power_more e u x), length-append u (power e u ++ x), length-append (power e u) x)

one_part : (e f : ℕ) (u v x : List ℕ) → power e u ++ v ≡ power f u ++ x → 0 < length v → length v ≤ length u → 0 < length x → length x ≤ length u → v ≡ x
one_part zero zero u v x q h l m n = rw (power_zero) at q
one_part zero (suc f) u v x q h l m n = absurd (long f u v x (rw power_zero at q) m l)
one_part (suc e) zero u v x q h l m n = absurd (long e u x v (sym (rw power_zero at q)) h n)
one_part (suc e) (suc f) u v x q h l m n =
    one_part e f u v x (sym (drop-append_seam u (power e u ++ v)) ∙ ap (drop (length u)) (sym (power_more e u v) ∙ q ∙ power_more f u x) ∙ drop-append_seam u (power f u ++ x)) h l m n

module _ (s : List ℕ) (k e f : ℕ) (u v t x y z : List ℕ) (a : Tail s k u v t e) (b : Tail s k x y z f) where
  one_word : u ≡ x
  one_word =
      sym a.front ∙ ap (λ i. take i s) (sym (tail_longest s k e u v t a) ∙ tail_longest s k f x y z b) ∙ b.front

  one_rest : t ≡ z
  one_rest =
      let q : power (suc e) u ++ v ≡ power (suc f) u ++ y = sym a.whole ∙ b.whole ∙ ap (λ i. power (suc f) i ++ y) (sym one_word) in
      let m : u ≡ y ++ z = one_word ∙ b.cut in
      let w : v ≡ y = one_part (suc e) (suc f) u v y q a.some (omega (arith, ap length a.cut, length-append v t)) b.some (omega (arith, ap length m, length-append y z)) in
      sym (drop-append_seam v t) ∙ ap (drop (length v)) (sym a.cut ∙ m) ∙ rw w (drop-append_seam y z)

-- an entry tells how its test went
told : (s b : List ℕ) {k n : ℕ} → Chain s b k n → (e : ℕ) (u v t : List ℕ) → Tail s k u v t e → (n ≡ 0 → AtMost t b) × (0 < n → More t b)
told s b (new {l} i y) e u v t r = absurd (omega (arith, tail_most s l e u v t r l (omega arith) y, tail_length s l e u v t r, r.some))
told s b (good {l} {e = f} {u = x} {v = y} {t = z} c o) e u v t r = (λ h. rw (one_rest s l e f u v t x y z r c) o, λ h. absurd (omega arith))
told s b (bad {l} {e = f} {k = m} {n} {u = x} {v = y} {t = z} c o q g d) e u v t r =
    (λ h. absurd (omega (arith, c.word.some)), λ h. rw (one_rest s l e f u v t x y z r c) o)

module _ (s : List ℕ) (j k : ℕ) (a : Scan s j k) (h : 0 < k) where
  size : length (take (j - k) s) ≡ j - k
  size = length-take-le (j - k) s (omega (arith, a.inside))

  read : length (take k s) ≡ k
  read = length-take-le k s (omega (arith, a.order, a.inside))

  pub scan_parts : Parts (take (j - k) s) (take k s)
  scan_parts = parts _ _ _ a.over a.word.some (rw read h)

  tail_at : Tail s j (take (j - k) s) scan_parts.part scan_parts.rest scan_parts.count
  tail_at =
      let r = scan_parts in
      record {
        inside = a.inside;
        word = a.word;
        front = ap (λ i. take i s) size;
        cut = r.cut;
        some = r.some;
        whole = a.made ∙ ap (λ x. take (j - k) s ++ x) r.whole ∙ sym (power_more r.count (take (j - k) s) r.part);
      }

  good_at : (b : List ℕ) → AtMost scan_parts.rest b → Chain s b j 0
  good_at b o = good tail_at o

  bad_at : (b : List ℕ) (n : ℕ) → More scan_parts.rest b → Chain s b k n → Chain s b j (j - k + n)
  bad_at b n o d =
      let x : Chain s b j (length (take (j - k) s) + n) = bad {k = k} tail_at o scan_parts.whole (omega (arith, a.order)) d in
      subst (λ i. Chain s b j (i + n)) size x

  -- where the start is behind the head, it is one copy behind the start of what stands behind the first copy
  pub past : (b : List ℕ) (n i : ℕ) → Chain s b j n → 0 < n → Chain s b k i → Chain s b j (j - k + i)
  past b n i c p d = bad_at b i ((told s b c _ _ _ _ tail_at).1 p) d

  -- ---- up to two copies: the test compares what stands in u behind the first k letters

  near_rest : (c : ℕ) (v t : List ℕ) → take k s ≡ power c (take (j - k) s) ++ v → take (j - k) s ≡ v ++ t → 0 < length v → k ≤ j - k → t ≡ drop k (take (j - k) s)
  near_rest zero v t w q m l =
      let n : length v ≡ k = ap length (sym (rw power_zero at w)) ∙ read in
      sym (drop-append_seam v t) ∙ ap (drop (length v)) (sym q) ∙ ap (λ i. drop i (take (j - k) s)) n
  near_rest (suc c) v t w q m l = absurd (long c (take (j - k) s) (take k s) v w m (omega (arith, size, read)))

  module _ (b : List ℕ) (l : k ≤ j - k) where
    rest_is : scan_parts.rest ≡ drop k (take (j - k) s)
    rest_is = let r = scan_parts in near_rest r.count r.part r.rest r.whole r.cut r.some l

    pub near_good : AtMost (drop k (take (j - k) s)) b → Chain s b j 0
    near_good o = good_at b (rw rest_is o)

    pub near_bad : (n : ℕ) → More (drop k (take (j - k) s)) b → Chain s b k n → Chain s b j (j - k + n)
    near_bad n o d = bad_at b n (rw rest_is o) d

  -- ---- beyond two copies: the entry one copy before tells

  far_tail : (c : ℕ) (v t : List ℕ) → take k s ≡ power c (take (j - k) s) ++ v → take (j - k) s ≡ v ++ t → 0 < length v → j - k < k → (e : ℕ) × Tail s k (take (j - k) s) v t e
  far_tail zero v t w q m l =
      absurd (omega (arith, read, ap length (rw power_zero at w), ap length q, length-append v t, size))
  far_tail (suc c) v t w q m l =
      (c, record { inside = omega (arith, a.order, a.inside); word = a.word; front = ap (λ i. take i s) size; cut = q; some = m; whole = w })

  module _ (b : List ℕ) (n : ℕ) (l : j - k < k) (d : Chain s b k n) where
    told_at : (n ≡ 0 → AtMost scan_parts.rest b) × (0 < n → More scan_parts.rest b)
    told_at =
        let r = scan_parts in
        let f = far_tail r.count r.part r.rest r.whole r.cut r.some l in
        told s b d f.0 _ _ _ f.1

    pub far_good : n ≡ 0 → Chain s b j 0
    far_good e = good_at b (told_at.0 e)

    pub far_bad : 0 < n → Chain s b j (j - k + n)
    far_bad e = bad_at b n (told_at.1 e) d

pub chain_new : (s b : List ℕ) (j : ℕ) → Scan s j 0 → Chain s b j 0
chain_new s b j a = let e : j - 0 ≡ j = omega arith in new a.inside (rw e at a.word)

-- ---- the entry

pub start_entry : (w : List ℕ) (m j n : ℕ) → Chain (drop m w) (take m w) j n → m + j ≤ length w → Above (take (m + j) w) m → start (take (m + j) w) ≡ m + n
start_entry w m j n c h l =
    let q : length (take m w) ≡ m = length-take-le m w (omega arith) in
    let i = chain (drop m w) (take m w) c (take (m + j) w) (take m w) (take-add m j w) (agrees_same _ _ _) (rw q l) in
    sym (start_one _ _ (rw q at i))
