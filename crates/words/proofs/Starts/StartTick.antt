-- The ticks of a block: what to add to the next entry, by each of the tests, and what a loop that ticks the block keeps.
-- Assumes nothing.
use mathlib.Core.Path.{◌≡◌, refl, sym, ap, ◌∙◌}
use mathlib.Core.List.{List}
use Prim.Native.Nat.{ℕ, suc, ◌≤◌, ◌<◌, ◌+◌, ◌-◌}
use native.Mathlib.Omega.{arith}
use native.Mathlib.Nat.{eq-or-lt_of_le}
use borrow.Author.Tests.{le-leb, lt-leb}
use lib.ListN.{length, take, drop, get_or, set, length-drop, length-set}
use lib.Seq.{get_or-set_same, get_or-set_other, length-take-le, drop-drop}
use Rattle.words.specs.Factors.Lyndon.{Lyndon}
use Rattle.words.specs.Factors.Factor.{longest}
use Rattle.words.specs.Repeats.Match.{MatchLength}
use Rattle.words.specs.Suffixes.Block.{Head, Block}
use Rattle.words.specs.Starts.Start.{AtMost, More, Chain}
use Rattle.words.specs.Starts.Tick.{untick, Tick, yes, no, Judged, add, leave, Outside, Fresh, Ticking}
use Rattle.words.proofs.Factors.Scan.{drop-take}
use Rattle.words.proofs.Order.Search.{either, lt_or_ge}
use Rattle.words.proofs.Factors.Factor.{longest-least, longest_within}
use Rattle.words.proofs.Suffixes.Fill.{block_first, block_one}
use Rattle.words.proofs.Starts.StartScan.{near_good, near_bad, far_good, far_bad, chain_new}
use Rattle.words.proofs.Starts.StartMatch.{whole_ok, whole_not, ok_front, match_whole, match_low, match_high}

-- ---- a table that is another but for the entries from m to l

pub outside_none : (o : List ℕ) (m l : ℕ) → Outside o o m l
outside_none o m l = record { size = refl; before = λ i x. refl; behind = λ i x. refl }

pub outside_more : (o t : List ℕ) (m l v : ℕ) → Outside o t m l → m ≤ l → Outside o (set t l v) m (l + 1)
outside_more o t m l v f h = record {
  size = length-set t l v ∙ f.size;
  before = λ i x. get_or-set_other t l i v 0 (λ q. omega arith) ∙ f.before i x;
  behind = λ i x. get_or-set_other t l i v 0 (λ q. omega arith) ∙ f.behind i (omega arith);
}

pub outside_on : (o u t : List ℕ) (m l : ℕ) → Outside o u m l → Outside u t m l → Outside o t m l
outside_on o u t m l f g =
    record { size = g.size ∙ f.size; before = λ i x. g.before i x ∙ f.before i x; behind = λ i x. g.behind i x ∙ f.behind i x }

-- a first store at m
pub outside_at : (o t : List ℕ) (m l v : ℕ) → m < l → Outside (set o m v) t m l → Outside o t m l
outside_at o t m l v h f = record {
  size = f.size ∙ length-set o m v;
  before = λ i x. f.before i x ∙ get_or-set_other o m i v 0 (λ q. omega arith);
  behind = λ i x. f.behind i x ∙ get_or-set_other o m i v 0 (λ q. omega arith);
}

-- ---- ticks

pub untick_high : (h v : ℕ) → h + h ≤ v → untick h v ≡ v - (h + h)
unfolding untick
untick_high h v l = rw (le-leb (h + h) v l)

pub untick_low : (h v : ℕ) → v < h + h → untick h v ≡ v
unfolding untick
untick_low h v l = rw (lt-leb (h + h) v l)

pub untick_le : (h v : ℕ) → untick h v ≤ v
untick_le h v = either (lt_or_ge v (h + h)) (λ l. omega (arith, untick_low h v l)) (λ l. omega (arith, untick_high h v l))

ticked_by : (h : ℕ) (s b : List ℕ) (j v a : ℕ) → v < h + h → Judged h s b j a → Tick h s b j (v + a)
ticked_by h s b j v a l (add e c) = yes (omega arith) c
ticked_by h s b j v a l (leave e p c) = no (omega arith) p c

unticked_by : (h : ℕ) (s b : List ℕ) (j v a : ℕ) → v < h + h → Judged h s b j a → untick h (v + a) ≡ untick h v
unticked_by h s b j v a l (add e c) = untick_high h (v + a) (omega arith) ∙ omega (arith, untick_low h v l)
unticked_by h s b j v a l (leave e p c) = untick_low h (v + a) (omega arith) ∙ omega (arith, untick_low h v l)

-- what is added to an entry is 0 or h + h
pub judged_size : {h : ℕ} {s b : List ℕ} {j a : ℕ} → Judged h s b j a → a ≤ h + h
judged_size (add e c) = omega arith
judged_size (leave e p c) = omega arith

-- ---- the ticking of a block

-- the head's own entry
pub ticking_first : (h : ℕ) (w t : List ℕ) (m : ℕ) → Head w m → m < length w → length w ≤ length t → Fresh h w t m → Ticking h w (set t m (h + h)) m 1 (m + 1)
ticking_first h w t m a l r f =
    let b = block_first w m a l in
    let x : m + 1 - m - 1 ≡ 0 = omega arith in
    let y : m + 1 - m ≡ 1 = omega arith in
    let c : Chain (drop m w) (take m w) 1 0 = chain_new (drop m w) (take m w) 1 (rw (x, y) at b.scan) in
    record {
      block = b;
      tick = λ i p q. let e : i ≡ m = omega arith in
          let d : suc m - m ≡ 1 = omega arith in
          rw (e, get_or-set_same t m (h + h) 0 (omega arith), d) (yes (omega arith) c);
      match = λ i p q. rw (get_or-set_other t m i (h + h) 0 (λ e. omega arith), untick_low h (get_or t i 0) (f.small i (omega arith) (omega (arith, longest_within (drop m w), length-drop m w)))) (f.match i p q);
      small = λ i p q. rw (get_or-set_other t m i (h + h) 0 (λ e. omega arith)) (f.small i (omega arith) q);
      up = λ i q x y. absurd (omega arith);
    }

module _ (h : ℕ) (w t : List ℕ) (m p l : ℕ) (g : Ticking h w t m p l) (n : l < length w) where
  -- one entry more
  pub ticking_more : length w ≤ length t → get_or w (l - p) 0 ≤ get_or w l 0 → (q : ℕ) → Block w m q (l + 1) → (a : ℕ)
      → Judged h (drop m w) (take m w) (l + 1 - m) a → Ticking h w (set t l (get_or t l 0 + a)) m q (l + 1)
  ticking_more r x q b a j =
      let v : ℕ = get_or t l 0 in
      let e : get_or (set t l (v + a)) l 0 ≡ v + a = get_or-set_same t l (v + a) 0 (omega arith) in
      let o : (i : ℕ) → (i ≡ l → ⊥) → get_or (set t l (v + a)) i 0 ≡ get_or t i 0 = λ i z. get_or-set_other t l i (v + a) 0 z in
      let s : v < h + h = g.small l (omega arith) n in
      let y : l + 1 - m ≡ suc l - m = omega arith in
      record {
        block = b;
        tick = λ i c d. either (eq-or-lt_of_le {n = i} {m = l} (omega arith)) (λ z. rw (z, e, ← y) (ticked_by h _ _ _ v a s j)) (λ z. rw (o i (λ k. omega arith)) (g.tick i c z));
        match = λ i c d. either (lt_or_ge i l) (λ z. rw (o i (λ k. omega arith)) (g.match i c d))
            (λ z. either (eq-or-lt_of_le z) (λ k. rw (← k, e, unticked_by h _ _ _ v a s j) (rw (← k) at (g.match i c d))) (λ k. rw (o i (λ x. omega arith)) (g.match i c d)));
        small = λ i c d. rw (o i (λ k. omega arith)) (g.small i (omega arith) d);
        up = λ i k c d f. either (eq-or-lt_of_le {n = i} {m = l} (omega arith))
            (λ z. let k-is : p ≡ k = block_one w m p k l g.block (rw z at f) in rw (z, ← k-is) x) (λ z. g.up i k c z f);
      }

  -- a greater letter: all letters of the block are one Lyndon word
  pub judged_new : Block w m (l + 1 - m) (l + 1) → Judged h (drop m w) (take m w) (l + 1 - m) (h + h)
  judged_new b =
      let e : l + 1 - m - (l + 1 - m) ≡ 0 = omega arith in
      add refl (chain_new (drop m w) (take m w) (l + 1 - m) (rw e at b.scan))

  -- the expected letter: by the entry one word before, or by the test
  module _ (d : Block w m p (l + 1)) where
    below : m + p ≤ l
    below = g.block.order

    some : 0 < p
    some = g.block.some

    earlier : Tick h (drop m w) (take m w) (l + 1 - m - p) (get_or t (l - p) 0)
    earlier =
        let e : suc (l - p) - m ≡ l + 1 - m - p = omega (arith, below) in
        rw e at (g.tick (l - p) (omega (arith, below)) (omega (arith, below, some)))

    module _ (c : p + p < l + 1 - m) where
      far_add : Tick h (drop m w) (take m w) (l + 1 - m - p) (get_or t (l - p) 0) → h + h ≤ get_or t (l - p) 0 → Judged h (drop m w) (take m w) (l + 1 - m) (h + h)
      far_add (no x y z) q = absurd (omega arith)
      far_add (yes x z) q = add refl (far_good (drop m w) _ _ d.scan (omega arith) (take m w) _ (omega (arith, below)) z refl)

      far_leave : Tick h (drop m w) (take m w) (l + 1 - m - p) (get_or t (l - p) 0) → get_or t (l - p) 0 < h + h → Judged h (drop m w) (take m w) (l + 1 - m) 0
      far_leave (yes x z) q = absurd (omega arith)
      far_leave (no {n = i} x y z) q = leave {n = l + 1 - m - (l + 1 - m - p) + i} refl (omega arith) (far_bad (drop m w) _ _ d.scan (omega arith) (take m w) _ (omega (arith, below)) z y)

      pub judged_far : h + h ≤ get_or t (l - p) 0 → Judged h (drop m w) (take m w) (l + 1 - m) (h + h)
      judged_far q = far_add earlier q

      pub judged_far_not : get_or t (l - p) 0 < h + h → Judged h (drop m w) (take m w) (l + 1 - m) 0
      judged_far_not q = far_leave earlier q

    module _ (c : l + 1 - m ≤ p + p) where
      word : Lyndon (take p (drop m w))
      word = let e : l + 1 - m - (l + 1 - m - p) ≡ p = omega (arith, below) in rw e at d.scan.word

      near_add : AtMost (drop (l + 1 - m - p) (take p (drop m w))) (take m w) → Judged h (drop m w) (take m w) (l + 1 - m) (h + h)
      near_add o =
          let e : l + 1 - m - (l + 1 - m - p) ≡ p = omega (arith, below) in
          add refl (near_good (drop m w) _ _ d.scan (omega (arith, below)) (take m w) (omega (arith, below)) (rw e o))

      near_leave : Tick h (drop m w) (take m w) (l + 1 - m - p) (get_or t (l - p) 0) → More (drop (l + 1 - m - p) (take p (drop m w))) (take m w)
          → Judged h (drop m w) (take m w) (l + 1 - m) 0
      near_leave (yes x z) o =
          let e : l + 1 - m - (l + 1 - m - p) ≡ p = omega (arith, below) in
          leave {n = l + 1 - m - (l + 1 - m - p) + 0} refl (omega (arith, some)) (near_bad (drop m w) _ _ d.scan (omega (arith, below)) (take m w) (omega (arith, below)) _ (rw e o) z)
      near_leave (no {n = i} x y z) o =
          let e : l + 1 - m - (l + 1 - m - p) ≡ p = omega (arith, below) in
          leave {n = l + 1 - m - (l + 1 - m - p) + i} refl (omega arith) (near_bad (drop m w) _ _ d.scan (omega (arith, below)) (take m w) (omega (arith, below)) _ (rw e o) z)

      -- two whole words
      pub judged_whole : l + 1 - m ≡ p + p → Judged h (drop m w) (take m w) (l + 1 - m) (h + h)
      judged_whole q =
          near_add (ok_front _ _ 0 (omega arith) (omega arith) (λ i x. absurd (omega arith))
          (rw (length-drop, length-take-le p (drop m w) (rw length-drop (omega (arith, below)))) (omega (arith, below))))

      -- the part of the text that is tested
      tested : drop (l + 1 - p) (take (m + p) w) ≡ drop (l + 1 - m - p) (take p (drop m w))
      tested =
          let e : m + (l + 1 - m - p) ≡ l + 1 - p = omega (arith, below) in
          ap (λ i. drop i (take (m + p) w)) (sym e) ∙ sym (drop-drop (l + 1 - m - p) m (take (m + p) w)) ∙ ap (drop (l + 1 - m - p)) (drop-take m p w g.block.head.within)

      module _ (z : ℕ) (e : z ≡ untick h (get_or t (l + 1 - p) 0)) (c2 : l + 1 - m < p + p) where
        matched : MatchLength w (l + 1 - p) z
        matched =
            let q : p ≤ longest (drop m w) = longest-least (drop m w) p (rw length-drop (omega (arith, below))) word in
            rw e (g.match (l + 1 - p) (omega (arith, below)) (omega arith))

        pub judged_reach : m + p ≤ l + 1 - p + z → Judged h (drop m w) (take m w) (l + 1 - m) (h + h)
        judged_reach q =
            near_add (whole_ok w m p (l + 1 - m - p) word (omega (arith, below)) (rw tested at (match_whole w (l + 1 - p) (m + p) z matched (omega (arith, below)) (omega (arith, below)) q)))

        module _ (q : l + 1 - p + z < m + p) where
          pub judged_low : get_or w (l + 1 - p + z) 0 < get_or w z 0 → Judged h (drop m w) (take m w) (l + 1 - m) (h + h)
          judged_low x =
              near_add (whole_ok w m p (l + 1 - m - p) word (omega (arith, below)) (rw tested at (match_low w (l + 1 - p) (m + p) z matched (omega (arith, below)) (omega (arith, below)) q x)))

          pub judged_high : get_or w z 0 ≤ get_or w (l + 1 - p + z) 0 → Judged h (drop m w) (take m w) (l + 1 - m) 0
          judged_high x =
              near_leave earlier (whole_not w m p (l + 1 - m - p) word (omega (arith, below)) (rw tested at (match_high w (l + 1 - p) (m + p) z matched (omega (arith, below)) (omega (arith, below)) q x)))
