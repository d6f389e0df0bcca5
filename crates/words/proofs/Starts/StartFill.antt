-- The entries of a block from its ticks: what a loop over the block keeps, and a step for each way it goes.
-- Assumes nothing.
use mathlib.Core.Path.{◌≡◌, ◌∙◌}
use mathlib.Core.List.{List}
use Prim.Native.Nat.{ℕ, suc, ◌≤◌, ◌<◌, ◌+◌, ◌-◌}
use native.Mathlib.Omega.{arith}
use native.Mathlib.Nat.{eq-or-lt_of_le}
use lib.ListN.{length, take, drop, get_or, set}
use lib.Seq.{get_or-set_same, get_or-set_other}
use Rattle.words.specs.Suffixes.Block.{Head, Block}
use Rattle.words.specs.Starts.Start.{Chain}
use Rattle.words.specs.Starts.Tick.{Tick, yes, no, Outside, Ticked, Started, Done}
use Rattle.words.proofs.Order.Search.{either}
use Rattle.words.proofs.Suffixes.Fill.{block_first, block_one}
use Rattle.words.proofs.Starts.StartScan.{past, chain_new}
use Rattle.words.proofs.Starts.StartTick.{outside_none, outside_more, outside_on, outside_at}

one_more : (v m p l : ℕ) → m ≤ v → m + p ≤ l → v + p - m ≡ l + 1 - m - (l + 1 - m - p) + (v - m)
one_more v m p l a b = omega arith

-- the entry one word before is below its own place
pub started_low : (w o t : List ℕ) (m l : ℕ) → Started w o t m l → (p : ℕ) → Block w m p l → get_or t (l - p) 0 + p ≤ l
started_low w o t m l f p b = omega (arith, f.below (l - p) (omega (arith, b.order)) (omega (arith, b.some, b.order)), b.order)

-- the next entry still has its tick
pub started_tick : (h : ℕ) (w u t : List ℕ) (m e l : ℕ) → Ticked h w u m e → Started w (set u m m) t m l → m < l → l < e
    → Tick h (drop m w) (take m w) (suc l - m) (get_or t l 0)
started_tick h w u t m e l a f x y =
    let q : get_or t l 0 ≡ get_or u l 0 = f.outside.behind l (omega arith) ∙ get_or-set_other u m l m 0 (λ z. omega arith) in
    rw q (a.ticking.tick l (omega arith) y)

module _ (w o t : List ℕ) (m l : ℕ) (f : Started w o t m l) (h : m ≤ l) (g : l < length t) where
  started_more : (v : ℕ) → m ≤ v → v ≤ l → Chain (drop m w) (take m w) (suc l - m) (v - m) → Started w o (set t l v) m (l + 1)
  started_more v p r c = record {
    above = λ i x y. either (eq-or-lt_of_le {n = i} {m = l} (omega arith)) (λ e. rw (e, get_or-set_same t l v 0 g) p) (λ e. rw (get_or-set_other t l i v 0 (λ q. omega arith)) (f.above i x e));
    below = λ i x y. either (eq-or-lt_of_le {n = i} {m = l} (omega arith)) (λ e. rw (e, get_or-set_same t l v 0 g) r) (λ e. rw (get_or-set_other t l i v 0 (λ q. omega arith)) (f.below i x e));
    entry = λ i x y. either (eq-or-lt_of_le {n = i} {m = l} (omega arith)) (λ e. rw (e, get_or-set_same t l v 0 g) c) (λ e. rw (get_or-set_other t l i v 0 (λ q. omega arith)) (f.entry i x e));
    outside = outside_more o t m l v f.outside h;
  }

  chained : (v n : ℕ) → m ≤ v → v ≤ l → v - m ≡ n → Chain (drop m w) (take m w) (l + 1 - m) n → Started w o (set t l v) m (l + 1)
  chained v n p r q c = let e : suc l - m ≡ l + 1 - m = omega arith in started_more v p r (rw (e, q) c)

  -- the whole block is one Lyndon word
  pub started_new : Block w m (l + 1 - m) (l + 1) → Started w o (set t l m) m (l + 1)
  started_new b =
      let e : l + 1 - m - (l + 1 - m) ≡ 0 = omega arith in
      chained m 0 (omega arith) h (omega arith) (chain_new (drop m w) (take m w) (l + 1 - m) (rw e at b.scan))

  -- the word goes on: by the tick
  module _ (k p v : ℕ) (b : Block w m p l) (d : Block w m p (l + 1)) where
    pub started_yes : Tick k (drop m w) (take m w) (suc l - m) v → k + k ≤ v → Started w o (set t l m) m (l + 1)
    started_yes (no x y c) q = absurd (omega arith)
    started_yes (yes x c) q = let e : suc l - m ≡ l + 1 - m = omega arith in chained m 0 (omega arith) h (omega arith) (rw e at c)

    pub started_no : Tick k (drop m w) (take m w) (suc l - m) v → v < k + k → Started w o (set t l (get_or t (l - p) 0 + p)) m (l + 1)
    started_no (yes x c) q = absurd (omega arith)
    started_no (no x y c) q =
        let e : suc l - m ≡ l + 1 - m = omega arith in
        let i : suc (l - p) - m ≡ l + 1 - m - p = omega (arith, b.order) in
        let a = f.above (l - p) (omega (arith, b.order)) (omega (arith, b.some, b.order)) in
        let z = f.entry (l - p) (omega (arith, b.order)) (omega (arith, b.some, b.order)) in
        chained _ _ (omega arith) (started_low w o t m l f p b) (one_more _ m p l a b.order) (past (drop m w) _ _ d.scan (omega (arith, b.order)) (take m w) _ _ (rw e at c) y (rw i at z))

started_none : (w o : List ℕ) (m : ℕ) → Started w o o m m
started_none w o m =
    record { above = λ i x y. absurd (omega arith); below = λ i x y. absurd (omega arith); entry = λ i x y. absurd (omega arith); outside = outside_none o m m }

-- the head's own entry
pub started_first : (w o : List ℕ) (m : ℕ) → Head w m → m < length w → m < length o → Started w (set o m m) (set o m m) m (m + 1)
started_first w o m a h l =
    let e : m + 1 - m ≡ 1 = omega arith in
    let f = started_new w o o m m (started_none w o m) (omega arith) l (rw e (block_first w m a h)) in
    record { above = f.above; below = f.below; entry = f.entry; outside = outside_none (set o m m) m (m + 1) }

-- u is the table with the block ticked: filled up to the same place, it is done
pub done : (h : ℕ) (w u t : List ℕ) (m p l : ℕ) → Ticked h w u m l → Block w m p l → Started w (set u m m) t m l → Done w u t m l
done h w u t m p l a b f =
    let e : a.period ≡ p = block_one w m a.period p l a.ticking.block b in
    record {
      period = p;
      block = b;
      ends = rw (← e) a.ends;
      started = record { above = f.above; below = f.below; entry = f.entry; outside = outside_at u t m l m (omega (arith, b.order, b.some)) f.outside };
    }

-- ticked and filled
pub done_on : (w o u t : List ℕ) (m l : ℕ) → Outside o u m l → Done w u t m l → Done w o t m l
done_on w o u t m l a d =
    let f = d.started in
    record {
      period = d.period;
      block = d.block;
      ends = d.ends;
      started = record { above = f.above; below = f.below; entry = f.entry; outside = outside_on o u t m l a f.outside };
    }
