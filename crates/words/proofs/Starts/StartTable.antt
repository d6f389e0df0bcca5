-- The start table whole: the heads flagged among the match lengths, each block filled from the last to the first, and at the end the start of every prefix.
-- Assumes nothing.
use mathlib.Core.Path.{◌≡◌, refl, sym, ◌∙◌, subst}
use mathlib.Core.List.{List, ◌++◌}
use Prim.Native.Nat.{ℕ, suc, ◌≤◌, ◌<◌, ◌+◌, ◌-◌, ◌%◌}
use native.Mathlib.Omega.{arith}
use native.Mathlib.Nat.{eq-or-lt_of_le}
use lib.ListN.{length, take, drop, get_or, set, length-drop, take-append-drop}
use lib.Seq.{get_or-set_same, get_or-set_other, ext_get_or, get_or-take, get_or-drop, length-take-le}
use Rattle.words.specs.Rings.Ring.{start}
use Rattle.words.specs.Factors.Factor.{FirstRun}
use Rattle.words.specs.Suffixes.Prefix.{start_table}
use Rattle.words.specs.Repeats.Match.{MatchTable, Kept}
use Rattle.words.specs.Suffixes.Block.{Head}
use Rattle.words.specs.Starts.Tick.{Flagged, none, more, Fresh, Done}
use Rattle.words.proofs.Order.Search.{either, lt_or_ge}
use Rattle.words.proofs.Factors.Factor.{run_word, run_size}
use Rattle.words.proofs.Suffixes.Prefix.{length-start_table, start_table_at}
use Rattle.words.proofs.Factors.Runs.{first_run_one}
use Rattle.words.proofs.Factors.Scan.{scan_end}
use Rattle.words.proofs.Suffixes.Block.{head_first, head_next}
use Rattle.words.proofs.Suffixes.Fill.{block_now, block_then}
use Rattle.words.proofs.Repeats.Match.{kept_same, kept_set, kept_on}
use Rattle.words.proofs.Starts.Chain.{Above}
use Rattle.words.proofs.Starts.StartScan.{start_entry}
use Rattle.words.proofs.Starts.StartHead.{above_cut}

-- ---- the heads, flagged

pub run_some : (s : List ℕ) (p e : ℕ) → FirstRun s p e → 0 < e
run_some s p e r = omega (arith, r.within, (run_word s p e r).some, run_size s p e r)

flagged_same : {h : ℕ} {w t : List ℕ} {m : ℕ} (u : List ℕ) → Flagged h w t m → ((i : ℕ) → i < m → get_or u i 0 ≡ get_or t i 0) → Flagged h w u m
flagged_same u none f = none
flagged_same {w = w} u (more {m} {p} {e} k l r a b c) f =
    let x : 0 < e = run_some (drop m w) p e r in
    more (flagged_same u k (λ i y. f i (omega arith))) l r (rw (f m (omega arith)) a) (rw (f m (omega arith)) b) (λ i y z. rw (f i z) (c i y z))

pub flagged_head : {h : ℕ} {w t : List ℕ} {m : ℕ} → Flagged h w t m → Head w m
flagged_head {w = w} none = head_first w
flagged_head {w = w} (more {m} {p} {e} k l r a b c) = head_next w m p e (flagged_head k) r

-- what a loop that flags them keeps: those before m are flagged, and from m on the table is o
pub record Flagging (h : ℕ) (w o t : List ℕ) (m : ℕ) : Type 0 where
  pub flags : Flagged h w t m
  pub after : (i : ℕ) → m ≤ i → get_or t i 0 ≡ get_or o i 0
  pub kept : Kept (length w) o t

pub flagging_none : (h : ℕ) (w o : List ℕ) → Flagging h w o o 0
flagging_none h w o = record { flags = none; after = λ i x. refl; kept = kept_same (length w) o }

module _ (h : ℕ) (w o t : List ℕ) (m : ℕ) (a : MatchTable w o) (s : length w ≤ h) (l : m < length w) (g : Flagging h w o t m) where
  pub flagging_low : get_or t m 0 < h
  flagging_low =
      rw (g.after m (omega arith)) (either (eq-or-lt_of_le {n = 0} {m = m} (omega arith)) (λ e. rw (← e, a.front) (omega arith)) (λ p. omega (arith, (a.found m p l).match.within)))

  pub flagging_next : length w ≤ length o → (p e : ℕ) → FirstRun (drop m w) p e → Flagging h w o (set t m (get_or t m 0 + h)) (m + e)
  flagging_next n p e r =
      let v : ℕ = get_or t m 0 + h in
      let x : 0 < e = run_some (drop m w) p e r in
      let q : get_or (set t m v) m 0 ≡ v = get_or-set_same t m v 0 (omega (arith, g.kept.size)) in
      let d : (i : ℕ) → (i ≡ m → ⊥) → get_or (set t m v) i 0 ≡ get_or t i 0 = λ i y. get_or-set_other t m i v 0 y in
      let b : m + e ≤ length w = (head_next w m p e (flagged_head g.flags) r).within in
      record {
        flags = more (flagged_same (set t m v) g.flags (λ i y. d i (λ z. omega arith))) l r (rw q (omega arith)) (rw q (omega (arith, flagging_low)))
            (λ i y z. rw (d i (λ k. omega arith), g.after i (omega arith)) (a.found i (omega arith) (omega arith)));
        after = λ i y. d i (λ z. omega arith) ∙ g.after i (omega arith);
        kept = kept_set (length w) o t m v g.kept l;
      }

-- ---- the entries from m on are right wherever every reading before m is greater than the one at m

pub record Right (w t : List ℕ) (m : ℕ) : Type 0 where
  pub entry : (i : ℕ) → m ≤ i → i < length w → Above (take (suc i) w) m → get_or t i 0 ≡ start (take (suc i) w)

module _ (w o t : List ℕ) (m l p e : ℕ) (r : FirstRun (drop m w) p e) (d : Done w o t m l) where
  lesser : l < length w → get_or (drop m w) (l - m) 0 < get_or (drop m w) (l - m - d.period) 0
  lesser h = rw (block_now w m _ _ d.block, block_then w m _ _ d.block) (d.ends h)

  -- the block's own end is the next head
  same_end : e ≡ l - m - (l - m) % (l - m - (l - m - d.period))
  same_end = (first_run_one (drop m w) p e _ _ r (scan_end (drop m w) _ _ d.block.scan (λ h. lesser (omega (arith, length-drop m w, d.block.order))))).1

  next_within : m + e ≤ l
  next_within = omega (arith, same_end, d.block.order)

  inside_block : (i : ℕ) → m ≤ i → i < l → Above (take (suc i) w) m → get_or t i 0 ≡ start (take (suc i) w)
  inside_block i x y a =
      let q : m + (suc i - m) ≡ suc i = omega arith in
      let c = start_entry w m (suc i - m) (get_or t i 0 - m) (d.started.entry i x y) (omega (arith, d.block.inside)) (rw q a) in
      omega (arith, rw q at c, d.started.above i x y)

  right_next : Right w o (m + e) → Right w t m
  right_next k = record {
    entry = λ i x y a. either (lt_or_ge i l) (λ z. inside_block i x z a) (λ z. d.started.outside.behind i z ∙ k.entry i (omega (arith, next_within)) y
        (rw same_end (above_cut w m _ _ (suc i) d.block.scan (omega (arith, d.block.order)) y (lesser (omega arith)) a)));
  }

  done_kept : Kept (length w) o t
  done_kept =
      let f = d.started.outside in
      record {
        size = f.size;
        beyond = ext_get_or 0 _ _ (rw (length-drop, length-drop, f.size))
            (λ i x. get_or-drop (length w) t i 0 ∙ f.behind (length w + i) (omega (arith, d.block.inside)) ∙ sym (get_or-drop (length w) o i 0));
      }

  done_low : (h : ℕ) → length w ≤ h → ((i : ℕ) → m + e ≤ i → i < length w → get_or o i 0 < h) → (i : ℕ) → m ≤ i → i < length w → get_or t i 0 < h
  done_low h s f i x y =
      either (lt_or_ge i l) (λ z. omega (arith, d.started.below i x z)) (λ z. rw (d.started.outside.behind i z) (f i (omega (arith, next_within)) y))

-- ---- the positions from c on are passed

pub record Turned (h : ℕ) (w o t : List ℕ) (c : ℕ) : Type 0 where
  pub next : ℕ
  pub flags : Flagged h w t next
  pub order : c ≤ next
  pub clear : (i : ℕ) → c ≤ i → i < next → get_or t i 0 < h
  pub right : Right w t next
  pub low : (i : ℕ) → next ≤ i → i < length w → get_or t i 0 < h
  pub kept : Kept (length w) o t

pub turned_first : (h : ℕ) (w t : List ℕ) → Flagged h w t (length w) → Turned h w t t (length w)
turned_first h w t f = record {
  next = length w;
  flags = f;
  order = omega arith;
  clear = λ i x y. absurd (omega arith);
  right = record { entry = λ i x y a. absurd (omega arith) };
  low = λ i x y. absurd (omega arith);
  kept = kept_same (length w) t;
}

pub turned_within : (h : ℕ) (w o t : List ℕ) (c : ℕ) → Turned h w o t c → c ≤ length w
turned_within h w o t c g = omega (arith, g.order, (flagged_head g.flags).within)

-- a head at c: its block is ready to be ticked, and once it is filled c is passed
pub record Met (h : ℕ) (w o t : List ℕ) (c : ℕ) : Type 0 where
  pub head : Head w c
  pub within : c < length w
  pub fresh : Fresh h w t c
  pub step : (u : List ℕ) (l : ℕ) → Done w t u c l → Turned h w o u c

module _ (h : ℕ) (w o t : List ℕ) (c : ℕ) (s : length w ≤ h) (a : h ≤ get_or t c 0) (k : Kept (length w) o t) where
  meet : (n : ℕ) → Flagged h w t n → c < n → ((i : ℕ) → c < i → i < n → get_or t i 0 < h) → Right w t n
      → ((i : ℕ) → n ≤ i → i < length w → get_or t i 0 < h) → Met h w o t c
  meet n none b f r q = absurd (omega arith)
  meet n (more {m} {p} {e} d l x y z g) b f r q =
      let v : 0 < e = run_some (drop m w) p e x in
      let j : m + e ≤ length w = (head_next w m p e (flagged_head d) x).within in
      let small : (i : ℕ) → m < i → i < m + e → get_or t i 0 < h = λ i x1 x2. omega (arith, (g i x1 x2).match.within) in
      let at : m ≡ c = either (lt_or_ge c m) (λ u. absurd (omega (arith, f m u (omega arith))))
      (λ u. either (eq-or-lt_of_le u) (λ i. i) (λ i. absurd (omega (arith, small c i (omega arith))))) in
      subst (Met h w o t) at (record {
        head = flagged_head d;
        within = l;
        fresh = record {
          match = λ i x1 x2. g i x1 (omega (arith, x.first, x.within));
          small = λ i x1 x2. either (eq-or-lt_of_le x1) (λ u. rw (← u) z) (λ u. either (lt_or_ge i (m + e)) (λ x3. omega (arith, small i u x3)) (λ x3. omega (arith, q i x3 x2)));
        };
        step = λ u i done. record {
          next = m;
          flags = flagged_same u d (λ i x1. done.started.outside.before i x1);
          order = omega arith;
          clear = λ i x1 x2. absurd (omega arith);
          right = right_next w t u m i p e x done r;
          low = done_low w t u m i p e x done h s q;
          kept = kept_on (length w) o t u k (done_kept w t u m i p e x done);
        };
      })

module _ (h : ℕ) (w o t : List ℕ) (c : ℕ) (g : Turned h w o t c) (p : 0 < c) where
  pub turned_low : get_or t (c - 1) 0 < h → Turned h w o t (c - 1)
  turned_low l = record {
    next = g.next;
    flags = g.flags;
    order = omega (arith, g.order);
    clear = λ i x y. either (lt_or_ge i c) (λ z. let e : i ≡ c - 1 = omega arith in rw e l) (λ z. g.clear i z y);
    right = g.right;
    low = g.low;
    kept = g.kept;
  }

  pub turned_head : length w ≤ h → h ≤ get_or t (c - 1) 0 → Met h w o t (c - 1)
  turned_head s a =
      meet h w o t (c - 1) s a g.kept g.next g.flags (omega (arith, g.order)) (λ i x y. g.clear i (omega arith) y) g.right g.low

-- ---- the end: every entry is right, and what lies beyond is as it was

right_all : (w o t : List ℕ) → Right w t 0 → Kept (length w) o t → length w ≤ length o → t ≡ start_table w ++ drop (length w) o
right_all w o t k f l =
    let n : length (take (length w) t) ≡ length w = length-take-le (length w) t (omega (arith, f.size)) in
    let a : take (length w) t ≡ start_table w = ext_get_or 0 _ _ (n ∙ sym (length-start_table w))
    (λ i x. let y : i < length w = rw n at x in get_or-take (length w) t i 0 y ∙ k.entry i (omega arith) y (λ j z. absurd (omega arith)) ∙ sym (start_table_at w i y)) in
    sym (take-append-drop (length w) t) ∙ rw (a, f.beyond)

at_front : {h : ℕ} {w t : List ℕ} (m : ℕ) → Flagged h w t m → ((i : ℕ) → i < m → get_or t i 0 < h) → m ≡ 0
at_front m none f = refl
at_front {w = w} n (more {m} {p} {e} k l r a b c) f = absurd (omega (arith, f m (omega (arith, run_some (drop m w) p e r))))

-- u is the table with the heads flagged, o the table before all
pub turned_all : (h : ℕ) (w o u t : List ℕ) (c : ℕ) → Turned h w u t c → c ≤ 0 → Kept (length w) o u → length w ≤ length o → t ≡ start_table w ++ drop (length w) o
turned_all h w o u t c g z k l =
    right_all w o t (subst (Right w t) (at_front g.next g.flags (λ i x. g.clear i (omega arith) x)) g.right) (kept_on (length w) o u t k g.kept) l
