-- The suffix table filled block by block: what a loop that fills it knows, a step for each way it goes, and the end.
-- In a block the first l letters are read, m is the head, and from m on a Lyndon word of length p stands over and over.
-- Assumes nothing.
use mathlib.Core.Path.{◌≡◌, refl, sym, ap, ◌∙◌, subst}
use mathlib.Core.List.{List, ◌++◌}
use Prim.Native.Nat.{ℕ, suc, ◌≤◌, ◌<◌, ◌+◌, ◌-◌, ◌%◌}
use native.Mathlib.Omega.{arith}
use native.Mathlib.Numerals.{add-one}
use native.Mathlib.Nat.{mod-le}
use lib.ListN.{length, take, drop, get_or, set, length-drop, take-append-drop}
use lib.Seq.{get_or-drop, get_or-take, get_or-set_same, get_or-set_other, ext_get_or, length-take-le}
use Rattle.words.specs.Suffixes.Prefix.{least_suffix, suffix_table}
pub use Rattle.words.specs.Suffixes.Block.{Block}
pub use Rattle.words.specs.Suffixes.Fill.{Filled}
use Rattle.words.proofs.Order.Search.{up_to}
use Rattle.words.proofs.Repeats.Match.{kept_same, kept_set, kept_on}
use Rattle.words.proofs.Suffixes.Prefix.{least_suffix_is, length-suffix_table, suffix_table_at}
use Rattle.words.proofs.Factors.Scan.{Scan, scan_first, scan_greater, scan_equal, scan_end, scan_one}
use Rattle.words.proofs.Suffixes.Block.{Head, head_next, entry_head, entry_word, entry_over}

-- a scan with m + j and m + k for its places, as a block
block : (w : List ℕ) (m j k p l : ℕ) → Head w m → Scan (drop m w) j k → m + j ≡ l → k + p ≡ j → Block w m p l
block w m j k p l a s e f =
    let x : l - m ≡ j = omega arith in
    let y : l - m - p ≡ k = omega arith in
    let o : k < j = s.order in
    let i : j ≤ length (drop m w) = s.inside in
    record { head = a; some = omega arith; order = omega arith; inside = omega (arith, a.within, length-drop m w); scan = rw (y, x) s }

-- how far a block is read tells the length of its word
pub block_one : (w : List ℕ) (m p q l : ℕ) → Block w m p l → Block w m q l → p ≡ q
block_one w m p q l a b = omega (arith, scan_one (drop m w) _ _ _ a.scan b.scan, a.order, b.order)

pub block_first : (w : List ℕ) (m : ℕ) → Head w m → m < length w → Block w m 1 (m + 1)
block_first w m a h = block w m 1 0 1 (m + 1) a (scan_first (drop m w) (rw length-drop (omega arith))) refl refl

module _ (w : List ℕ) (m p l : ℕ) (b : Block w m p l) where
  at : (i : ℕ) → m ≤ i → get_or (drop m w) (i - m) 0 ≡ get_or w i 0
  at i h = let e : m + (i - m) ≡ i = omega arith in get_or-drop m w (i - m) 0 ∙ ap (λ x. get_or w x 0) e

  pub block_now : get_or (drop m w) (l - m) 0 ≡ get_or w l 0
  block_now = at l (omega (arith, b.order))

  pub block_then : get_or (drop m w) (l - m - p) 0 ≡ get_or w (l - p) 0
  block_then = let e : l - m - p ≡ l - p - m = omega arith in rw e (at (l - p) (omega (arith, b.order)))

  pub block_greater : l < length w → get_or w (l - p) 0 < get_or w l 0 → Block w m (l + 1 - m) (l + 1)
  block_greater h g =
      block w m (l - m + 1) 0 (l + 1 - m) (l + 1) b.head (scan_greater (drop m w) _ _ b.scan (rw length-drop (omega (arith, b.order))) (rw (block_now, block_then) g)) (omega (arith, b.order)) (omega (arith, b.order))

  pub block_equal : l < length w → get_or w (l - p) 0 ≡ get_or w l 0 → Block w m p (l + 1)
  block_equal h g =
      block w m (l - m + 1) (l - m - p + 1) p (l + 1) b.head (scan_equal (drop m w) _ _ b.scan (rw length-drop (omega (arith, b.order))) (block_then ∙ g ∙ sym block_now)) (omega (arith, b.order)) (omega (arith, b.order))

  -- at a lesser letter, or at the end, the next head stands behind the last whole copy
  pub block_end : (l < length w → get_or w l 0 < get_or w (l - p) 0) → Head w (l - (l - m) % p)
  block_end g =
      let e : l - m - (l - m - p) ≡ p = omega (arith, b.order) in
      let r = scan_end (drop m w) _ _ b.scan (λ h. rw (block_now, block_then) (g (omega (arith, length-drop m w, b.order)))) in
      let q : m + (l - m - (l - m) % p) ≡ l - (l - m) % p = omega (arith, mod-le (l - m) p, b.order) in
      subst (Head w) q (head_next w m p _ b.head (rw e at r))

  entry_at : (i : ℕ) → m < i → i ≤ length w → least_suffix (take i w) ≡ m + least_suffix (take (i - m) (drop m w))
  entry_at i h g = let e : m + (i - m) ≡ i = omega arith in ap (λ x. least_suffix (take x w)) (sym e) ∙ entry_head w m (i - m) b.head (omega arith) (omega arith)

  -- where the whole block is one Lyndon word, the entry is its head
  pub entry_new : p ≡ l - m → least_suffix (take l w) ≡ m
  entry_new e =
      let x : l - m - (l - m - p) ≡ l - m = omega arith in
      entry_at l (omega (arith, b.order, b.some)) b.inside ∙ omega (arith, entry_word _ (rw x at b.scan.word))

  -- else it is the entry p places before, plus p
  pub entry_old : m + p < l → least_suffix (take l w) ≡ least_suffix (take (l - p) w) + p
  entry_old h =
      let x : l - p - m ≡ l - m - p = omega arith in
      let y = entry_at (l - p) (omega arith) (omega (arith, b.inside)) in
      omega (arith, entry_at l (omega arith) b.inside, rw x at y, entry_over (drop m w) _ _ b.scan (omega arith), b.order)

-- ---- the table

pub filled_none : (w o : List ℕ) → Filled w o o 0
filled_none w o = record { entry = λ i h. absurd (omega arith); kept = kept_same (length w) o }

pub filled_less : (w o t : List ℕ) (l k : ℕ) → Filled w o t l → k ≤ l → Filled w o t k
filled_less w o t l k f h = record { entry = λ i x. f.entry i (omega arith); kept = f.kept }

pub filled_again : (w o t : List ℕ) (l : ℕ) → Filled w o t l → Filled w t t l
filled_again w o t l f = record { entry = f.entry; kept = kept_same (length w) t }

pub filled_on : (w o u t : List ℕ) (k l : ℕ) → Filled w o u k → Filled w u t l → Filled w o t l
filled_on w o u t k l f g = record { entry = g.entry; kept = kept_on (length w) o u t f.kept g.kept }

-- an entry is no more than its place
pub filled_below : (w o t : List ℕ) (l i : ℕ) → Filled w o t l → i < l → i < length w → get_or t i 0 ≤ i
filled_below w o t l i f h g =
    let n : length (take (suc i) w) ≡ suc i = length-take-le (suc i) w g in
    omega (arith, f.entry i h, (least_suffix_is (take (suc i) w) (omega arith)).within)

module _ (w o t : List ℕ) (l : ℕ) (f : Filled w o t l) (g : l < length w) (s : l < length t) where
  more : (v : ℕ) → least_suffix (take (l + 1) w) ≡ v → Filled w o (set t l v) (l + 1)
  more v e = record {
    entry = λ i x. up_to (λ i. get_or (set t l v) i 0 ≡ least_suffix (take (suc i) w)) l
        (λ j y. get_or-set_other t l j v 0 (λ q. omega arith) ∙ f.entry j y)
        (get_or-set_same t l v 0 s ∙ sym e ∙ rw add-one) i (omega arith);
    kept = kept_set (length w) o t l v f.kept g;
  }

  -- the first entry of a block
  pub fill_first : Head w l → Filled w o (set t l l) (l + 1)
  fill_first a = more l (entry_new w l 1 (l + 1) (block_first w l a g) (omega arith))

  -- the entry at a greater letter
  pub fill_greater : (m : ℕ) → Block w m (l + 1 - m) (l + 1) → Filled w o (set t l m) (l + 1)
  fill_greater m b = more m (entry_new w m _ (l + 1) b refl)

  -- the entry at the expected letter
  pub fill_equal : (m p : ℕ) → Block w m p l → Block w m p (l + 1) → Filled w o (set t l (get_or t (l - p) 0 + p)) (l + 1)
  fill_equal m p a b =
      let x : m + p ≤ l = a.order in
      let z : 0 < p = a.some in
      let e : suc (l - p) ≡ l + 1 - p = omega arith in
      more _ (entry_old w m p (l + 1) b (omega arith) ∙ ap (λ x. x + p) (sym (f.entry (l - p) (omega arith) ∙ ap (λ x. least_suffix (take x w)) e)))

-- the end: the suffix table, and behind it what was there
pub filled_all : (w o t : List ℕ) → Filled w o t (length w) → length w ≤ length o → t ≡ suffix_table w ++ drop (length w) o
filled_all w o t f h =
    let n : length (take (length w) t) ≡ length w = length-take-le (length w) t (rw f.kept.size h) in
    let e : take (length w) t ≡ suffix_table w =
    ext_get_or 0 _ _ (n ∙ sym (length-suffix_table w))
    (λ i l. let x : i < length w = rw n at l in get_or-take (length w) t i 0 x ∙ f.entry i x ∙ sym (suffix_table_at w i x)) in
    sym (take-append-drop (length w) t) ∙ rw (e, f.kept.beyond)
