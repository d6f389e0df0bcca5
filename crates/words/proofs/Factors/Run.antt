-- The start stands in the factor table as the first of a run of equal factors; what a loop over the runs knows.
-- Assumes nothing.
use mathlib.Core.Path.{◌≡◌, refl, sym, ap, ◌∙◌}
use mathlib.Core.Bool.{false}
use mathlib.Core.List.{List, [], ◌∷◌, ◌++◌, append-nil, append_assoc}
use Prim.Native.Nat.{ℕ, zero, suc, ◌≤◌, ◌<◌, ◌+◌}
use native.Mathlib.Omega.{arith}
use native.Mathlib.Nat.{eq-or-lt_of_le}
use lib.ListN.{length, take, drop, length-append, take-append-drop}
use lib.Seq.{length-take-le, drop-append_seam, take-append_seam, drop-length, take-length}
use Rattle.words.specs.Order.Order.{◌≺◌, ◌≼◌, before}
use Rattle.words.specs.Order.Least.{better}
use Rattle.words.specs.Rings.Ring.{IsStart, reading, start}
use Rattle.words.specs.Factors.Lyndon.{Lyndon}
use Rattle.words.specs.Factors.Factor.{flat, Under, factors, copies, FirstRun, RunHead}
use Rattle.words.proofs.Order.Search.{either, by_test}
use Rattle.words.proofs.Order.Order.{cancel_left, decided, decided_more, decided_long}
use Rattle.words.proofs.Rings.Ring.{start_is, least_strict, better_old, better_new, better_either}
use Rattle.words.proofs.Factors.Factor.{factors_are, factors_below, flat_append, run_split, run_word}
use Rattle.words.proofs.Factors.Route.{past}

-- the reading where the second of two parts begins
pub reading_split : (w a b : List ℕ) → w ≡ a ++ b → reading w (length a) ≡ b ++ a
unfolding reading
reading_split w a b e = rw (e, drop-append_seam, take-append_seam)

reading_whole : (w : List ℕ) → reading w (length w) ≡ reading w 0
unfolding reading
reading_whole w = rw (drop-length, take-length) (sym (append-nil w))

module _ (w : List ℕ) (s : ℕ) (i : IsStart w s) where
  -- the start's reading is no greater than that at any position up to n
  lowest_upto : (j : ℕ) → j ≤ length w → reading w s ≼ reading w j
  lowest_upto j h = either (eq-or-lt_of_le h) (λ e. rw (e, reading_whole w) (i.lowest 0 (omega (arith, i.within)))) (λ l. i.lowest j l)

  -- the start is not behind a word u that stands there twice
  pub not_second : (a u b : List ℕ) → w ≡ a ++ (u ++ (u ++ b)) → 0 < length u → length a + length u ≡ s → ⊥
  not_second a u b e h q =
      let r0 : reading w (length a) ≡ u ++ (u ++ (b ++ a)) = reading_split w a (u ++ (u ++ b)) e ∙ simp append_assoc in
      let r1 : reading w s ≡ u ++ ((b ++ a) ++ u) = rw (← q, ← length-append a u) (reading_split w (a ++ u) (u ++ b) (e ∙ simp append_assoc) ∙ simp append_assoc) in
      let r2 : reading w (length (a ++ (u ++ u))) ≡ ((b ++ a) ++ u) ++ u = reading_split w (a ++ (u ++ u)) b (e ∙ simp append_assoc) ∙ simp append_assoc in
      let l : u ++ ((b ++ a) ++ u) ≺ u ++ (u ++ (b ++ a)) = rw (r0, r1) at (least_strict (reading w) (length w) s (length a) i (omega arith)) in
      let d = decided_more u u (decided_long (cancel_left u _ _ l) (simp length-append (omega arith))) in
      lowest_upto (length (a ++ (u ++ u))) (omega (arith, simp length-append at (ap length e), length-append a (u ++ u), length-append u u)) (rw (r2, r1, ← append_assoc u (b ++ a) u) (decided d))

  -- ---- D1: the start stands in the factor table

  record Stands (fs : List (List ℕ)) : Type 0 where
    front : List (List ℕ)
    word : List ℕ
    back : List (List ℕ)
    split : fs ≡ front ++ (word ∷ back)
    at : length (flat front) ≡ s
    some : 0 < length word

  walk : (c : List ℕ) (front fs : List (List ℕ)) → Under c fs → w ≡ flat front ++ flat fs → length (flat front) ≤ s → Stands (front ++ fs)
  walk c front [] u e h = absurd (omega (arith, i.within, simp length-append at (ap length e)))
  walk c front (f ∷ fs) u e h =
      either (eq-or-lt_of_le h) (λ q. record { front = front; word = f; back = fs; split = refl; at = q; some = u.0.some })
      (λ q. let p = past w s i f (flat fs) (length (flat front)) (rw (e, drop-append_seam)) u.0 q in
      let x : flat (front ++ (f ∷ [])) ≡ flat front ++ f = flat_append front (f ∷ []) ∙ rw append-nil in
      rw append_assoc at (walk f (front ++ (f ∷ [])) fs u.2 (e ∙ rw (x, append_assoc)) (rw (x, length-append) p)))

  -- ---- D2: it is the first of a run

  head : Stands (factors w) → RunHead w s
  head k = record {
    front = k.front;
    word = k.word;
    back = k.back;
    split = k.split;
    at = k.at;
    fresh = λ fs e.
        let x : flat k.front ≡ flat fs ++ k.word = ap flat e ∙ flat_append fs (k.word ∷ []) ∙ rw append-nil in
        let y : w ≡ flat fs ++ (k.word ++ (k.word ++ flat k.back)) = sym (factors_are w).whole ∙ ap flat k.split ∙ flat_append k.front (k.word ∷ k.back) ∙ rw (x, append_assoc) in
        not_second (flat fs) k.word (flat k.back) y k.some (sym (length-append (flat fs) k.word) ∙ ap length (sym x) ∙ k.at);
  }

  -- ---- a run from m on: the start is m, or not in the run

  run_past : (c : ℕ) (a u y : List ℕ) → Lyndon u → w ≡ a ++ (u ++ (flat (copies c u) ++ y)) → length a + length u ≤ s → length a + length u + length (flat (copies c u)) ≤ s
  run_past zero a u y l e h = omega arith
  run_past (suc c) a u y l e h =
      let b : List ℕ = flat (copies c u) in
      let x : w ≡ a ++ (u ++ (u ++ (b ++ y))) = e ∙ simp append_assoc in
      let z : w ≡ (a ++ u) ++ (u ++ (b ++ y)) = x ∙ simp append_assoc in
      either (eq-or-lt_of_le h) (λ q. absurd (not_second a u (b ++ y) x l.some q))
      (λ q. let p = past w s i u (b ++ y) (length a + length u) (rw (← length-append a u) (ap (drop (length (a ++ u))) z ∙ drop-append_seam (a ++ u) (u ++ (b ++ y)))) l q in
      omega (arith, run_past c (a ++ u) u y l z (rw length-append p), length-append a u, length-append u b))

  skip : (c m : ℕ) (u y : List ℕ) → drop m w ≡ flat (copies c u) ++ y → Lyndon u → m < s → m + length (flat (copies c u)) ≤ s
  skip zero m u y e l h = omega arith
  skip (suc c) m u y e l h =
      let b : List ℕ = flat (copies c u) in
      let x : drop m w ≡ u ++ (b ++ y) = e ∙ append_assoc u b y in
      let n : length (take m w) ≡ m = length-take-le m w (omega (arith, i.within)) in
      omega (arith, run_past c (take m w) u y l (sym (take-append-drop m w) ∙ ap (λ z. take m w ++ z) x) (rw n (past w s i u (b ++ y) m x l h)), length-append u b, n)

-- the start stands in the factor table, as the first of a run of equal factors
pub run_head : (w : List ℕ) → 0 < length w → RunHead w (start w)
run_head w h =
    head w (start w) (start_is w h) (walk w (start w) (start_is w h) w [] (factors w) (factors_below w) (sym (factors_are w).whole) (omega arith))

-- ---- the loop over runs: b is the lowest of the runs' heads before m, the first of them if several are equal

pub data Best (w : List ℕ) (m b : ℕ) : Type 0 where
  is : b ≡ start w → Best w m b
  under : b < start w → m ≤ start w → Best w m b

pub best_none : (w : List ℕ) → Best w 0 0
best_none w = either (eq-or-lt_of_le {n = 0} {m = start w} (omega arith)) is (λ l. under l (omega arith))

-- from m on e letters are passed, in which the start can stand at m alone: its reading is compared with the best
pub best_step : (w : List ℕ) (m e b : ℕ) → m < length w → (m < start w → m + e ≤ start w) → Best w m b → Best w (m + e) (better (reading w) m b)
best_step w m e b h f (is q) = is (better_old (reading w) m b (rw q ((start_is w (omega arith)).lowest m h)) ∙ q)
best_step w m e b h f (under q l) =
    let i = start_is w (omega arith) in
    either (eq-or-lt_of_le l) (λ d. is (better_new (reading w) m b (rw d (least_strict (reading w) (length w) (start w) b i q)) ∙ d))
    (λ d. under (better_either (λ k. k < start w) (reading w) m b d q) (f d))

module _ (w : List ℕ) (m p e : ℕ) (r : FirstRun (drop m w) p e) where
  run_skip : 0 < length w → m < start w → m + e ≤ start w
  run_skip h l = rw r.ends at (skip w (start w) (start_is w h) r.count m (take p (drop m w)) (drop e (drop m w)) (run_split _ p e r) (run_word _ p e r) l)

  -- the run from m on is passed
  pub best_next : (b : ℕ) → m < length w → Best w m b → Best w (m + e) (better (reading w) m b)
  best_next b h k = best_step w m e b h (run_skip (omega arith)) k

  -- the best so far stays where the run's head reads no lower
  pub best_old : (b : ℕ) → m < length w → Best w m b → before (reading w m) (reading w b) ≡ false → Best w (m + e) b
  best_old b h k t = rw t at (best_next b h k)

-- ---- the run at the best so far

-- p and e are the length and the end of the run at b; while no run is passed, b is 0 and they say nothing
pub data BestRun (w : List ℕ) (m b p e : ℕ) : Type 0 where
  none : m ≡ 0 → b ≡ 0 → BestRun w m b p e
  some : FirstRun (drop b w) p e → BestRun w m b p e

-- the best so far is now m: its run is the one found there
pub best_run_new : (w : List ℕ) (m n c p e : ℕ) → FirstRun (drop m w) p e → c ≡ m → BestRun w n c p e
best_run_new w m n c p e r q = some (rw q r)

-- it is not m: its run stays
pub best_run_old : (w : List ℕ) (m n b p e : ℕ) → BestRun w m b p e → (better (reading w) m b ≡ m → ⊥) → BestRun w n (better (reading w) m b) p e
best_run_old w m n b p e (none x y) d = absurd (d (better_either (λ k. k ≡ m) (reading w) m b refl (y ∙ sym x)))
best_run_old w m n b p e (some r) d =
    by_test (before (reading w m) (reading w b)) (λ t. absurd (d (rw t))) (λ t. rw t (some r))

pub best_run_last : (w : List ℕ) (m b p e : ℕ) → 0 < m → BestRun w m b p e → FirstRun (drop b w) p e
best_run_last w m b p e h (none x y) = absurd (omega arith)
best_run_last w m b p e h (some r) = r

-- ---- the same, factor by factor: a Lyndon word f stands at m

module _ (w : List ℕ) (m b : ℕ) (f r : List ℕ) (e : drop m w ≡ f ++ r) (y : Lyndon f) where
  factor_past : m < length w → m < start w → m + length f ≤ start w
  factor_past h l = past w (start w) (start_is w (omega arith)) f r m e y l

  -- the factor is the first of its run
  pub best_factor : m < length w → Best w m b → Best w (m + length f) (better (reading w) m b)
  best_factor h k = best_step w m (length f) b h (factor_past h) k

  -- the factor before it is the same word: the start does not stand here
  pub best_again : (a : List ℕ) → w ≡ a ++ (f ++ (f ++ r)) → length a + length f ≡ m → m < length w → Best w m b → Best w (m + length f) b
  best_again a x n h (is q) = is q
  best_again a x n h (under q l) =
      under q (either (eq-or-lt_of_le l) (λ d. absurd (not_second w (start w) (start_is w (omega arith)) a f r x y.some (n ∙ d))) (factor_past h))

pub best_last : (w : List ℕ) (b : ℕ) → 0 < length w → Best w (length w) b → b ≡ start w
best_last w b h (is q) = q
best_last w b h (under q l) = absurd (omega (arith, (start_is w h).within))

pub best_below : (w : List ℕ) (m b : ℕ) → 0 < length w → Best w m b → b < length w
best_below w m b h (is q) = omega (arith, (start_is w h).within)
best_below w m b h (under q l) = omega (arith, (start_is w h).within)
