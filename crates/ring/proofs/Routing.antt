-- What the loop of the factor route keeps: the table written so far, the letters left and what is read of them, and the best of the
-- runs' heads.
-- Assumes nothing.
use mathlib.Core.Path.{◌≡◌, refl, sym, ap, ◌∙◌}
use mathlib.Core.Bool.{Bool, true, false, cond, true≢false}
use mathlib.Core.List.{List, [], ◌∷◌, ◌++◌, append-nil, append_assoc}
use Prim.Native.Nat.{ℕ, ◌≤◌, ◌<◌, ◌+◌, ◌-◌}
use native.Mathlib.Omega.{arith}
use borrow.Author.Tests.{ltb-false}
use lib.Dec.{ltb}
use lib.ListN.{length, take, drop, set, length-append, length-drop, take-append-drop}
use lib.Seq.{take_all, drop-drop, drop-length, length-take-le}
use Rattle.words.specs.Order.Least.{better}
use Rattle.words.specs.Rings.Ring.{reading, start}
use Rattle.words.specs.Factors.Scan.{Scan, FirstFactor}
use Rattle.words.specs.Factors.Factor.{factors, firsts, factor_table}
use Rattle.words.proofs.Order.Search.{by_test}
use Rattle.words.proofs.Factors.Factor.{factors_first}
use Rattle.words.proofs.Factors.Scan.{scan_first, factor_run, factor_word, factor_within, factor_behind, word_again}
use Rattle.words.proofs.Factors.Run.{Best, best_none, best_factor, best_again, best_last}
use Rattle.ring.specs.declared.factor.Behind.{Behind}
use Rattle.ring.specs.Judging.{over}
use Rattle.ring.specs.Behind.{behind_of}
use Rattle.ring.proofs.Laid.{Laid, laid_none, laid_one}

-- the letters left begin with the word of the factor before them, and the scan has found it already
pub record Again (w r : List ℕ) (from read back : ℕ) : Type 0 where
  pub size : ℕ
  pub found : FirstFactor r size read back
  pub front : List ℕ
  pub made : w ≡ front ++ (take size r ++ r)
  pub at : length front + size ≡ from

pub record Routing (w o t r : List ℕ) (from count best read back : ℕ) (head : Bool) : Type 0 where
  pub written : List ℕ
  pub laid : Laid written o t
  pub size : length written ≡ count
  pub same : factor_table w ≡ written ++ firsts from (factors r)
  pub rest : r ≡ drop from w
  pub few : count ≤ from
  pub within : from ≤ length w
  pub lowest : Best w from best
  pub scan : 0 < length r → Scan r read back
  pub again : head ≡ false → Again w r from read back

pub routing_none : (w o : List ℕ) → Routing w o o w 0 0 0 1 0 true
unfolding factor_table
routing_none w o = record {
  written = [];
  laid = laid_none o;
  size = refl;
  same = refl;
  rest = refl;
  few = omega arith;
  within = omega arith;
  lowest = best_none w;
  scan = scan_first w;
  again = λ e. absurd (true≢false e);
}

-- two scans of the same letters find one factor
one_size : (s : List ℕ) (p j k q i l : ℕ) → FirstFactor s p j k → FirstFactor s q i l → p ≡ q
one_size s p j k q i l f g = (factor_run s p j k f).first ∙ sym (factor_run s q i l g).first

module _ (w o t r : List ℕ) (from count best read back : ℕ) (head : Bool) (c : Routing w o t r from count best read back head) where
  -- what is left of the letters
  pub routing_left : length r ≡ length w - from
  routing_left = ap length c.rest ∙ length-drop from w

  -- ---- a factor of the letters left

  module _ (p j k : ℕ) (f : FirstFactor r p j k) where
    split : drop from w ≡ take p r ++ drop p r
    split = sym c.rest ∙ sym (take-append-drop p r)

    length_word : length (take p r) ≡ p
    length_word = length-take-le p r (omega (arith, factor_within r p j k f))

    pub routing_fits : from + p ≤ length w
    routing_fits = omega (arith, routing_left, factor_within r p j k f, c.within)

    -- the start is passed: at a head it was compared, and the second of two equal factors is not the start
    pub routing_best : 0 < length r → Best w (from + p) (cond head (better (reading w) from best) best)
    routing_best h =
        let l : from < length w = omega (arith, routing_left) in
        by_test head
        (λ e. rw (e, ← length_word) (best_factor w from best (take p r) (drop p r) split (factor_word r p j k f) l c.lowest))
        (λ e. let a = c.again e in
        let q : a.size ≡ p = one_size r a.size read back p j k a.found f in
        let x : w ≡ a.front ++ (take p r ++ (take p r ++ drop p r)) = a.made ∙ rw (q, take-append-drop p r) in
        rw (e, ← length_word) (best_again w from best (take p r) (drop p r) split (factor_word r p j k f) a.front x (omega (arith, a.at, length_word)) l c.lowest))

    behind_again : p ≤ k → Again w (drop p r) (from + p) (j - p) (k - p)
    behind_again h =
        let n : length (take from w) ≡ from = length-take-le from w c.within in
        let e : j ≡ k + p = f.size in
        record {
          size = p;
          found = factor_behind r p j k f h;
          front = take from w;
          made = sym (take-append-drop from w) ∙ ap (λ x. take from w ++ x) split ∙ rw (word_again r p k (rw e at f.scan) h);
          at = omega arith;
        }

    pub routing_next : (v : ℕ) (b : ℕ) (n : Behind) → v ≡ from → length w ≤ length o → 0 < length r → n ≡ behind_of p j k → Best w (from + p) b
        → Routing w o (set t count v) (take (length r - p) (drop p r)) (from + p) (count + 1) b n.read n.back n.head
    routing_next v b n e h z q l =
        let a : take (length r - p) (drop p r) ≡ drop p r = take_all (length r - p) (drop p r) (rw length-drop (omega arith)) in
        let g : factors r ≡ take p r ∷ factors (drop p r) = factors_first r z ∙ rw (← (factor_run r p j k f).first) in
        rw (a, e) (record {
          written = c.written ++ (from ∷ []);
          laid = laid_one c.written o t c.laid count from (sym c.size) (omega (arith, c.few, routing_left));
          size = length-append c.written (from ∷ []) ∙ omega (arith, c.size);
          same = c.same ∙ rw (g, length_word) (sym (append_assoc c.written (from ∷ []) (firsts (from + p) (factors (drop p r)))));
          rest = ap (drop p) c.rest ∙ drop-drop p from w;
          few = omega (arith, c.few, factor_within r p j k f);
          within = routing_fits;
          lowest = l;
          scan = λ x. by_test (ltb k p) (λ t. rw (q, t) (scan_first (drop p r) x)) (λ t. rw (q, t) (factor_behind r p j k f (ltb-false k p t)).scan);
          again = λ x. by_test (ltb k p) (λ t. absurd (true≢false (rw (q, t) at x))) (λ t. rw (q, t) (behind_again (ltb-false k p t)));
        })

  -- no letter is left
  pub routing_end : length r ≤ 0 → 0 < length w → (count ≡ length (factor_table w)) × (best ≡ start w) × (t ≡ over (factor_table w) o)
  unfolding factors
  routing_end h p =
      let e : from ≡ length w = omega (arith, routing_left, c.within) in
      let z : r ≡ [] = c.rest ∙ rw (e, drop-length) in
      let q : factor_table w ≡ c.written = c.same ∙ rw (z, append-nil) in
      (sym (ap length q ∙ c.size), best_last w best p (rw e at c.lowest), c.laid.is ∙ rw (← q))
