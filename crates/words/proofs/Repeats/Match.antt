-- The match lengths found from left to right, with the match that reaches furthest kept.
-- Assumes nothing.
use mathlib.Core.Path.{◌≡◌, refl, sym, ap, ◌∙◌}
use mathlib.Core.List.{List}
use Prim.Native.Nat.{ℕ, ◌≤◌, ◌<◌, ◌+◌, ◌-◌}
use native.Mathlib.Omega.{arith}
use lib.ListN.{length, get_or, set, length-set}
use lib.Seq.{get_or-set_same, get_or-set_other, drop-set-lt}
use Rattle.words.specs.Repeats.Match.{Match, MatchLength, MatchTable, Kept}
use Rattle.words.proofs.Order.Search.{up_to}

-- ---- what lies beyond the table's n entries is kept

pub kept_same : (n : ℕ) (o : List ℕ) → Kept n o o
kept_same n o = record { size = refl; beyond = refl }

pub kept_set : (n : ℕ) (o t : List ℕ) (i v : ℕ) → Kept n o t → i < n → Kept n o (set t i v)
kept_set n o t i v k h = record { size = length-set t i v ∙ k.size; beyond = drop-set-lt n t i v h ∙ k.beyond }

pub kept_on : (n : ℕ) (o u t : List ℕ) → Kept n o u → Kept n u t → Kept n o t
kept_on n o u t a b = record { size = b.size ∙ a.size; beyond = b.beyond ∙ a.beyond }

-- ---- one match

pub match_none : (w : List ℕ) (k : ℕ) → k ≤ length w → Match w k 0
match_none w k h = record { within = omega arith; same = λ d l. absurd (omega arith) }

pub match_more : (w : List ℕ) (k z : ℕ) → Match w k z → k + z < length w → get_or w (k + z) 0 ≡ get_or w z 0 → Match w k (z + 1)
match_more w k z a h e = record { within = omega arith; same = λ d l. up_to (λ d. get_or w (k + d) 0 ≡ get_or w d 0) z a.same e d (omega arith) }

-- ---- the entries from 1 to k - 1 are found; the letters from l to r match the front

pub record Box (w o t : List ℕ) (k l r : ℕ) : Type 0 where
  pub some : 0 < k
  pub front : get_or t 0 0 ≡ 0
  pub found : (i : ℕ) → 0 < i → i < k → MatchLength w i (get_or t i 0)
  pub order : l < k
  pub lead : l < r → 0 < l
  pub inside : r ≤ length w
  pub same : (d : ℕ) → l + d < r → get_or w (l + d) 0 ≡ get_or w d 0
  pub room : length w ≤ length t
  pub kept : Kept (length w) o t

pub box_first : (w o : List ℕ) → 0 < length w → length w ≤ length o → Box w (set o 0 0) (set o 0 0) 1 0 0
box_first w o h r = record {
  some = omega arith;
  front = get_or-set_same o 0 0 0 (omega arith);
  found = λ i a b. absurd (omega arith);
  order = omega arith;
  lead = λ a. absurd (omega arith);
  inside = omega arith;
  same = λ d a. absurd (omega arith);
  room = rw length-set r;
  kept = kept_same (length w) (set o 0 0);
}

pub box_end : (w o t : List ℕ) (k l r : ℕ) → Box w (set o 0 0) t k l r → length w ≤ k → 0 < length w → MatchTable w t × Kept (length w) o t
box_end w o t k l r g h p =
    (record { front = g.front; found = λ i a b. g.found i a (omega arith) }, kept_on _ _ _ _ (kept_set (length w) o o 0 0 (kept_same (length w) o) p) g.kept)

module _ (w o t : List ℕ) (k l r : ℕ) (g : Box w o t k l r) (n : k < length w) where
  -- the match that is known already
  pub box_guess : (z : ℕ) → k < r → z ≤ get_or t (k - l) 0 → z ≤ r - k → Match w k z
  box_guess z h a b =
      let p : 0 < l = g.lead (omega (arith, g.order)) in
      let c = g.found (k - l) (omega (arith, g.order)) (omega arith) in
      record {
        within = omega (arith, g.inside);
        same = λ d x.
            let e : l + (k - l + d) ≡ k + d = omega (arith, g.order) in
            ap (λ v. get_or w v 0) (sym e) ∙ g.same (k - l + d) (omega (arith, g.order)) ∙ c.match.same d (omega arith);
      }

  module _ (z : ℕ) (a : MatchLength w k z) where
    next_found : (i : ℕ) → 0 < i → i < k + 1 → MatchLength w i (get_or (set t k z) i 0)
    next_found i p q =
        up_to (λ i. 0 < i → MatchLength w i (get_or (set t k z) i 0)) k
        (λ i h p. rw (get_or-set_other t k i z 0 (λ e. omega arith)) (g.found i p h))
        (λ p. rw (get_or-set_same t k z 0 (omega (arith, g.room))) a) i (omega arith) p

    next_box : (b c : ℕ) → b < k + 1 → (b < c → 0 < b) → c ≤ length w → ((d : ℕ) → b + d < c → get_or w (b + d) 0 ≡ get_or w d 0) → Box w o (set t k z) (k + 1) b c
    next_box b c h x y s = record {
      some = omega arith;
      front = get_or-set_other t k 0 z 0 (λ e. omega (arith, g.some)) ∙ g.front;
      found = next_found;
      order = h;
      lead = x;
      inside = y;
      same = s;
      room = rw length-set g.room;
      kept = kept_set (length w) o t k z g.kept n;
    }

    pub box_new : Box w o (set t k z) (k + 1) k (k + z)
    box_new = next_box k (k + z) (omega arith) (λ h. g.some) a.match.within (λ d h. a.match.same d (omega arith))

    pub box_old : Box w o (set t k z) (k + 1) l r
    box_old = next_box l r (omega (arith, g.order)) g.lead g.inside g.same
