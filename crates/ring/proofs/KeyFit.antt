-- Letters, start and strand that some permitted ring has for its key: exactly those that fit, in the terms of a linear test.
-- Assumes nothing.
use mathlib.Core.Path.{◌≡◌, refl, sym, ap, ◌∙◌}
use mathlib.Core.Bool.{Bool, true, false, ◌&&◌, true≢false}
use mathlib.Core.List.{List}
use Prim.Native.Nat.{ℕ, ◌≤◌, ◌<◌, ◌-◌}
use native.Mathlib.Omega.{arith}
use native.Mathlib.Nat.{eq-or-lt_of_le}
use borrow.Author.Tests.{eq-eqb, eqb-true, not-true}
use lib.Dec.{eqb}
use lib.ListN.{length}
use Rattle.words.specs.Order.Order.{before}
use Rattle.words.specs.Keys.Kind.{stranded}
use Rattle.words.specs.Rings.Ring.{reading, start, lowest}
use Rattle.words.specs.Keys.Strand.{opposite, on_strand, strand, key_start, key}
use Rattle.words.specs.Repeats.Repeat.{repeat}
use Rattle.words.proofs.Order.Search.{either, by_test}
use Rattle.words.proofs.Rings.Ring.{start_is}
use Rattle.words.proofs.Rings.Turn.{length-reading, reading_back, start_of_lowest}
use Rattle.words.proofs.Keys.Strand.{opposite_twice, length-opposite, length-strand, strand_twice}
use Rattle.words.proofs.Keys.TurnBack.{start_low, lowest-opposite, start_back, lowest_back}
use Rattle.ring.specs.Judging.{Permitted, verdict, taken}
use Rattle.ring.specs.Strands.{left_to}
use Rattle.ring.specs.Answers.{equal, IsKey, deposit, is_key}
use Rattle.ring.proofs.Exactly.{taken_is, permitted_taken, taken_permitted}
use Rattle.ring.proofs.Equal.{equal_true, equal_same}
use Rattle.ring.proofs.Permits.{permitted_reading, permitted_lowest, permitted_opposite, permitted_strand}

pub record Fit (kind : ℕ) (k : List ℕ) (at s : ℕ) : Type 0 where
  pub permitted : Permitted kind k
  pub first : start k ≡ 0
  pub below : at < repeat k
  pub plain : stranded kind ≡ false → s ≡ 0
  pub known : stranded kind ≡ true → s ≤ 1
  pub left : stranded kind ≡ true → left_to k s ≡ true

-- ---- a key fits

fit_of : (kind : ℕ) (u : List ℕ) (s : ℕ) → Permitted kind u → (stranded kind ≡ false → s ≡ 0) → (stranded kind ≡ true → s ≤ 1) → (stranded kind ≡ true → left_to (lowest u) s ≡ true)
    → (k : List ℕ) (at r : ℕ) → lowest u ≡ k → start u ≡ at → s ≡ r → Fit kind k at r
fit_of kind u s p f g l k at r x y z =
    rw (← x, ← y, ← z) (record {
      permitted = permitted_lowest kind u p;
      first = start_of_lowest u p.some;
      below = start_low u p.some;
      plain = f;
      known = g;
      left = l;
    })

other_lowest : (w : List ℕ) → 0 < length w → lowest (opposite (lowest w)) ≡ lowest (opposite w)
unfolding lowest
other_lowest w h = lowest-opposite w (start w) h

module _ (kind : ℕ) (k : List ℕ) (at s : ℕ) where
  pub key_fits : IsKey kind k at s → Fit kind k at s
  unfolding key key_start strand
  key_fits i =
      let w = i.ring in
      let p = i.permitted in
      let o : 0 < length (opposite w) = rw length-opposite p.some in
      by_test (stranded kind)
      (λ t. by_test (before (lowest (opposite w)) (lowest w))
      (λ b. fit_of kind (opposite w) 1 (permitted_opposite kind w p) (λ e. absurd (true≢false (sym t ∙ e))) (λ e. omega arith)
      (λ e. rw (other_lowest (opposite w) o, opposite_twice w) b) k at s (simp (t, b) at i.letters) (simp (t, b) at i.start) (simp (t, b) at i.strands))
      (λ b. fit_of kind w 0 p (λ e. refl) (λ e. omega arith)
      (λ e. rw (other_lowest w p.some, b)) k at s (simp (t, b) at i.letters) (simp (t, b) at i.start) (simp (t, b) at i.strands)))
      (λ t. fit_of kind w 0 p (λ e. refl) (λ e. omega arith) (λ e. absurd (true≢false (sym e ∙ t))) k at s (simp t at i.letters) (simp t at i.start) (simp t at i.strands))

  -- ---- what fits is the key of its deposit

  module _ (f : Fit kind k at s) where
    abbrev back : List ℕ
    back = reading k (length k - at)

    low : lowest back ≡ k
    low = lowest_back k at f.permitted.some f.first f.below

    over : lowest (opposite back) ≡ lowest (opposite k)
    over = lowest-opposite k (length k - at) f.permitted.some

    strand_own : s ≡ 0 → strand kind (on_strand s back) ≡ s
    unfolding strand
    strand_own e =
        by_test (stranded kind)
        (λ t. let l : before (lowest (opposite k)) k ≡ false = not-true _ (rw e at (f.left t)) in rw (e, t, over, low, l))
        (λ t. rw (e, t))

    strand_other : s ≡ 1 → strand kind (on_strand s back) ≡ s
    unfolding strand
    strand_other e =
        by_test (stranded kind)
        (λ t. let l : before k (lowest (opposite k)) ≡ true = rw e at (f.left t) in rw (e, t, opposite_twice back, low, over, l))
        (λ t. absurd (omega (arith, f.plain t)))

    one_or_zero : stranded kind ≡ true → strand kind (on_strand s back) ≡ s
    one_or_zero t = either (eq-or-lt_of_le (f.known t)) strand_other (λ l. strand_own (omega arith))

    named : strand kind (on_strand s back) ≡ s
    named = by_test (stranded kind) one_or_zero (λ t. strand_own (f.plain t))

    there : on_strand (strand kind (on_strand s back)) (on_strand s back) ≡ back
    there = ap (λ r. on_strand r (on_strand s back)) named ∙ strand_twice s back

    pub fit_key : IsKey kind k at s
    unfolding key key_start
    fit_key = record {
      ring = on_strand s back;
      permitted = permitted_strand kind s back (permitted_reading kind k (length k - at) (omega arith) f.permitted);
      letters = ap lowest there ∙ low;
      start = ap start there ∙ start_back k at f.permitted.some f.first f.below;
      strands = named;
    }

    pub fit_true : is_key kind k at s ≡ true
    unfolding is_key deposit fit_key
    fit_true =
        let i = fit_key in
        simp (permitted_taken kind (on_strand s back) false i.permitted refl, equal_true i.letters, eq-eqb _ at i.start, eq-eqb _ s i.strands)

  -- ---- the two forms of the rule agree

  and_true : (a b : Bool) → (a && b) ≡ true → (a ≡ true) × (b ≡ true)
  and_true true b e = (refl, e)
  and_true false b e = absurd (true≢false (sym e))

  -- the computed form gives a ring
  pub is_key_is : is_key kind k at s ≡ true → IsKey kind k at s
  unfolding is_key
  is_key_is e =
      let d : List ℕ = deposit k at s in
      let x = and_true (taken (verdict kind d false) && equal (key kind d) k && eqb (key_start kind d) at) (eqb (strand kind d) s) e in
      let y = and_true (taken (verdict kind d false) && equal (key kind d) k) (eqb (key_start kind d) at) x.0 in
      let z = and_true (taken (verdict kind d false)) (equal (key kind d) k) y.0 in
      record {
        ring = deposit k at s;
        permitted = (taken_permitted kind (deposit k at s) false (taken_is _ z.0)).0;
        letters = equal_same _ k z.1;
        start = eqb-true _ at y.1;
        strands = eqb-true _ s x.1;
      }

  -- any ring gives the computed form
  pub is_key_true : IsKey kind k at s → is_key kind k at s ≡ true
  is_key_true i = fit_true (key_fits i)

  -- the deposit is the one ring that has them
  pub deposit_one : (i : IsKey kind k at s) → i.ring ≡ deposit k at s
  unfolding deposit key key_start lowest
  deposit_one i =
      let w = i.ring in
      let u : List ℕ = on_strand (strand kind w) w in
      let h : 0 < length u = rw (length-strand (strand kind w) w) i.permitted.some in
      let l : start u ≤ length u = omega (arith, (start_is u h).within) in
      let b : reading (reading u (start u)) (length (reading u (start u)) - start u) ≡ u = rw (length-reading u (start u) l) (reading_back u (start u) l h) in
      sym (rw (← i.letters, ← i.start, ← i.strands) (ap (on_strand (strand kind w)) b ∙ strand_twice (strand kind w) w))

  pub not_fit : (Fit kind k at s → ⊥) → false ≡ is_key kind k at s
  not_fit n = by_test (is_key kind k at s) (λ t. absurd (n (key_fits (is_key_is t)))) (λ t. sym t)
