-- Which strands a kind has, and which letters.
-- Assumes nothing.
use mathlib.Core.Path.{◌≡◌, refl}
use mathlib.Core.Bool.{Bool, true, false, not, ◌||◌, ◌&&◌}
use Prim.Native.Nat.{ℕ}
use native.Mathlib.Omega.{arith}
use borrow.Author.Tests.{lt-ltb, le-ltb, le-leb, lt-leb, eq-eqb, ne_eqb, leb-true, eqb-false}
use lib.Dec.{ltb, leb, eqb}
use Rattle.words.specs.Keys.Letter.{A, C, G, is_base, is_iupac}
use Rattle.words.specs.Keys.Kind.{known, stranded, strands}
use Rattle.words.proofs.Order.Search.{by_test, either, lt_or_ge, neither}

and_false : (t : Bool) → (t && false) ≡ false
and_false t = by_test t (λ e. rw e) (λ e. rw e)

-- of two strands: none above 1
two : (s : ℕ) → leb 2 s ≡ (ltb 1 s || eqb s 1 && false)
two s = by_test (leb 2 s) (λ t. rw t) (λ t. rw (t, and_false (eqb s 1)))

-- of one strand: none above 0
one : (s : ℕ) → leb 1 s ≡ (ltb 1 s || eqb s 1 && not false)
one s =
    either (lt_or_ge 1 s) (λ h. rw (le-leb 1 s (omega arith), lt-ltb 1 s h))
    (λ h. either (lt_or_ge 0 s) (λ g. rw (le-leb 1 s (omega arith), le-ltb 1 s h, eq-eqb s 1 (omega arith)))
    (λ g. rw (lt-leb 1 s (omega arith), le-ltb 1 s h, ne_eqb s 1 (λ e. omega arith))))

-- a strand is none of a kind's where the kind is unknown, it is above 1, or it is 1 and the kind has no opposite strand
pub no_strand : (kind s : ℕ) → leb (strands kind) s ≡ (not (known kind) || ltb 1 s || eqb s 1 && not (stranded kind))
unfolding strands
no_strand kind s =
    by_test (known kind)
    (λ k. by_test (stranded kind) (λ t. rw (k, t) (two s)) (λ t. rw (k, t) (one s)))
    (λ k. rw (k, le-leb 0 s (omega arith)))

-- how many a kind has, by tests

pub strands_none : (kind : ℕ) → known kind ≡ false → strands kind ≡ 0
unfolding strands
strands_none kind h = rw h

pub strands_both : (kind : ℕ) → known kind ≡ true → stranded kind ≡ true → strands kind ≡ 2
unfolding strands
strands_both kind h t = rw (h, t)

pub strands_own : (kind : ℕ) → known kind ≡ true → stranded kind ≡ false → strands kind ≡ 1
unfolding strands
strands_own kind h t = rw (h, t)

-- a kind without an opposite strand is that of feature rings
pub only_feature : (kind : ℕ) → known kind ≡ true → stranded kind ≡ false → kind ≡ 0
unfolding stranded
only_feature kind k e =
    let n = neither (eqb kind 1) (eqb kind 2) e in
    omega (arith, leb-true kind 2 k, eqb-false kind 1 n.0, eqb-false kind 2 n.1)

-- a letter of a base ring is one of the fifteen
pub base_iupac : (a : ℕ) → is_base a ≡ true → is_iupac a ≡ true
unfolding is_iupac
base_iupac a =
    by_test (eqb a A) (λ x. rw x (λ e. refl))
    (λ x. by_test (eqb a C) (λ y. rw (x, y) (λ e. refl))
    (λ y. by_test (eqb a G) (λ z. rw (x, y, z) (λ e. refl)) (λ z. rw (x, y, z) (λ e. rw e))))
