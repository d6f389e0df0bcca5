-- The key with its start and strand is what 01 says, and the only one.
-- Assumes nothing.
use mathlib.Core.Path.{◌≡◌, refl, sym, ap, ◌∙◌}
use mathlib.Core.Logic.{◌↔◌}
use mathlib.Core.Bool.{true}
use mathlib.Core.List.{List}
use Prim.Native.Nat.{ℕ, ◌≤◌, ◌<◌}
use native.Mathlib.Omega.{arith}
use native.Mathlib.Nat.{eq-or-lt_of_le}
use lib.ListN.{length}
use Rattle.words.specs.Order.Order.{◌≺◌, ◌≼◌, before}
use Rattle.words.specs.Keys.Kind.{stranded}
use Rattle.words.specs.Rings.Ring.{reading, start, lowest}
use Rattle.words.specs.Keys.Strand.{opposite, on_strand, strand, key_start, key}
use Rattle.words.proofs.Order.Order.{before_true, before_less, before_no, lt_le, lt_of_lt_le, le_trans}
use Rattle.words.proofs.Order.Search.{by_test, either}
use Rattle.words.proofs.Rings.Ring.{start_is, start_one}
use Rattle.words.proofs.Keys.Strand.{length-opposite, length-strand}
use Rattle.words.proofs.Keys.Molecule.{key_plain, key_lesser}
use Rattle.ring.specs.Demands.{KeyOf}

-- the lowest reading is no greater than any
no_less : (w : List ℕ) → 0 < length w → (j : ℕ) → j < length w → lowest w ≼ reading w j
unfolding lowest
no_less w h j l = (start_is w h).lowest j l

module _ (kind : ℕ) (w : List ℕ) where
  named : strand kind w ≤ 1
  unfolding strand
  named =
      by_test (stranded kind)
      (λ t. by_test (before (lowest (opposite w)) (lowest w)) (λ b. rw (t, b) (omega arith)) (λ b. rw (t, b) (omega arith)))
      (λ t. rw t (omega arith))

  turned : (strand kind w ≡ 1) ↔ ((stranded kind ≡ true) × (lowest (opposite w) ≺ lowest w))
  unfolding strand
  turned = (
    (λ e. by_test (stranded kind)
        (λ t. by_test (before (lowest (opposite w)) (lowest w)) (λ b. (t, before_less _ _ b)) (λ b. absurd (omega (arith, simp (t, b) at e))))
        (λ t. absurd (omega (arith, simp t at e)))),
    (λ p. rw (p.0, before_true p.1)),
  )

  module _ (h : 0 < length w) where
    own : (j : ℕ) → j < length w → key kind w ≼ reading w j
    own j l =
        by_test (stranded kind)
        (λ t. by_test (before (lowest (opposite w)) (lowest w))
        (λ b. rw (key_lesser kind w t, b) (lt_le (lt_of_lt_le (before_less _ _ b) (no_less w h j l))))
        (λ b. rw (key_lesser kind w t, b) (no_less w h j l)))
        (λ t. rw (key_plain kind w t) (no_less w h j l))

    other : stranded kind ≡ true → (j : ℕ) → j < length w → key kind w ≼ reading (opposite w) j
    other t j l =
        let n : length (opposite w) ≡ length w = length-opposite w in
        let m : lowest (opposite w) ≼ reading (opposite w) j = no_less (opposite w) (rw n h) j (rw n l) in
        by_test (before (lowest (opposite w)) (lowest w)) (λ b. rw (key_lesser kind w t, b) m) (λ b. rw (key_lesser kind w t, b) (le_trans (before_no b) m))

    -- the key, its start and its strand are those of 01
    pub key_of : KeyOf kind w (key_start kind w) (strand kind w) (key kind w)
    unfolding key key_start lowest
    key_of = record {
      letters = refl;
      starts = start_is (on_strand (strand kind w) w) (rw length-strand h);
      own = own;
      other = other;
      named = named;
      turned = turned;
    }

-- two that are strand 1 for the same reason are one strand
one_strand : {P : Type 0} (s t : ℕ) → s ≤ 1 → t ≤ 1 → (s ≡ 1) ↔ P → (t ≡ 1) ↔ P → s ≡ t
one_strand s t h l p q =
    either (eq-or-lt_of_le h) (λ e. e ∙ sym (q.1 (p.0 e)))
    (λ a. either (eq-or-lt_of_le l) (λ f. absurd (omega (arith, p.1 (q.0 f)))) (λ b. omega arith))

-- no other is
pub key_only : (kind : ℕ) (w : List ℕ) (a b s t : ℕ) (k l : List ℕ) → KeyOf kind w a s k → KeyOf kind w b t l → (a ≡ b) × (s ≡ t) × (k ≡ l)
key_only kind w a b s t k l p q =
    let e : s ≡ t = one_strand s t p.named q.named p.turned q.turned in
    let f : a ≡ b = start_one (on_strand s w) a p.starts ∙ ap (λ x. start (on_strand x w)) e ∙ sym (start_one (on_strand t w) b q.starts) in
    (f, e, p.letters ∙ rw (e, f) (sym q.letters))
