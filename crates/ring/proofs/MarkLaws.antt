-- The key's marks from the starts of the strands, and letters against their opposite strand.
-- Assumes nothing.
use mathlib.Core.Path.{◌≡◌, refl, ap, ◌∙◌}
use mathlib.Core.Bool.{Bool, true, false, cond, not}
use mathlib.Core.List.{List}
use Prim.Native.Nat.{ℕ, ◌<◌}
use native.Mathlib.Omega.{arith}
use lib.ListN.{length}
use borrow.Author.Tests.{eq-eqb, ne_eqb}
use Rattle.words.specs.Order.Order.{before}
use Rattle.words.specs.Keys.Kind.{stranded}
use Rattle.words.specs.Rings.Ring.{reading, start, lowest}
use Rattle.words.specs.Keys.Strand.{opposite, on_strand, strand, key_start, key}
use Rattle.words.proofs.Order.Search.{by_test}
use Rattle.words.proofs.Rings.Ring.{start_is}
use Rattle.words.proofs.Rings.Turn.{reading_zero}
use Rattle.words.proofs.Keys.Strand.{length-strand}
use Rattle.ring.specs.Verdict.{Verdict}
use Rattle.ring.specs.Verdict.{Taken}
use Rattle.ring.specs.declared.answer.Marked.{Marked}
use Rattle.ring.specs.declared.marking.Strands.{Strands}
use Rattle.ring.specs.declared.strand.Strand.{Strand}
use Rattle.ring.specs.declared.strand.Strand.TheVariants.{Given, Opposite}
use Rattle.ring.specs.Judging.{over, after}
use Rattle.ring.specs.Strands.{both_strands, marked_on, left_to}
use Rattle.ring.specs.Answers.{done_with, marked_by, marked_as}

-- a start that is found on a strand lies in the ring
pub found_within : (s : ℕ) (w : List ℕ) (b : ℕ) → b ≡ start (on_strand s w) → 0 < length w → b < length w
found_within s w b e h =
    let n = length-strand s w in
    let i = (start_is (on_strand s w) (omega arith)).within in
    omega arith

-- ---- the starts of both strands

module _ (w : List ℕ) (a b : ℕ) (x : a ≡ start w) (y : b ≡ start (opposite w)) where
  -- the strand by the comparison of the two lowest readings
  pub strands_by : (t : Bool) (s : Strand) → t ≡ before (reading (opposite w) b) (reading w a) → s ≡ cond t Opposite Given → ◌≡◌ {A = Strands} (record { own = a; other = b; strand = s }) (both_strands w)
  unfolding lowest
  strands_by t s e f = rw (f, e, x, y)

-- ---- an answer with marks, and a room, by the verdict

module _ (n at s : ℕ) where
  pub by_done : (a : Verdict) → a ≡ Taken → done_with n at s ≡ marked_by a n at s
  by_done a e = rw e

pub room_done : (a : Verdict) → a ≡ Taken → (new old : List ℕ) → over new old ≡ after a new old
room_done a e new old = rw e

-- ---- the marks of a ring

-- the key's start is a position of the ring
pub start_below : (kind : ℕ) (w : List ℕ) → 0 < length w → key_start kind w < length w
unfolding key_start
start_below kind w h = found_within (strand kind w) w (start (on_strand (strand kind w) w)) refl h

module _ (kind : ℕ) (w : List ℕ) where
  module _ (m : Marked) (q : m ≡ done_with (length w) (key_start kind w) (strand kind w)) where
    pub marked_done : (a : Verdict) → a ≡ Taken → m ≡ marked_as a kind w
    marked_done a e = q ∙ by_done _ _ _ a e

    -- the key is the reading at its start, on its strand
    pub marked_key : reading (on_strand m.strand w) m.start ≡ key kind w
    unfolding key key_start lowest
    marked_key = rw q

  pub marks_plain : stranded kind ≡ false → (a : ℕ) → a ≡ start w → done_with (length w) a 0 ≡ done_with (length w) (key_start kind w) (strand kind w)
  unfolding strand key_start
  marks_plain k a x = rw (k, x)

  pub marks_stranded : stranded kind ≡ true → (s : Strands) → s ≡ both_strands w → marked_on s (length w) ≡ done_with (length w) (key_start kind w) (strand kind w)
  unfolding strand key_start
  marks_stranded k s e = by_test (before (lowest (opposite w)) (lowest w)) (λ t. rw (e, k, t)) (λ t. rw (e, k, t))

-- ---- letters against their opposite strand

module _ (w : List ℕ) (b s : ℕ) (y : b ≡ start (opposite w)) (t : Bool) where
  pub left_other : s ≡ 1 → t ≡ before (reading w 0) (reading (opposite w) b) → t ≡ left_to w s
  unfolding lowest
  left_other q e = e ∙ rw (y, reading_zero w, eq-eqb s 1 q)

  pub left_own : (s ≡ 1 → ⊥) → t ≡ before (reading (opposite w) b) (reading w 0) → not t ≡ left_to w s
  unfolding lowest
  left_own q e = ap not e ∙ rw (y, reading_zero w, ne_eqb s 1 q)
