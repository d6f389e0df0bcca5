-- The letters read do not depend on line width, line ends, case or blanks.
-- Assumes nothing.
use mathlib.Core.Path.{◌≡◌, refl, sym, ap, ap₂, ◌∙◌}
use mathlib.Core.Bool.{false, cond, ◌&&◌}
use mathlib.Core.List.{List, [], ◌∷◌, ◌++◌}
use Prim.Native.Nat.{ℕ, ◌≤◌, ◌-◌}
use native.Mathlib.Omega.{arith}
use borrow.Author.Tests.{leb-true, ne_eqb}
use lib.Dec.{leb}
use lib.ListN.{length, take, drop}
use lib.Seq.{take-append_seam}
use Rattle.words.proofs.Order.Search.{by_test}
use Rattle.ring.specs.Verdict.{Verdict}
use Rattle.ring.specs.Judging.{taken, field, after}
use Rattle.fasta.specs.Lines.{Line, is_blank, upper, kept_of, letters}
use Rattle.fasta.specs.Parts.{unheaded, letters_of}
use Rattle.fasta.specs.Answers.{letters_verdict, record_of, record_room}
use Rattle.fasta.specs.Demands.{bodies, Layout, Alike, nil, same, left, right, SameLetters}
use Rattle.fasta.proofs.Lines.{split_true}
use Rattle.fasta.proofs.Layouts.{laid_letters}

-- ---- line widths and line ends: the letters are what is kept of the lines' bytes joined

kept_append : (s t : List ℕ) → kept_of (s ++ t) ≡ kept_of s ++ kept_of t
kept_append [] t = refl
kept_append (b ∷ s) t = by_test (is_blank b) (λ e. rw e (kept_append s t)) (λ e. rw e (ap (λ x. upper b ∷ x) (kept_append s t)))

pub letters-bodies : (ls : List Line) → letters ls ≡ kept_of (bodies ls)
letters-bodies [] = refl
letters-bodies (l ∷ ls) = rw (kept_append l.body (bodies ls), letters-bodies ls)

-- ---- case and blanks

-- no small letter becomes a blank
blank_upper : (b : ℕ) → is_blank (upper b) ≡ is_blank b
unfolding is_blank upper
blank_upper b =
    by_test (leb 97 b && leb b 122)
    (λ e. let h : 97 ≤ b = leb-true 97 b (split_true (leb 97 b) (leb b 122) e).0 in
    rw (e, ne_eqb (b - 32) 32 (λ q. omega arith), ne_eqb (b - 32) 9 (λ q. omega arith), ne_eqb b 32 (λ q. omega arith), ne_eqb b 9 (λ q. omega arith)))
    (λ e. rw e)

alike_kept : {u v : List ℕ} → Alike u v → kept_of u ≡ kept_of v
alike_kept nil = refl
alike_kept (same {a} {b} e r) =
    let q : is_blank a ≡ is_blank b = sym (blank_upper a) ∙ ap is_blank e ∙ blank_upper b in
    by_test (is_blank b) (λ t. rw (q, t) (alike_kept r)) (λ t. rw (q, t) (ap₂ (λ x y. x ∷ y) e (alike_kept r)))
alike_kept (left e r) = rw e (alike_kept r)
alike_kept (right e r) = rw e (alike_kept r)

pub laid_alike : {s t : List ℕ} (l : Layout s) (m : Layout t) → Alike (bodies l.lines) (bodies m.lines) → letters_of s ≡ letters_of t
laid_alike l m a =
    laid_letters l ∙ letters-bodies l.lines ∙ alike_kept a ∙ sym (laid_letters m ∙ letters-bodies m.lines)

-- ---- the same letters are answered alike

-- what a call counts of its room: the letters, none where it declines
pub counted : (v : Verdict) (w room : List ℕ) → take (field v (length w)) (after v w room) ≡ cond (taken v) w []
counted v w room = by_test (taken v) (λ t. rw t (take-append_seam w (drop (length w) room))) (λ t. rw t)

module _ (s t room room2 : List ℕ) (a : unheaded s ≡ false) (b : unheaded t ≡ false) (e : letters_of s ≡ letters_of t) (h : length room ≡ length room2) where
  abbrev one : Verdict
  one = letters_verdict s (length room)

  abbrev two : Verdict
  two = letters_verdict t (length room2)

  verdict_same : one ≡ two
  verdict_same = rw (e, h)

  counted_same : cond (taken one) (letters_of s) [] ≡ cond (taken two) (letters_of t) []
  counted_same = rw (verdict_same, e)

  pub answered_alike : SameLetters (record_of s (length room)) (record_room s room) (record_of t (length room2)) (record_room t room2)
  answered_alike = record {
    number = rw (a, b, verdict_same);
    place = rw (a, b, verdict_same);
    count = rw (a, b, verdict_same, e);
    letters = rw (a, b) (counted one (letters_of s) room ∙ counted_same ∙ sym (counted two (letters_of t) room2));
  }
