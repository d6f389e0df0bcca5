-- Lines, and the same read byte by byte.
-- Assumes nothing.
use mathlib.Core.Path.{◌≡◌, refl, sym, ap, ◌∙◌}
use mathlib.Core.Bool.{Bool, true, false, cond, not, ◌&&◌, true≢false}
use mathlib.Core.List.{List, [], ◌∷◌, ◌++◌}
use Prim.Native.Nat.{ℕ}
use native.Mathlib.Omega.{arith}
use borrow.Author.Tests.{eqb-true, ne_eqb}
use lib.Dec.{eqb}
use lib.ListN.{drop}
use Rattle.words.proofs.Order.Search.{by_test}
use Rattle.fasta.specs.Lines.{mark, lf, cr, Line, line, onto, lines_of, joined, first_body, begins, is_blank, is_header, all_blank, kept_of, letters}
use Rattle.fasta.specs.Parts.{from_header, up_to, beyond, record_lines}
use Rattle.fasta.specs.Scan.{ends, keeps, turns, header_in, header_from, end_in, letters_in, rest_in}

-- ---- a byte and the text behind it: LF, CR with LF behind it, or any other

pub by_end : {P : Type 0} (b : ℕ) (t : List ℕ) → (eqb b lf ≡ true → P) → (eqb b lf ≡ false → (eqb b cr && begins lf t) ≡ true → P)
    → (eqb b lf ≡ false → (eqb b cr && begins lf t) ≡ false → P) → P
by_end b t f g h = by_test (eqb b lf) f (λ e. by_test (eqb b cr && begins lf t) (g e) (h e))

pub split_true : (s t : Bool) → (s && t) ≡ true → (s ≡ true) × (t ≡ true)
split_true true t e = (refl, e)
split_true false t e = absurd (true≢false (sym e))

module _ (b : ℕ) (t : List ℕ) where
  pub ends-lf : eqb b lf ≡ true → ends b t ≡ true
  unfolding ends
  ends-lf e = rw e

  pub ends_other : eqb b lf ≡ false → ends b t ≡ (eqb b cr && begins lf t)
  unfolding ends
  ends_other e = rw e

  pub keeps_end : ends b t ≡ true → keeps b t ≡ false
  unfolding keeps
  keeps_end e = rw e (by_test (is_blank b) (λ q. rw q) (λ q. rw q))

  keeps_other : ends b t ≡ false → keeps b t ≡ not (is_blank b)
  unfolding keeps
  keeps_other e = rw e (by_test (is_blank b) (λ q. rw q) (λ q. rw q))

  pub turns-lf : eqb b lf ≡ true → turns b t ≡ begins mark t
  unfolding turns
  turns-lf e = rw e

  pub turns_other : eqb b lf ≡ false → turns b t ≡ false
  unfolding turns
  turns_other e = rw e

-- ---- the first line

first_onto : (b : ℕ) (ls : List Line) → first_body (onto b ls) ≡ b ∷ first_body ls
first_onto b [] = refl
first_onto b (l ∷ ls) = refl

drop-onto : (b : ℕ) (ls : List Line) → drop 1 (onto b ls) ≡ drop 1 ls
drop-onto b [] = refl
drop-onto b (l ∷ ls) = refl

joined-onto : (b : ℕ) (ls : List Line) → joined (onto b ls) ≡ b ∷ joined ls
joined-onto b [] = refl
joined-onto b (l ∷ ls) = refl

-- a text that begins with LF
feed : (t : List ℕ) → begins lf t ≡ true → lines_of t ≡ line [] (lf ∷ []) ∷ lines_of (drop 1 t)
feed [] e = absurd (true≢false (sym e))
feed (b ∷ t) e = rw e

first_feed : (t : List ℕ) → begins lf t ≡ true → first_body (lines_of t) ≡ []
first_feed t e = rw (feed t e)

pub first_begins : (t : List ℕ) → begins mark (first_body (lines_of t)) ≡ begins mark t
first_begins [] = refl
first_begins (b ∷ t) =
    by_end b t (λ e. rw e (sym (ne_eqb b mark (λ q. omega (arith, eqb-true b lf e)))))
    (λ e c. rw (e, c) (sym (ne_eqb b mark (λ q. omega (arith, eqb-true b cr (split_true (eqb b cr) (begins lf t) c).0)))))
    (λ e c. rw (e, c, first_onto b (lines_of t)))

-- ---- the lines of a text are the text

pub joined-lines : (t : List ℕ) → joined (lines_of t) ≡ t
joined-lines [] = refl
joined-lines (b ∷ t) =
    by_end b t (λ e. rw (e, joined-lines t, eqb-true b lf e))
    (λ e c. let f = (split_true (eqb b cr) (begins lf t) c).1 in
    let g = rw (feed t f) at (joined-lines t) in
    rw (e, c, feed t f, eqb-true b cr (split_true (eqb b cr) (begins lf t) c).0) (ap (λ x. cr ∷ x) g))
    (λ e c. rw (e, c, joined-onto b (lines_of t), joined-lines t))

-- ---- what follows where a line begins

letters_next : (ls : List Line) → letters (up_to ls) ≡ cond (begins mark (first_body ls)) [] (kept_of (first_body ls) ++ letters (up_to (drop 1 ls)))
letters_next [] = refl
letters_next (l ∷ ls) = by_test (is_header l) (λ e. rw e) (λ e. rw e)

rest_next : (ls : List Line) → joined (beyond ls) ≡ cond (begins mark (first_body ls)) (joined ls) (joined (beyond (drop 1 ls)))
rest_next [] = refl
rest_next (l ∷ ls) = by_test (is_header l) (λ e. rw e) (λ e. rw e)

header_next : (ls : List Line) → from_header ls ≡ cond (begins mark (first_body ls)) ls (cond (all_blank (first_body ls)) (from_header (drop 1 ls)) [])
header_next [] = refl
header_next (l ∷ ls) = refl

-- ---- byte by byte

pub letters_in_lem : (t : List ℕ) → letters_in t ≡ kept_of (first_body (lines_of t)) ++ letters (up_to (drop 1 (lines_of t)))
letters_in_lem [] = refl
letters_in_lem (b ∷ t) =
    by_end b t
    (λ e. rw (e, keeps_end b t (ends-lf b t e), turns-lf b t e, letters_next (lines_of t), first_begins t, letters_in_lem t))
    (λ e c. rw (e, c, keeps_end b t (ends_other b t e ∙ c), turns_other b t e, letters_in_lem t, first_feed t (split_true (eqb b cr) (begins lf t) c).1))
    (λ e c. rw (e, c, first_onto b (lines_of t), drop-onto b (lines_of t), keeps_other b t (ends_other b t e ∙ c))
    (by_test (is_blank b) (λ q. rw (q, turns_other b t e, letters_in_lem t)) (λ q. rw (q, letters_in_lem t))))

pub rest_in_lem : (t : List ℕ) → rest_in t ≡ joined (beyond (drop 1 (lines_of t)))
rest_in_lem [] = refl
rest_in_lem (b ∷ t) =
    by_end b t
    (λ e. rw (e, turns-lf b t e, rest_next (lines_of t), first_begins t, joined-lines t, rest_in_lem t))
    (λ e c. rw (e, c, turns_other b t e, rest_in_lem t))
    (λ e c. rw (e, c, drop-onto b (lines_of t), turns_other b t e, rest_in_lem t))

header_in_lem : (t : List ℕ) → lines_of (header_in t) ≡ cond (all_blank (first_body (lines_of t))) (from_header (drop 1 (lines_of t))) []
header_in_lem [] = refl
header_in_lem (b ∷ t) =
    by_end b t
    (λ e. rw (e, keeps_end b t (ends-lf b t e), turns-lf b t e, header_next (lines_of t), first_begins t, ← header_in_lem t) (by_test (begins mark t) (λ q. rw q) (λ q. rw q)))
    (λ e c. rw (e, c, keeps_end b t (ends_other b t e ∙ c), turns_other b t e, header_in_lem t, first_feed t (split_true (eqb b cr) (begins lf t) c).1))
    (λ e c. rw (e, c, first_onto b (lines_of t), drop-onto b (lines_of t), keeps_other b t (ends_other b t e ∙ c))
    (by_test (is_blank b) (λ q. rw (q, turns_other b t e, header_in_lem t)) (λ q. rw q)))

pub header_from_lem : (t : List ℕ) → lines_of (header_from t) ≡ record_lines t
unfolding header_from record_lines
header_from_lem t = rw (header_next (lines_of t), first_begins t, ← header_in_lem t) (by_test (begins mark t) (λ q. rw q) (λ q. rw q))

-- ---- a line's end

pub end_split : (t : List ℕ) → first_body (lines_of t) ++ end_in t ≡ t
end_split [] = refl
end_split (b ∷ t) =
    by_end b t (λ e. rw (e, ends-lf b t e)) (λ e c. rw (e, c, ends_other b t e, c))
    (λ e c. rw (e, c, ends_other b t e, c, first_onto b (lines_of t)) (ap (λ x. b ∷ x) (end_split t)))

pub end_first : (t : List ℕ) → first_body (lines_of (end_in t)) ≡ []
end_first [] = refl
end_first (b ∷ t) =
    by_end b t (λ e. rw (ends-lf b t e, e)) (λ e c. rw (ends_other b t e, c, e, c)) (λ e c. rw (ends_other b t e, c) (end_first t))

pub end_drop : (t : List ℕ) → drop 1 (lines_of (end_in t)) ≡ drop 1 (lines_of t)
end_drop [] = refl
end_drop (b ∷ t) =
    by_end b t (λ e. rw (ends-lf b t e)) (λ e c. rw (ends_other b t e, c, e, c))
    (λ e c. rw (ends_other b t e, c) (end_drop t ∙ rw (e, drop-onto b (lines_of t))))
