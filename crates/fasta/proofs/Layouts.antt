-- A text by its first record: every text with one is laid out as lines, and the layout gives each part of the record.
-- Assumes nothing.
use mathlib.Core.Path.{◌≡◌, refl, sym, ap, ◌∙◌}
use mathlib.Core.Logic.{inl, inr}
use mathlib.Core.Bool.{true, false, true≢false}
use mathlib.Core.List.{List, [], ◌∷◌, ◌++◌}
use Prim.Native.Nat.{ℕ}
use native.Mathlib.Omega.{arith}
use borrow.Author.Tests.{eqb-true, ne_eqb}
use lib.Dec.{eqb}
use lib.ListN.{length}
use Rattle.words.proofs.Order.Search.{by_test, either}
use Rattle.fasta.specs.Lines.{mark, Line, line, lines_of, joined, begins, is_blank, is_header, is_empty, all_blank, letters}
use Rattle.fasta.specs.Parts.{from_header, up_to, beyond, record_lines, no_line, unheaded, header_of, letters_of, rest_of}
use Rattle.fasta.specs.Demands.{Every, Empty, Unmarked, Next, Layout}
use Rattle.fasta.proofs.Lines.{split_true}

-- ---- lines to the next header, and beyond

up_beyond : (ls : List Line) → up_to ls ++ beyond ls ≡ ls
up_beyond [] = refl
up_beyond (l ∷ ls) = by_test (is_header l) (λ e. rw e) (λ e. rw e (ap (λ x. l ∷ x) (up_beyond ls)))

up_unmarked : (ls : List Line) → Every Unmarked (up_to ls)
up_unmarked [] = Every.none
up_unmarked (l ∷ ls) = by_test (is_header l) (λ e. rw e Every.none) (λ e. rw e (Every.more (record { is = e }) (up_unmarked ls)))

pub beyond_next : (ls : List Line) → Next (beyond ls)
beyond_next [] = inl refl
beyond_next (l ∷ ls) = by_test (is_header l) (λ e. rw e (inr e)) (λ e. rw e (beyond_next ls))

-- lines that are no headers go up to where a header is next
up_stops : (ls : List Line) → Next ls → (up_to ls ≡ []) × (beyond ls ≡ ls)
up_stops [] n = (refl, refl)
up_stops (l ∷ ls) n = either n (λ e. absurd (omega (arith, ap length e))) (λ e. (rw e, rw e))

up_lines : {ls : List Line} → Every Unmarked ls → (more : List Line) → Next more → up_to (ls ++ more) ≡ ls
up_lines Every.none more n = (up_stops more n).0
up_lines (Every.more {l} u us) more n = rw u.is (ap (λ x. l ∷ x) (up_lines us more n))

beyond-lines : {ls : List Line} → Every Unmarked ls → (more : List Line) → Next more → beyond (ls ++ more) ≡ more
beyond-lines Every.none more n = (up_stops more n).1
beyond-lines (Every.more u us) more n = rw u.is (beyond-lines us more n)

-- ---- lines to the first header

-- a blank is no mark, so an empty line is no header
blank_mark : (b : ℕ) → is_blank b ≡ true → eqb b mark ≡ false
unfolding is_blank
blank_mark b e =
    by_test (eqb b 32) (λ q. ne_eqb b mark (λ z. omega (arith, eqb-true b 32 q)))
    (λ q. ne_eqb b mark (λ z. omega (arith, eqb-true b 9 (rw q at e))))

pub empty_unmarked : (s : List ℕ) → all_blank s ≡ true → begins mark s ≡ false
empty_unmarked [] e = refl
empty_unmarked (b ∷ s) e = blank_mark b (split_true (is_blank b) (all_blank s) e).0

passed_over : {front : List Line} → Every Empty front → (h : Line) (more : List Line) → is_header h ≡ true
    → from_header (front ++ (h ∷ more)) ≡ h ∷ more
passed_over Every.none h more e = rw e
passed_over (Every.more {l} p ps) h more e = rw (empty_unmarked l.body p.is, p.is) (passed_over ps h more e)

-- the lines before the first header
record Front (ls : List Line) : Type 0 where
  front : List Line
  are : ls ≡ front ++ from_header ls
  passed : Every Empty front

front_more : (l : Line) (ls : List Line) → is_header l ≡ false → is_empty l ≡ true → Front ls → Front (l ∷ ls)
front_more l ls q r f =
    record { front = l ∷ f.front; are = rw (q, r) (ap (λ x. l ∷ x) f.are); passed = Every.more (record { is = r }) f.passed }

front_of : (ls : List Line) → no_line (from_header ls) ≡ false → Front ls
front_of [] e = absurd (true≢false e)
front_of (l ∷ ls) e =
    by_test (is_header l) (λ q. record { front = []; are = rw q; passed = Every.none })
    (λ q. by_test (is_empty l) (λ r. front_more l ls q r (front_of ls (rw (q, r) at e))) (λ r. absurd (true≢false (rw (q, r) at e))))

-- and that header with the lines behind it
record Headed (ls : List Line) : Type 0 where
  header : List ℕ
  ending : List ℕ
  more : List Line
  are : ls ≡ line (mark ∷ header) ending ∷ more

marked : (s e : List ℕ) (ls : List Line) → begins mark s ≡ true → Headed (line s e ∷ ls)
marked [] e ls q = absurd (true≢false (sym q))
marked (b ∷ s) e ls q = record { header = s; ending = e; more = ls; are = rw (eqb-true b mark q) }

headed_of : (ls : List Line) → no_line (from_header ls) ≡ false → Headed (from_header ls)
headed_of [] e = absurd (true≢false e)
headed_of (l ∷ ls) e =
    by_test (is_header l) (λ q. rw q (marked l.body l.ending ls q))
    (λ q. by_test (is_empty l) (λ r. rw (q, r) (headed_of ls (rw (q, r) at e))) (λ r. absurd (true≢false (rw (q, r) at e))))

-- ---- every text with a record is laid out so

pub layout_of : (text : List ℕ) → unheaded text ≡ false → Layout text
unfolding record_lines
layout_of text e =
    let f = front_of (lines_of text) e in
    let h = headed_of (lines_of text) e in
    record {
      front = f.front;
      header = h.header;
      ending = h.ending;
      lines = up_to h.more;
      remains = beyond h.more;
      are = f.are ∙ ap (λ x. f.front ++ x) (h.are ∙ ap (λ x. line (mark ∷ h.header) h.ending ∷ x) (sym (up_beyond h.more)));
      passed = f.passed;
      unmarked = up_unmarked h.more;
      next = beyond_next h.more;
    }

-- ---- what a layout gives of the record

module _ {text : List ℕ} (l : Layout text) where
  -- the header line, and all behind it
  pub laid_record : record_lines text ≡ line (mark ∷ l.header) l.ending ∷ (l.lines ++ l.remains)
  unfolding record_lines
  laid_record = rw l.are (passed_over l.passed (line (mark ∷ l.header) l.ending) (l.lines ++ l.remains) refl)

  pub laid_tested : unheaded text ≡ false
  laid_tested = rw laid_record

  pub laid_header : header_of text ≡ l.header
  unfolding header_of
  laid_header = rw laid_record

  pub laid_letters : letters_of text ≡ letters l.lines
  unfolding letters_of
  laid_letters = rw laid_record (ap letters (up_lines l.unmarked l.remains l.next))

  pub laid_rest : rest_of text ≡ joined l.remains
  unfolding rest_of
  laid_rest = rw laid_record (ap joined (beyond-lines l.unmarked l.remains l.next))
