-- Records in plain form: their text is laid out as their lines, with all their letters.
-- Assumes nothing.
use mathlib.Core.Path.{◌≡◌, refl, sym, ap, ◌∙◌}
use mathlib.Core.Logic.{inl, inr}
use mathlib.Core.Bool.{true, false}
use mathlib.Core.List.{List, [], ◌∷◌, ◌++◌}
use Prim.Native.Nat.{ℕ, suc, ◌<◌}
use native.Mathlib.Omega.{arith}
use borrow.Author.Tests.{leb-true, ne_eqb}
use lib.Dec.{eqb, leb}
use lib.ListN.{length, get_or}
use Rattle.words.specs.Keys.Kind.{is_letter}
use Rattle.words.proofs.Order.Search.{by_test}
use Rattle.fasta.specs.Lines.{mark, lf, cr, Line, line, lines_of, joined, begins, is_blank, upper, kept_of, letters}
use Rattle.fasta.specs.Answers.{base_kind}
use Rattle.fasta.specs.Demands.{has, closes, Whole, Every, Unmarked, Next, Layout, bodies}
use Rattle.fasta.specs.Walks.{EndedLine, Plain, plain_text}
use Rattle.fasta.proofs.Lines.{first_begins, joined-lines}
use Rattle.fasta.proofs.Cutting.{cut_lines, cut_one, cut_before}
use Rattle.fasta.proofs.Places.{joined-append}
use Rattle.fasta.proofs.Bases.{Between, letter_between}
use Rattle.fasta.proofs.Alike.{letters-bodies}

-- ---- bytes that are letters of a base ring

data Bases : List ℕ → Type 0 where
  done : Bases []
  then : {b : ℕ} {s : List ℕ} → Between b → Bases s → Bases (b ∷ s)

bases : (w : List ℕ) → ((i : ℕ) → i < length w → is_letter base_kind (get_or w i 0) ≡ true) → Bases w
bases [] h = done
bases (b ∷ w) h = then (letter_between b (h 0 (omega arith))) (bases w (λ i l. h (suc i) (omega arith)))

bases_split : (s : List ℕ) {t : List ℕ} → Bases (s ++ t) → Bases s × Bases t
bases_split [] a = (done, a)
bases_split (b ∷ s) (then h a) = let p = bases_split s a in (then h p.0, p.1)

module _ {b : ℕ} (h : Between b) where
  base_blank : is_blank b ≡ false
  unfolding is_blank
  base_blank = rw (ne_eqb b 32 (λ q. omega (arith, h.low)), ne_eqb b 9 (λ q. omega (arith, h.low)))

  base-upper : upper b ≡ b
  unfolding upper
  base-upper = by_test (leb 97 b) (λ q. absurd (omega (arith, leb-true 97 b q, h.high))) (λ q. rw q)

  -- it is no mark and ends no line
  base_other : (a : ℕ) → a < 65 → eqb b a ≡ false
  base_other a l = ne_eqb b a (λ q. omega (arith, h.low))

-- all are kept
kept_bases : {s : List ℕ} → Bases s → kept_of s ≡ s
kept_bases done = refl
kept_bases (then {b} h a) = rw (base_blank h, base-upper h) (ap (λ x. b ∷ x) (kept_bases a))

-- ---- lines of letters are whole, and no headers

bases_has : {s : List ℕ} → Bases s → has lf s ≡ false
bases_has done = refl
bases_has (then h a) = rw (base_other h lf (omega arith), bases_has a)

bases_closes : {s : List ℕ} → Bases s → closes cr s ≡ false
bases_closes done = refl
bases_closes (then h done) = base_other h cr (omega arith)
bases_closes (then h (then i a)) = bases_closes (then i a)

bases_unmarked : {s : List ℕ} → Bases s → begins mark s ≡ false
bases_unmarked done = refl
bases_unmarked (then h a) = base_other h mark (omega arith)

rows_whole : {ls : List Line} → Every EndedLine ls → Bases (bodies ls) → Every Whole ls
rows_whole Every.none a = Every.none
rows_whole (Every.more {l} r rs) a =
    let p = bases_split l.body a in Every.more (record { end = r.is; within = bases_has p.0; seam = λ q. bases_closes p.0 }) (rows_whole rs p.1)

rows_unmarked : (ls : List Line) → Bases (bodies ls) → Every Unmarked ls
rows_unmarked [] a = Every.none
rows_unmarked (l ∷ ls) a = let p = bases_split l.body a in Every.more (record { is = bases_unmarked p.0 }) (rows_unmarked ls p.1)

-- ---- a record in plain form, with others behind it

plain_bases : (p : Plain) → Bases (bodies p.lines)
plain_bases p = bases (bodies p.lines) p.permitted.letters

pub plain_letters : (p : Plain) → letters p.lines ≡ bodies p.lines
plain_letters p = letters-bodies p.lines ∙ kept_bases (plain_bases p)

pub plain_unmarked : (p : Plain) → Every Unmarked p.lines
plain_unmarked p = rows_unmarked p.lines (plain_bases p)

pub plain_next : (ps : List Plain) → Next (lines_of (plain_text ps))
plain_next [] = inl refl
plain_next (p ∷ ps) = inr (first_begins (plain_text (p ∷ ps)))

pub plain_are : (p : Plain) (ps : List Plain)
    → lines_of (plain_text (p ∷ ps)) ≡ line (mark ∷ p.header) p.ending ∷ (p.lines ++ lines_of (plain_text ps))
plain_are p ps =
    let own : List Line = line (mark ∷ p.header) p.ending ∷ p.lines in
    sym (cut_one (cut_before (Every.more p.whole (rows_whole p.rows (plain_bases p))) (cut_lines (plain_text ps)))
    (joined-append own (lines_of (plain_text ps)) ∙ ap (λ x. joined own ++ x) (joined-lines (plain_text ps))))

abbrev pub plain_layout : (p : Plain) (ps : List Plain) → Layout (plain_text (p ∷ ps))
plain_layout p ps = record {
  front = [];
  header = p.header;
  ending = p.ending;
  lines = p.lines;
  remains = lines_of (plain_text ps);
  are = plain_are p ps;
  passed = Every.none;
  unmarked = plain_unmarked p;
  next = plain_next ps;
}
