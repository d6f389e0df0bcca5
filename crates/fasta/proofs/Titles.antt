-- No record is lost: a walk has an item for each header line of a text with a record, in order.
-- Assumes nothing.
use mathlib.Core.Path.{◌≡◌, refl, sym, ap, ap₂, ◌∙◌}
use mathlib.Core.Bool.{false}
use mathlib.Core.List.{List, [], ◌∷◌, ◌++◌}
use Prim.Native.Nat.{ℕ, suc, ◌<◌}
use lib.ListN.{length}
use Rattle.fasta.specs.Lines.{mark, Line, line, lines_of}
use Rattle.fasta.specs.Parts.{unheaded, rest_of}
use Rattle.fasta.specs.Demands.{Cut, Every, Empty, Unmarked, Layout}
use Rattle.fasta.specs.Walks.{Item, Walk, headers, titles}
use Rattle.fasta.proofs.Cutting.{cut_lines, cut_one, cut_behind, cut_from}
use Rattle.fasta.proofs.Layouts.{empty_unmarked, layout_of, laid_header, laid_rest}
use Rattle.fasta.proofs.Remains.{rest_tested}

-- ---- the header lines of a layout

headers_passed : {front : List Line} → Every Empty front → (more : List Line) → headers (front ++ more) ≡ headers more
headers_passed Every.none more = refl
headers_passed (Every.more {l} p ps) more = rw (empty_unmarked l.body p.is) (headers_passed ps more)

headers-beyond : {ls : List Line} → Every Unmarked ls → (more : List Line) → headers (ls ++ more) ≡ headers more
headers-beyond Every.none more = refl
headers-beyond (Every.more u us) more = rw u.is (headers-beyond us more)

module _ {text : List ℕ} (l : Layout text) where
  -- what remains has the lines that it has in the text
  remains_lines : l.remains ≡ lines_of (rest_of text)
  remains_lines =
      let c : Cut (l.front ++ (line (mark ∷ l.header) l.ending ∷ (l.lines ++ l.remains))) = rw l.are at (cut_lines text) in
      cut_one (cut_from l.lines (cut_behind (cut_from l.front c))) (sym (laid_rest l))

  headers_laid : headers (lines_of text) ≡ l.header ∷ headers (lines_of (rest_of text))
  headers_laid =
      ap headers l.are ∙ headers_passed l.passed (line (mark ∷ l.header) l.ending ∷ (l.lines ++ l.remains))
      ∙ ap (λ x. l.header ∷ x) (headers-beyond l.unmarked l.remains ∙ ap headers remains_lines)

-- ---- a walk has them

pub walk_headers : {text : List ℕ} {es : List Item} → (0 < length text → unheaded text ≡ false) → Walk text es → titles es ≡ headers (lines_of text)
walk_headers u Walk.end = refl
walk_headers u (Walk.step {text} h m c d f w) =
    let l = layout_of text (u h) in
    let more = walk_headers (λ k. rw f.is (rest_tested text (rw f.is at k))) w in
    ap₂ (λ a b. a ∷ b) (d.is ∙ laid_header l) (more ∙ ap (λ x. headers (lines_of x)) f.is) ∙ sym (headers_laid l)

pub titles_count : (es : List Item) → length (titles es) ≡ length es
titles_count [] = refl
titles_count (e ∷ es) = ap suc (titles_count es)
