-- Where the parts of a text laid out as lines stand: the header behind its mark, what remains at the text's end.
-- Assumes nothing.
use mathlib.Core.Path.{◌≡◌, refl, sym, ap, ◌∙◌}
use mathlib.Core.List.{List, [], ◌∷◌, ◌++◌, append_assoc}
use Prim.Native.Nat.{ℕ, ◌<◌, ◌+◌, ◌-◌}
use native.Mathlib.Omega.{arith}
use lib.ListN.{length, take, drop, length-append}
use lib.Seq.{take-append_seam, drop-append-add, drop_at}
use Rattle.fasta.specs.Lines.{mark, Line, line, joined}
use Rattle.fasta.specs.Parts.{record_lines, rest_of, header_at, rest_at}
use Rattle.fasta.specs.Demands.{Layout}
use Rattle.fasta.proofs.Lines.{joined-lines}
use Rattle.fasta.proofs.Layouts.{laid_record, laid_tested, laid_rest}

pub joined-append : (ls more : List Line) → joined (ls ++ more) ≡ joined ls ++ joined more
joined-append [] more = refl
joined-append (l ∷ ls) more = rw (joined-append ls more) (sym (append_assoc (l.body ++ l.ending) (joined ls) (joined more)))

module _ {text : List ℕ} (l : Layout text) where
  text_is : joined l.front ++ joined (record_lines text) ≡ text
  text_is =
      ap (λ x. joined l.front ++ joined x) (laid_record l) ∙ sym (joined-append l.front _) ∙ ap joined (sym l.are) ∙ joined-lines text

  pub laid_header_at : header_at text ≡ length (joined l.front) + 1
  unfolding header_at
  laid_header_at = rw (laid_tested l) (omega (arith, simp length-append at (ap length text_is)))

  pub laid_header_in : take (length l.header) (drop (length (joined l.front) + 1) text) ≡ l.header
  laid_header_in =
      let n : ℕ = length l.header in
      let more : List ℕ = joined (l.lines ++ l.remains) in
      ap (λ x. take n (drop (length (joined l.front) + 1) x)) (sym text_is)
      ∙ ap (take n) (drop-append-add (joined l.front) (joined (record_lines text)) 1 ∙ ap (λ x. drop 1 (joined x)) (laid_record l))
      ∙ ap (take n) (append_assoc l.header l.ending more) ∙ take-append_seam l.header (l.ending ++ more)

  -- the text before what remains
  abbrev before : List ℕ
  before = joined l.front ++ joined (line (mark ∷ l.header) l.ending ∷ l.lines)

  laid_text : before ++ rest_of text ≡ text
  laid_text =
      let own : List Line = line (mark ∷ l.header) l.ending ∷ l.lines in
      append_assoc (joined l.front) (joined own) (rest_of text)
      ∙ ap (λ x. joined l.front ++ x) (ap (λ x. joined own ++ x) (laid_rest l) ∙ sym (joined-append own l.remains) ∙ ap joined (sym (laid_record l))) ∙ text_is

  pub laid_fewer : length (rest_of text) < length text
  laid_fewer = omega (arith, simp length-append at (ap length laid_text))

  pub laid_some : 0 < length text
  laid_some = omega (arith, laid_fewer)

  pub laid_end : rest_of text ≡ drop (length text - length (rest_of text)) text
  laid_end =
      let at : ℕ = length text - length (rest_of text) in
      let n : length before ≡ at = omega (arith, length-append before (rest_of text), ap length laid_text) in
      sym (drop_at before (rest_of text) at n) ∙ ap (drop at) laid_text

  pub laid_rest_at : rest_at text ≡ length text - length (rest_of text)
  unfolding rest_at
  laid_rest_at = rw (laid_tested l)
