-- The two strands of a ring whose kind has an opposite strand: their starts, the strand that holds the key, and the key's marks from these.
-- Assumes nothing.
use Rattle.std.specs.Prelude.{Bool, cond, not, List, ℕ, eqb}
use Rattle.words.specs.Order.Order.{before}
use Rattle.words.specs.Rings.Ring.{start, lowest}
use Rattle.words.specs.Keys.Strand.{opposite}
use Rattle.ring.specs.declared.answer.Marked.{Marked}
use Rattle.ring.specs.declared.marking.Strands.{Strands}
use Rattle.ring.specs.declared.strand.Strand.TheVariants.{Given, Opposite}
use Rattle.ring.specs.Numbered.{strand_number}
use Rattle.ring.specs.Answers.{done_with}

-- the start as given, the start of the opposite strand, and the opposite strand where its lowest reading is the lesser, else the ring as given
abbrev pub both_strands : List ℕ → Strands
both_strands w = record { own = start w; other = start (opposite w); strand = cond (before (lowest (opposite w)) (lowest w)) Opposite Given }

-- a ring done: the marks on the strand so named
abbrev pub marked_on : Strands → ℕ → Marked
marked_on s n = done_with n (cond (eqb (strand_number s.strand) 1) s.other s.own) (strand_number s.strand)

-- whether letters that are their own lowest reading are the key on strand s: on strand 1 they come before the opposite strand's lowest
-- reading, else that does not come before them
abbrev pub left_to : List ℕ → ℕ → Bool
left_to w s = cond (eqb s 1) (before w (lowest (opposite w))) (not (before (lowest (opposite w)) w))
