-- The loop of `fasta::letters::count` keeps the letters passed: how many, the first that is no base, and where the last base ends.
-- Assumes nothing.
use Rattle.fasta.specs.Scan.{BasesEnd}
use Rattle.fasta.proofs.Counting.{Counting}
use Rattle.fasta.proofs.letters.count.Given as goal

abbrev pub invariant-loop-i : goal.invariant-loop-i
invariant-loop-i l = Counting l.lines l.i l.n l.other × BasesEnd l.lines l.i l.end
