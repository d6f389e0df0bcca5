-- The loop of `fasta::scan::line_end` keeps that no byte before i is LF, so that the line ends no sooner than at the byte before i.
-- Assumes nothing.
use Rattle.fasta.specs.Scan.{end_in}
use Rattle.fasta.proofs.LineEnds.{Unended}
use Rattle.fasta.proofs.scan.line_end.Given as goal

abbrev pub invariant-loop-i : goal.invariant-loop-i
invariant-loop-i l = Unended l.line (end_in l.line) l.i
