-- The loop of `fasta::scan::next_header` keeps that what is sought is what remains from the byte before i on.
-- Assumes nothing.
use Rattle.fasta.specs.Scan.{rest_in}
use Rattle.fasta.proofs.Scanning.{Ahead}
use Rattle.fasta.proofs.scan.next_header.Given as goal

abbrev pub invariant-loop-i : goal.invariant-loop-i
invariant-loop-i l = Ahead l.text (rest_in l.text) l.i
