-- The loop of `fasta::scan::find_header` keeps that what is sought is the header from i on.
-- Assumes nothing.
use Rattle.fasta.specs.Scan.{header_in, header_from}
use Rattle.fasta.proofs.Scanning.{Seeking}
use Rattle.fasta.proofs.scan.find_header.Given as goal

abbrev pub invariant-loop-i : goal.invariant-loop-i
invariant-loop-i l = Seeking header_in l.text (header_from l.text) l.i
