-- `walk` ends: what remains has fewer bytes each time.
use Rattle.std.proofs.Common.{length}
use Rattle.fasta_cases.proofs.walk.walk.Given as goal

abbrev pub decreases-loop-left : goal.decreases-loop-left
decreases-loop-left l = length l.left
