-- The loop of `fasta::letters::put` keeps the bases of the bytes passed at the front of the room.
-- Assumes nothing.
use Rattle.fasta.proofs.Putting.{Putting}
use Rattle.fasta.proofs.letters.put.Given as goal

abbrev pub invariant-loop-b : goal.invariant-loop-b
invariant-loop-b l = Putting l.lines l.b-index l.k l.initial.room l.room
