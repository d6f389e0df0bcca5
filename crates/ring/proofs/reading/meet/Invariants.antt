-- `ring::reading::meet` meets its contract: the letters agree up to k.
use Rattle.words.specs.Duels.Paired.{Paired}
use Rattle.ring.proofs.reading.meet.Given as goal

abbrev pub invariant-loop-k : goal.invariant-loop-k
invariant-loop-k l = Paired l.u l.v l.i l.j l.k
