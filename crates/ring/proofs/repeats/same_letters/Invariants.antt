-- `ring::repeats::same_letters` meets its contract: the letters agree up to k.
use Rattle.words.specs.Duels.Paired.{Paired}
use Rattle.ring.proofs.repeats.same_letters.Given as goal

abbrev pub invariant-loop-k : goal.invariant-loop-k
invariant-loop-k l = Paired l.ring l.ring l.from l.at l.k
