-- `ring::factor::first_factor` meets its contract. The invariant is the scan of `Rattle.words.proofs.Factors.Scan`.
use Rattle.words.specs.Factors.Scan.{Scan}
use Rattle.ring.proofs.factor.first_factor.Given as goal

abbrev pub invariant-loop-read : goal.invariant-loop-read
invariant-loop-read l = Scan l.side l.read l.back
