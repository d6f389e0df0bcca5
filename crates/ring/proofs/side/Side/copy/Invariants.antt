-- `ring::side::Side::copy` meets its contract: the first i letters are written.
use Rattle.ring.proofs.Laid.{Partly}
use Rattle.ring.proofs.side.Side.copy.Given as goal

abbrev pub invariant-loop-i : goal.invariant-loop-i
invariant-loop-i l = Partly l.self l.initial.to l.to l.i
