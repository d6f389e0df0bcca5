-- `ring::factor::fill_factors` meets its contract. The invariant is `Routing`.
use Rattle.std.proofs.Common.{length}
use Rattle.ring.proofs.Routing.{Routing}
use Rattle.ring.proofs.factor.fill_factors.Given as goal

abbrev pub invariant-loop-whole : goal.invariant-loop-whole
invariant-loop-whole l = Routing l.ring l.initial.table l.table l.rest l.from l.count l.best l.behind.read l.behind.back l.behind.head

abbrev pub decreases-loop-whole : goal.decreases-loop-whole
decreases-loop-whole l = length l.rest
