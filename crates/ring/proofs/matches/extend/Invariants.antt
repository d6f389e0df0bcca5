-- `matches::extend` meets its contract. The invariant: z letters match.
use Rattle.words.specs.Repeats.Match.{Match}
use Rattle.ring.proofs.matches.extend.Given as goal

abbrev pub invariant-loop-z : goal.invariant-loop-z
invariant-loop-z l = Match l.w l.k l.z
