-- `matches::match_lengths` meets its contract. The invariant is the box of `Rattle.words.proofs.Repeats.Match`.
use Rattle.words.proofs.Repeats.Match.{Box}
use Rattle.ring.proofs.matches.match_lengths.Given as goal

abbrev pub invariant-loop-k : goal.invariant-loop-k
invariant-loop-k l = Box l.w l.initial.t l.t l.k l.l l.r
