-- `ring::judge::first_bad` meets its contract.
use Rattle.ring.specs.Numbered.{kind_number}
use Rattle.ring.proofs.Judging.{Passed}
use Rattle.ring.proofs.judge.first_bad.Given as goal

abbrev pub invariant-loop-i : goal.invariant-loop-i
invariant-loop-i l = Passed (kind_number l.kind) l.ring l.i
