-- `start_table::tick` meets its contract. The invariant: the entries so far are ticked.
use Rattle.words.specs.Starts.Tick.{Outside, Ticking}
use Rattle.ring.specs.Judging.{most}
use Rattle.ring.proofs.start_table.tick.Given as goal

abbrev pub invariant-loop-l : goal.invariant-loop-l
invariant-loop-l l = Ticking most l.w l.t l.m l.p l.l × Outside l.initial.t l.t l.m l.l
