-- `start_table::fill_starts` meets its contract. The invariant: the blocks from c on are filled, and the heads before c flagged.
use Rattle.words.proofs.Starts.StartTable.{Turned}
use Rattle.ring.specs.Judging.{most}
use Rattle.ring.proofs.start_table.fill_starts.Given as goal

abbrev pub invariant-loop-c : goal.invariant-loop-c
invariant-loop-c l = Turned most l.w l.initial.t l.t l.c
