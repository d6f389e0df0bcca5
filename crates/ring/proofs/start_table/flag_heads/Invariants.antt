-- `start_table::flag_heads` meets its contract. The invariant: the heads so far are flagged.
use Rattle.std.proofs.Common.{◌-◌, length}
use Rattle.words.proofs.Starts.StartTable.{Flagging}
use Rattle.ring.specs.Judging.{most}
use Rattle.ring.proofs.start_table.flag_heads.Given as goal

abbrev pub invariant-loop-m : goal.invariant-loop-m
invariant-loop-m l = Flagging most l.w l.initial.t l.t l.m

abbrev pub decreases-loop-m : goal.decreases-loop-m
decreases-loop-m l = length l.w - l.m
