-- `start_table::resolve` meets its contract. The invariant: the entries so far are the starts that the block gives.
use Rattle.words.specs.Suffixes.Block.{Block}
use Rattle.words.specs.Starts.Tick.{Started}
use Rattle.ring.proofs.start_table.resolve.Given as goal

abbrev pub invariant-loop-l : goal.invariant-loop-l
invariant-loop-l l = Block l.w l.m l.p l.l × Started l.w l.initial.t l.t l.m l.l
