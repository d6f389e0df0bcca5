-- `suffix::fill_block` meets its contract. The invariant: the entries so far are right, and the block has not ended.
use Rattle.std.proofs.Common.{◌≡◌, length}
use Rattle.words.proofs.Suffixes.Fill.{Block, Filled}
use Rattle.ring.proofs.suffix.fill_block.Given as goal

abbrev pub invariant-loop-l : goal.invariant-loop-l
invariant-loop-l l = Block l.ring l.m l.p l.l × Filled l.ring l.initial.table l.table l.l × (l.end ≡ length l.ring)
