-- `suffix::fill_suffixes` meets its contract. The invariant: m is a head, and the entries before it are right.
use Rattle.std.proofs.Common.{◌-◌}
use Rattle.words.proofs.Suffixes.Block.{Head}
use Rattle.words.proofs.Suffixes.Fill.{Filled}
use Rattle.ring.proofs.suffix.fill_suffixes.Given as goal

abbrev pub invariant-loop-m : goal.invariant-loop-m
invariant-loop-m l = Head l.ring l.m × Filled l.ring l.initial.table l.table l.m

abbrev pub decreases-loop-m : goal.decreases-loop-m
decreases-loop-m l = l.n - l.m
