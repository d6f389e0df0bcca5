-- `start_table::unticked` meets its contract.
use Rattle.std.proofs.Common.{sym}
use Rattle.words.proofs.Starts.StartTick.{untick_high, untick_low}
use Rattle.ring.specs.Judging.{most}
use Rattle.ring.proofs.start_table.unticked.Goals as goal

pub returns-then-v-ge-TICK : goal.returns-then-v-ge-TICK
returns-then-v-ge-TICK c = sym (untick_high most _ c.if-v-ge-TICK.true)

pub returns-else-v-ge-TICK : goal.returns-else-v-ge-TICK
returns-else-v-ge-TICK c = sym (untick_low most _ c.if-v-ge-TICK.false)
