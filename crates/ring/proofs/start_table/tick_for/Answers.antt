-- `start_table::tick_for` meets its contract: each way out is one of the tests of `Rattle.words.proofs.Starts.StartTick`.
use Rattle.std.proofs.Common.{◌+◌, ◌-◌, get_or, sym, arith, rules}
use Rattle.words.proofs.Starts.StartTick.{untick_le, judged_far, judged_far_not, judged_whole, judged_reach, judged_low, judged_high}
use Rattle.ring.specs.Judging.{most}
use Rattle.ring.proofs.start_table.tick_for.Goals as goal

pub returns-then-t-l-ge-TICK : goal.returns-then-t-l-ge-TICK
returns-then-t-l-ge-TICK c = judged_far most _ _ _ _ _ c.requires.ticking.0 c.requires.in_ring.0 c.requires.ticking.1 c.if-p-l.true c.if-t-l-ge-TICK.true

pub returns-then-p-l : goal.returns-then-p-l
returns-then-p-l c = judged_far_not most _ _ _ _ _ c.requires.ticking.0 c.requires.in_ring.0 c.requires.ticking.1 c.if-p-l.true c.if-t-l-ge-TICK.false

pub returns-then-p-l-2 : goal.returns-then-p-l-2
returns-then-p-l-2 c = judged_whole most _ _ _ _ _ c.requires.ticking.0 c.requires.in_ring.0 c.requires.ticking.1 c.if-p-l.false (sym c.if-p-l-2.true)

pub overflow_add-i-2 : goal.overflow_add-i-2
overflow_add-i-2 c =
    let i = c.args.l + 1 - c.args.p in
    let f = c.type_inv.t i in omega (arith, c.unticked-z.ensures, untick_le most (get_or c.args.t.now i 0))

pub returns-then-m-p : goal.returns-then-m-p
returns-then-m-p c = judged_reach most _ _ _ _ _ c.requires.ticking.0 c.requires.in_ring.0 c.requires.ticking.1 c.if-p-l.false _ c.unticked-z.ensures (search rules) c.if-m-p.true

pub returns-then-w-i : goal.returns-then-w-i
returns-then-w-i c =
    judged_low most _ _ _ _ _ c.requires.ticking.0 c.requires.in_ring.0 c.requires.ticking.1 c.if-p-l.false _ c.unticked-z.ensures (search rules) c.if-m-p.false c.if-w-i.true

pub returns : goal.returns
returns c =
    judged_high most _ _ _ _ _ c.requires.ticking.0 c.requires.in_ring.0 c.requires.ticking.1 c.if-p-l.false _ c.unticked-z.ensures (search rules) c.if-m-p.false c.if-w-i.false
