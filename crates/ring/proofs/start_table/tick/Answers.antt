-- `start_table::tick` meets its contract. The invariant: the entries so far are ticked.
use Rattle.std.proofs.Common.{arith, rules}
use Rattle.words.proofs.Suffixes.Fill.{block_greater, block_equal}
use Rattle.words.proofs.Starts.StartTick.{outside_none, outside_more, ticking_first, ticking_more, judged_new}
use Rattle.ring.specs.Judging.{most}
use Rattle.ring.proofs.start_table.tick.Goals.{then-w-l-2, else-w-l-2}
use Rattle.ring.proofs.start_table.tick.Goals as goal

pub loop-l-init : goal.loop-l-init
loop-l-init c =
    let m = c.requires.in_ring in
    (ticking_first most _ _ _ c.requires.head.0 m.0 (omega arith) c.requires.head.1, outside_none _ _ _)

pub tick_for-a-requires-clause-ticking : goal.tick_for-a-requires-clause-ticking
tick_for-a-requires-clause-ticking c =
    let i = c.loop-l.invariant in (i.0, block_equal _ _ _ _ i.0.block c.loop-l-test.true (omega arith))

pub loop-l-preserved : goal.loop-l-preserved
loop-l-preserved c =
    let i = c.loop-l.invariant in
    let g = i.0 in
    let h = c.loop-l-test.true in (
      elim c.if-w-l-2.branch [
        | then-w-l-2 w ↦ let b = block_greater _ _ _ _ g.block h w.if-w-l-2.true in rw (w.p-is, w.a-is) (ticking_more most _ _ _ _ _ g h (search rules) (omega arith) _ b _ (judged_new most _ _ _ _ _ g h b))
        | else-w-l-2 w ↦ rw (w.p-is, w.a-is) (ticking_more most _ _ _ _ _ g h (search rules) (omega arith) _ (block_equal _ _ _ _ g.block h (omega arith)) _ w.tick_for-a.ensures)
      ],
      outside_more _ _ _ _ _ i.1 (omega arith),
    )
