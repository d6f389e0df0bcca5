-- `start_table::fill_starts` meets its contract. The invariant: the blocks from c on are filled, and the heads before c flagged.
use Rattle.std.proofs.Common.{rules}
use Rattle.words.proofs.Repeats.Match.{kept_on}
use Rattle.words.proofs.Starts.StartFill.{done_on}
use Rattle.words.proofs.Starts.StartTable.{turned_head, turned_all}
use Rattle.ring.specs.Judging.{most}
use Rattle.ring.proofs.start_table.fill_starts.Goals as goal

pub tick-end-requires-clause-head : goal.tick-end-requires-clause-head
tick-end-requires-clause-head c =
    let i = c.loop-c.invariant in
    let a = turned_head most _ _ _ _ i c.loop-c-test.true (search rules) c.if-t-c-ge-HEAD.true in (a.head, a.fresh)

pub loop-c-preserved-then-t-c-ge-HEAD : goal.loop-c-preserved-then-t-c-ge-HEAD
loop-c-preserved-then-t-c-ge-HEAD c =
    let i = c.loop-c.invariant in
    let a = turned_head most _ _ _ _ i c.loop-c-test.true (search rules) c.if-t-c-ge-HEAD.true in
    a.step _ _ (done_on _ _ _ _ _ _ c.tick-end.ensures.1 c.resolve.ensures)

pub returns : goal.returns
returns c =
    turned_all most _ _ _ _ _ c.loop-c.invariant c.loop-c-test.false (kept_on _ _ _ _ c.match_lengths.ensures.1 c.flag_heads.ensures.1) (search rules)
