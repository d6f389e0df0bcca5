-- `start_table::resolve` meets its contract. The invariant: the entries so far are the starts that the block gives.
use Rattle.std.proofs.Common.{◌<◌, length, arith, rules}
use Rattle.words.proofs.Suffixes.Fill.{block_first, block_greater, block_equal}
use Rattle.words.proofs.Starts.StartFill.{started_first, started_new, started_yes, started_no, started_tick}
use Rattle.ring.specs.Judging.{most}
use Rattle.ring.proofs.start_table.resolve.Goals.{then-w-l, else-w-l+then-t-l-lt-TICK, else-w-l+else-t-l-lt-TICK}
use Rattle.ring.proofs.start_table.resolve.Goals as goal

pub loop-l-init : goal.loop-l-init
loop-l-init c =
    let b = c.requires.2.ticking.block in
    let h : c.args.m < length c.args.w.now = omega (arith, b.order, b.some, b.inside) in
    (block_first _ _ b.head h, started_first _ c.args.t.now _ b.head h (omega arith))

pub loop-l-preserved : goal.loop-l-preserved
loop-l-preserved c =
    let i = c.loop-l.invariant in
    let a = c.requires.2 in
    let b = i.0 in
    let f = i.1 in
    let x : c.args.m < c.loop-l.l = omega (arith, b.order, b.some) in
    let y : c.loop-l.l < length c.args.w.now = omega (arith, a.ticking.block.inside) in
    let u = a.ticking.up _ _ x c.loop-l-test.true b in
    let k = started_tick most _ _ _ _ _ _ a f x c.loop-l-test.true in
    let e : c.loop-l.l < length c.loop-l.t = search rules in
    elim c.if-w-l.branch [
      | then-w-l w ↦ let d = block_greater _ _ _ _ b y w.if-w-l.true in rw (w.p-is, w.start-is) (d, started_new _ _ _ _ _ f (omega arith) e d)
      | else-w-l+then-t-l-lt-TICK w ↦ let d = block_equal _ _ _ _ b y (omega arith) in rw (w.p-is, w.start-is) (d, started_no _ _ _ _ _ f (omega arith) e most _ _ b d k w.if-t-l-lt-TICK.true)
      | else-w-l+else-t-l-lt-TICK w ↦ let d = block_equal _ _ _ _ b y (omega arith) in rw (w.p-is, w.start-is) (d, started_yes _ _ _ _ _ f (omega arith) e most _ _ b d k w.if-t-l-lt-TICK.false)
    ]
