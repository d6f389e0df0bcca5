-- One number more is written, and the byte behind it.
use Rattle.std.proofs.Common.{arith}
use Rattle.report.proofs.Rows.{Between, last, inner, rowed_one}
use Rattle.report.proofs.decimal.put_row.Goals as goal
use Rattle.report.proofs.decimal.put_row.Goals.{then-i-numbers, else-i-numbers}

pub loop-i-preserved : goal.loop-i-preserved
loop-i-preserved c =
    let b : Between c.args.numbers.now c.args.end c.loop-i.i c.if-i-numbers.room =
    elim c.if-i-numbers.branch [ then-i-numbers w ↦ rw w.room-is (last (omega arith)) | else-i-numbers w ↦ rw w.room-is (inner (omega arith)) ] in
    rowed_one _ _ _ _ _ _ c.loop-i.invariant c.loop-i-test.true _ _ c.put_number.ensures.value.0 c.put_number.ensures.value.1
    (omega arith) c.put_number.ensures.room_after _ b
