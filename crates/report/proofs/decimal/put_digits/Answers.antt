-- One digit more is written, in front of those written.
use Rattle.std.proofs.Common.{arith}
use Rattle.report.proofs.Digits.{backward_one}
use Rattle.report.proofs.decimal.put_digits.Goals as goal

pub loop-i-preserved : goal.loop-i-preserved
loop-i-preserved c = backward_one _ _ _ _ _ c.loop-i.invariant _ (omega arith)
