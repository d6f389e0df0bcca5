-- The invariant: i of the digits are left, and `rest` holds them.
use Rattle.std.proofs.Common.{length}
use Rattle.report.proofs.Digits.{Backward}
use Rattle.report.proofs.decimal.put_digits.Given as goal

abbrev pub invariant-loop-i : goal.invariant-loop-i
invariant-loop-i l = Backward l.room l.x (length l.initial.room) l.i l.rest
