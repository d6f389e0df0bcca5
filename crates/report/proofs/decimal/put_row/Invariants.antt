-- The invariant: i numbers are written, in the first `at` bytes.
use Rattle.report.proofs.Rows.{Rowed}
use Rattle.report.proofs.decimal.put_row.Given as goal

abbrev pub invariant-loop-i : goal.invariant-loop-i
invariant-loop-i l = Rowed l.initial.room l.room l.numbers l.end l.at l.i
