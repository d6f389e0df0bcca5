-- The invariant: the walk of the book is the walk of what is left, with the sheets found behind it. The measure is what is left.
use Rattle.std.proofs.Common.{length}
use Rattle.sheet.proofs.Walking.{Walking}
use Rattle.sheet.proofs.book.walk.Given as goal

abbrev pub invariant-loop-rest : goal.invariant-loop-rest
invariant-loop-rest l = Walking l.book l.rest l.sheets

abbrev pub decreases-loop-rest : goal.decreases-loop-rest
decreases-loop-rest l = length l.rest
