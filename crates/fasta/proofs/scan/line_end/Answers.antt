-- `fasta::scan::line_end` at a byte that is no LF, at the first LF with a CR before it and with none, and where there is no LF.
-- Assumes nothing.
use Rattle.std.proofs.Common.{rules, arith}
use Rattle.fasta.proofs.LineEnds.{unended_on, unended_all, ended_cr, ended_lf}
use Rattle.fasta.proofs.scan.line_end.Goals as goal
use Rattle.fasta.proofs.scan.line_end.Goals.{else-i-gt0-via-then-i-gt0+else-line-i-eq13, else-i-gt0-via-else-i-gt0}

pub returns-then-line-i-eq13 : goal.returns-then-line-i-eq13
returns-then-line-i-eq13 c = ended_cr _ _ _ c.loop-i.invariant c.loop-i-test.true c.if-b-eq10.true c.if-i-gt0.true c.if-line-i-eq13.true

pub returns-then-b-eq10 : goal.returns-then-b-eq10
returns-then-b-eq10 c =
    ended_lf _ _ _ c.loop-i.invariant c.loop-i-test.true c.if-b-eq10.true
    (elim c.else-i-gt0.branch [
      | else-i-gt0-via-then-i-gt0+else-line-i-eq13 w ↦ λ o. w.if-line-i-eq13.false
      | else-i-gt0-via-else-i-gt0 w ↦ λ o. absurd (omega arith)
    ])

pub loop-i-preserved : goal.loop-i-preserved
loop-i-preserved c = unended_on _ _ _ c.loop-i.invariant c.loop-i-test.true c.if-b-eq10.false

pub returns : goal.returns
returns c = unended_all _ _ _ c.loop-i.invariant (search rules)
