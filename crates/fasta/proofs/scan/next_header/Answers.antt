-- `fasta::scan::next_header` at a byte that is a mark behind a line's end, at any other, and where there is none.
-- Assumes nothing.
use Rattle.std.proofs.Common.{rules}
use Rattle.fasta.proofs.Scanning.{ahead_found, ahead_on, ahead_all, turned, unmarked, unturned}
use Rattle.fasta.proofs.scan.next_header.Goals as goal
use Rattle.fasta.proofs.scan.next_header.Goals.{else-text-i-eq62-via-then-text-i-eq62+else-text-i-eq10, else-text-i-eq62-via-else-text-i-eq62}

pub returns-then-text-i-eq10 : goal.returns-then-text-i-eq10
returns-then-text-i-eq10 c = ahead_found _ _ _ c.loop-i.invariant c.loop-i-test.true (turned _ _ c.loop-i-test.true c.if-text-i-eq62.true c.if-text-i-eq10.true)

pub loop-i-preserved : goal.loop-i-preserved
loop-i-preserved c =
    elim c.else-text-i-eq62.branch [
      | else-text-i-eq62-via-then-text-i-eq62+else-text-i-eq10 w ↦
          ahead_on _ _ _ c.loop-i.invariant c.loop-i-test.true (unturned _ _ c.loop-i-test.true w.if-text-i-eq10.false)
      | else-text-i-eq62-via-else-text-i-eq62 w ↦
          ahead_on _ _ _ c.loop-i.invariant c.loop-i-test.true (unmarked _ _ c.loop-i-test.true w.if-text-i-eq62.false)
    ]

pub returns : goal.returns
returns c = ahead_all _ _ _ c.loop-i.invariant (search rules)
