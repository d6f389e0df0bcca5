-- `ring::factor::first_factor` meets its contract. The invariant is the scan of `Rattle.words.proofs.Factors.Scan`.
use Rattle.std.proofs.Common.{sym, arith}
use Rattle.words.proofs.Factors.Scan.{scan_greater, scan_equal}
use Rattle.ring.proofs.factor.first_factor.Goals.{in-Equal, in-Greater}
use Rattle.ring.proofs.factor.first_factor.Goals as goal

pub loop-read-preserved : goal.loop-read-preserved
loop-read-preserved c =
    let i = c.loop-read.invariant in
    elim c.match-compare.branch [
      | in-Equal w ↦ rw w.back-is (scan_equal _ _ _ i (omega arith) (sym w.in-Equal.ensures))
      | in-Greater w ↦ rw w.back-is (scan_greater _ _ _ i (omega arith) w.in-Greater.ensures)
    ]
