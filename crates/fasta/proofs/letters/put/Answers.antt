-- What the loop of `fasta::letters::put` keeps behind each byte, by `Putting`.
-- Assumes nothing.
use Rattle.std.proofs.Common.{arith}
use Rattle.fasta.proofs.Putting.{put_fits, put_base, put_on}
use Rattle.fasta.proofs.letters.put.Goals as goal
use Rattle.fasta.proofs.letters.put.Goals.{in-Some, in_default}

pub bounds-room-k : goal.bounds-room-k
bounds-room-k c =
    let f = put_fits _ _ _ _ _ c.loop-b.invariant c.loop-b-test.true c.requires _ c.in-Some.ensures.0 c.in-Some.ensures.1 in omega arith

pub loop-b-preserved : goal.loop-b-preserved
loop-b-preserved c =
    elim c.match-look_up.branch [
      | in-Some w ↦
          rw (w.k-is, w.room-is) (put_base _ _ _ _ _ c.loop-b.invariant c.loop-b-test.true c.requires _ w.in-Some.ensures.0 w.in-Some.ensures.1)
      | in_default w ↦ rw (w.k-is, w.room-is) (put_on _ _ _ _ _ c.loop-b.invariant c.loop-b-test.true (omega (arith, w.in_default.ensures)))
    ]
