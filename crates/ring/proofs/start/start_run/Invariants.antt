-- `ring::start::start_run` meets its contract: `start` is the lowest of the runs' heads before m, the first of them if several are equal;
-- `found` is the run there.
use Rattle.std.proofs.Common.{◌≡◌, ◌≤◌, ◌-◌, length}
use Rattle.words.proofs.Factors.Run.{Best, BestRun}
use Rattle.ring.proofs.start.start_run.Given as goal

abbrev pub invariant-loop-m : goal.invariant-loop-m
invariant-loop-m l = (l.n ≡ length l.side) × (l.m ≤ l.n) × Best l.side l.m l.start × BestRun l.side l.m l.start l.found.size l.found.end

abbrev pub decreases-loop-m : goal.decreases-loop-m
decreases-loop-m l = l.n - l.m
