-- What `fill` has put into the room fits there.
use Rattle.std.proofs.Common.{◌≤◌, length}
use Rattle.ringline.proofs.fill.Given as goal

abbrev pub invariant-loop : goal.invariant-loop
invariant-loop g l = l.n ≤ length l.room
