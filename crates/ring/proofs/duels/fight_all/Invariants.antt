-- `ring::duels::fight_all` meets its contract. The invariants are the laws of `Rattle.words.proofs.Duels.Duel`: a run of duels, and letters that agree.
use Rattle.std.proofs.Common.{◌≤◌, ◌+◌, ◌-◌}
use Rattle.words.specs.Duels.Paired.{Paired}
use Rattle.words.proofs.Duels.Duel.{Run}
use Rattle.ring.proofs.duels.fight_all.Given as goal

abbrev pub invariant-scan : goal.invariant-scan
invariant-scan l = (l.k ≤ l.n) × Paired l.side l.side l.at.p l.at.q l.k

abbrev pub decreases-scan : goal.decreases-scan
decreases-scan l = l.n - l.k

abbrev pub invariant-duels : goal.invariant-duels
invariant-duels l = Run l.side l.at.p l.at.q l.read

abbrev pub decreases-duels : goal.decreases-duels
decreases-duels l = l.n + l.n - (l.at.p + l.at.q)
