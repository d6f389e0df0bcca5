-- `ring::duels::duel` meets its contract.
use Rattle.std.proofs.Common.{sym}
use Rattle.ring.proofs.Exactly.{taken_permitted}
use Rattle.ring.proofs.duels.duel.Goals as goal

pub fight_all-requires : goal.fight_all-requires
fight_all-requires c =
    let f = taken_permitted _ _ _ (sym c.in_ok-judge.ensures.value) in (f.0.some, f.0.within)
