-- `ring::suffix::suffixes` meets its contract.
use Rattle.std.proofs.Common.{sym}
use Rattle.ring.proofs.Exactly.{taken_permitted}
use Rattle.std.proofs.lemmas.Bool.{ltb-false}
use Rattle.ring.proofs.suffix.suffixes.Goals as goal

pub fill_suffixes-requires : goal.fill_suffixes-requires
fill_suffixes-requires c =
    let f = taken_permitted _ _ _ (sym c.in_ok-judge.ensures.value) in (ltb-false _ _ f.1, f.0.within)
