-- `ring::start_table::starts` meets its contract.
use Rattle.std.proofs.Common.{sym}
use Rattle.ring.proofs.Exactly.{taken_permitted}
use Rattle.std.proofs.lemmas.Bool.{ltb-false}
use Rattle.ring.proofs.start_table.starts.Goals as goal

pub fill_starts-requires : goal.fill_starts-requires
fill_starts-requires c =
    let f = taken_permitted _ _ _ (sym c.in_ok-judge.ensures.value) in (f.0.some, f.0.within, ltb-false _ _ f.1)
