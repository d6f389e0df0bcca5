-- `ring::marking::mark` meets its contract.
use Rattle.std.proofs.Common.{sym}
use Rattle.ring.proofs.Exactly.{taken_permitted}
use Rattle.ring.proofs.marking.mark.Goals as goal

pub marks_of-requires : goal.marks_of-requires
marks_of-requires c = (taken_permitted _ _ _ (sym c.in_ok-kind.ensures.value)).0.some
