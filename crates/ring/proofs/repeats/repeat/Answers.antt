-- `ring::repeats::repeat` meets its contract.
use Rattle.std.proofs.Common.{sym, arith}
use Rattle.ring.proofs.Exactly.{taken_permitted}
use Rattle.ring.proofs.repeats.repeat.Goals as goal

pub start_run-requires : goal.start_run-requires
start_run-requires c = omega (arith, (taken_permitted _ _ _ (sym c.in_ok-judge.ensures.value)).0.some)
