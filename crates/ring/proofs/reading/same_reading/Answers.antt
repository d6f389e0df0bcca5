-- `ring::reading::same_reading` meets its contract.
use Rattle.std.proofs.Common.{arith}
use Rattle.ring.proofs.Equal.{equal_met}
use Rattle.ring.proofs.reading.same_reading.Goals as goal

pub returns : goal.returns
returns c =
    let r = c.args in rw c.len.ensures.value (equal_met r.u.now r.v.now r.i r.j _ c.requires.2 (omega arith) (omega arith) c.meet.ensures.0)
