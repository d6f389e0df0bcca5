-- `ring::reading::lower` meets its contract: the first differing pair decides.
use Rattle.std.proofs.Common.{arith}
use Rattle.words.proofs.Duels.Paired.{before_at, before_same}
use Rattle.ring.proofs.reading.lower.Goals as goal

pub returns-then-k-len : goal.returns-then-k-len
returns-then-k-len c =
    let r = c.args in before_same r.u.now r.v.now r.i r.j _ c.requires.2 (omega arith) (omega arith) c.meet-k.ensures.0 (omega arith)

pub returns : goal.returns
returns c =
    let r = c.args in
    before_at r.u.now r.v.now r.i r.j _ c.requires.2 (omega arith) (omega arith) c.meet-k.ensures.0 (omega arith) _ _ c.around.ensures c.around-2.ensures
