-- `ring::side::Side::copy` meets its contract: the first i letters are written.
use Rattle.std.proofs.Common.{arith}
use Rattle.ring.proofs.Laid.{partly_none, partly_one, partly_all}
use Rattle.ring.proofs.side.Side.copy.Goals as goal

pub loop-i-init : goal.loop-i-init
loop-i-init c = partly_none _ _ c.requires

pub loop-i-preserved : goal.loop-i-preserved
loop-i-preserved c = partly_one _ _ _ _ _ c.loop-i.invariant (omega arith) c.letter.ensures

pub returns : goal.returns
returns c = partly_all _ _ _ _ c.loop-i.invariant (omega arith)
