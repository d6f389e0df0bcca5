-- `ring::reading::put_reading` meets its contract: the letters from `at` on, and behind them those before it.
use Rattle.std.proofs.Common.{take, drop, arith, length-take, length-drop}
use Rattle.words.specs.Rings.Ring.{reading}
use Rattle.ring.proofs.Laid.{over_two}
use Rattle.ring.proofs.reading.put_reading.Goals as goal

pub returns : goal.returns
unfolding reading
returns c =
    let r = c.args in
    let w = r.side.now in
    let a = length-drop r.at w in
    let b = length-take r.at w in
    over_two (drop r.at w) (take r.at w) _ _ _ _ (omega arith) (omega arith) (rw c.back.ensures at c.copy.ensures) (rw c.front.ensures at c.copy-2.ensures)
