-- `ring::duels::Pair::moved` meets its contract: each position is `forward` of its letters, and the smaller is called p.
use Rattle.std.proofs.Common.{arith}
use Rattle.std.proofs.Math.Nat.{min-eq_left, min-eq_right, max-eq_left, max-eq_right}
use borrow.Author.Tests.{ltb-true, ltb-false}
use lib.Dec.{ltb}
use Rattle.words.proofs.Order.Search.{by_test}
use Rattle.words.proofs.Duels.Beaten.{moved_same, moved_past, moved_short}
use Rattle.ring.proofs.duels.Pair.moved.Goals as goal

pub returns-then-x-y : goal.returns-then-x-y
returns-then-x-y c = moved_same _ _ _ _ _ _ _ c.forward-x.ensures.value c.forward-y.ensures.value c.if-x-y.true

pub returns-else-x-y : goal.returns-else-x-y
returns-else-x-y c =
    by_test (ltb c.forward-y.result c.forward-x.result)
    (λ t. let l = ltb-true _ _ t in
    rw (c.min.ensures, c.max.ensures, min-eq_right {n = c.forward-y.result} {m = c.forward-x.result} (omega arith), max-eq_left {n = c.forward-x.result} {m = c.forward-y.result} (omega arith))
    (moved_past _ _ _ _ _ _ _ c.forward-x.ensures.value c.forward-y.ensures.value l))
    (λ t. let l = ltb-false _ _ t in
    rw (c.min.ensures, c.max.ensures, min-eq_left {n = c.forward-x.result} {m = c.forward-y.result} l, max-eq_right {n = c.forward-x.result} {m = c.forward-y.result} l)
    (moved_short _ _ _ _ _ _ _ c.forward-x.ensures.value c.forward-y.ensures.value (omega arith)))
