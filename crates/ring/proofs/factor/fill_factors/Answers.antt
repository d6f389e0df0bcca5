-- `ring::factor::fill_factors` meets its contract. The invariant is `Routing`.
use Rattle.std.proofs.Common.{refl, arith, rules}
use Rattle.words.proofs.Factors.Run.{best_below}
use Rattle.ring.proofs.Routing.{routing_none, routing_left, routing_best, routing_next, routing_end}
use Rattle.ring.proofs.factor.fill_factors.Goals as goal

pub loop-whole-init : goal.loop-whole-init
loop-whole-init c = rw c.none_read-behind.ensures (routing_none _ _)

pub best_of-best-requires : goal.best_of-best-requires
best_of-best-requires c =
    let k = c.loop-whole.invariant in
    rw c.given-whole.ensures.value (omega (arith, routing_left _ _ _ _ _ _ _ _ _ _ k), best_below _ _ _ c.requires.0 k.lowest)

pub loop-whole-preserved : goal.loop-whole-preserved
loop-whole-preserved c =
    let k = c.loop-whole.invariant in
    let f = rw c.given.ensures.value at c.first_factor-f.ensures in
    let q = rw c.given-whole.ensures.value at c.best_of-best.ensures in
    let b = rw (← q) at (routing_best _ _ _ _ _ _ _ _ _ _ k _ _ _ f (search rules)) in
    routing_next _ _ _ _ _ _ _ _ _ _ k _ _ _ f _ _ _ refl (search rules) (search rules) c.behind-behind.ensures b

pub returns-clause-value : goal.returns-clause-value
returns-clause-value c =
    let e = routing_end _ _ _ _ _ _ _ _ _ _ c.loop-whole.invariant (search rules) (search rules) in (e.0, e.1)

pub returns-clause-table_after : goal.returns-clause-table_after
returns-clause-table_after c =
    let e = routing_end _ _ _ _ _ _ _ _ _ _ c.loop-whole.invariant (search rules) (search rules) in e.2
