-- `ring::factor::factors` meets its contract.
use Rattle.std.proofs.Common.{sym, ◌∙◌}
use Rattle.words.proofs.Factors.Route.{route_is}
use borrow.Author.Tests.{ltb-false}
use Rattle.ring.proofs.Replies.{factored_done}
use Rattle.ring.proofs.Exactly.{taken_permitted}
use Rattle.ring.proofs.factor.factors.Goals as goal

pub fill_factors-requires : goal.fill_factors-requires
fill_factors-requires c =
    let f = taken_permitted _ _ _ (sym c.in_ok-judge.ensures.value) in (f.0.some, f.0.within, ltb-false _ _ f.1)

pub returns-clause-value : goal.returns-clause-value
returns-clause-value c =
    let e = sym c.in_ok-judge.ensures.value in
    let d = c.fill_factors.ensures.value in
    factored_done _ _ e _ _ d.0 (d.1 ∙ sym (route_is _ (taken_permitted _ _ _ e).0.some))
