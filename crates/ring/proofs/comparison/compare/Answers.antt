-- `ring::comparison::compare` meets its contract.
use Rattle.std.proofs.Common.{sym, ◌∙◌, arith}
use Rattle.ring.proofs.Exactly.{taken_permitted}
use Rattle.ring.proofs.ToldLaws.{ok_said}
use Rattle.ring.proofs.comparison.compare.Goals as goal

pub same_key-requires : goal.same_key-requires
same_key-requires c =
    let a = sym c.judge.ensures.value ∙ ok_said c.judge.result _ _ c.in_ok-known.ensures.cases (λ e q. q) in
    let b = sym c.judge-2.ensures.value ∙ ok_said c.judge-2.result _ _ c.in_ok-map_err.ensures.cases (λ e q. q) in
    let p = (taken_permitted _ _ _ a).0.some in
    let q = (taken_permitted _ _ _ b).0.some in (omega (arith, p, q), omega (arith, p, q))
