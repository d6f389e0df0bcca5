-- `ring::key_test::judge_key` meets its contract: each return is the rule whose test led there.
use Rattle.std.proofs.Common.{sym, ◌∙◌, ap}
use Rattle.std.proofs.lemmas.Result.{err_from_is_err_and}
use Rattle.ring.specs.Judging.{taken}
use Rattle.ring.proofs.Exactly.{taken_permitted}
use Rattle.ring.proofs.AsKey.{key_refused, key_not, key_short, key-taken}
use Rattle.ring.proofs.KeyTests.{test_none}
use Rattle.ring.proofs.KindLaws.{strand_is, strand_none}
use Rattle.ring.proofs.ToldLaws.{refused}
use Rattle.ring.proofs.key_test.judge_key.Goals as goal

pub returns-in_err-kind-clause-value : goal.returns-in_err-kind-clause-value
returns-in_err-kind-clause-value c =
    let p = err_from_is_err_and c.from_residual.result c.from_residual.ensures.1 in
    let v = c.in_err-kind.ensures.value in
    rw (p.1, p.2) (v ∙ sym (key_refused _ _ _ _ _ (ap taken (sym v) ∙ refused _)))

pub returns-in_err-strand-clause-value : goal.returns-in_err-strand-clause-value
returns-in_err-strand-clause-value c =
    let p = err_from_is_err_and c.from_residual-in_err-strand.result c.from_residual-in_err-strand.ensures.1 in
    let n = strand_none _ _ (sym c.try_from.ensures ∙ c.in_err-strand.was) in
    rw (p.1, p.2, n.0) (sym (key_not _ _ _ _ _ (taken_permitted _ _ _ (sym c.in_ok-kind.ensures.value)).0 (test_none _ _ _ _ n.1)))

pub is_key-requires : goal.is_key-requires
is_key-requires c = rw c.in_ok-kind.ensures.kind (taken_permitted _ _ _ (sym c.in_ok-kind.ensures.value)).0

pub returns-then-not-is_key-clause-value : goal.returns-then-not-is_key-clause-value
returns-then-not-is_key-clause-value c =
    let t = strand_is _ _ (sym c.try_from.ensures ∙ c.in_ok-strand.was) in
    let k = rw (c.in_ok-kind.ensures.kind, t) at (sym c.is_key.ensures ∙ c.if-not-is_key.true) in
    sym (key_not _ _ _ _ _ (taken_permitted _ _ _ (sym c.in_ok-kind.ensures.value)).0 k)

pub returns-then-short-clause-value : goal.returns-then-short-clause-value
returns-then-short-clause-value c =
    let t = strand_is _ _ (sym c.try_from.ensures ∙ c.in_ok-strand.was) in
    let k = rw (c.in_ok-kind.ensures.kind, t) at (sym c.is_key.ensures ∙ c.if-not-is_key.false) in
    sym (key_short _ _ _ _ _ (taken_permitted _ _ _ (sym c.in_ok-kind.ensures.value)).0 k c.if-short.true)

pub returns-clause-value : goal.returns-clause-value
returns-clause-value c =
    let t = strand_is _ _ (sym c.try_from.ensures ∙ c.in_ok-strand.was) in
    let k = rw (c.in_ok-kind.ensures.kind, t) at (sym c.is_key.ensures ∙ c.if-not-is_key.false) in
    sym (key-taken _ _ _ _ _ (taken_permitted _ _ _ (sym c.in_ok-kind.ensures.value)).0 k c.if-short.false)

pub returns-clause-strand : goal.returns-clause-strand
returns-clause-strand c = strand_is _ _ (sym c.try_from.ensures ∙ c.in_ok-strand.was)
