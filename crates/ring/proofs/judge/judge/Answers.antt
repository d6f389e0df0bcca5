-- `ring::judge::judge` meets its contract: each return is the rule whose test led there.
use Rattle.std.proofs.Common.{◌≡◌, sym, ◌∙◌, arith, length}
use borrow.Author.Tests.{true-eqb, false-eqb}
use Rattle.std.proofs.lemmas.Result.{err_from_is_err_and}
use Rattle.ring.specs.Judging.{first_bad}
use Rattle.ring.proofs.Judging.{says_kind, says_empty, says_long, says_letter, says_short, says_taken}
use Rattle.ring.proofs.KindLaws.{kind_is, kind_known, kind_none}
use Rattle.ring.proofs.judge.judge.Goals as goal

pub returns-in_err-kind-clause-value : goal.returns-in_err-kind-clause-value
returns-in_err-kind-clause-value c =
    let p = err_from_is_err_and c.from_residual.result c.from_residual.ensures.1 in
    let n = kind_none _ _ (sym c.try_from.ensures ∙ c.in_err-kind.was) in
    rw (p.1, p.2, n.0) (sym (says_kind _ _ _ n.1))

pub returns-then-is_empty-clause-value : goal.returns-then-is_empty-clause-value
returns-then-is_empty-clause-value c =
    sym (says_empty _ _ _ (kind_known _ _ (sym c.try_from.ensures ∙ c.in_ok-kind.was)) (true-eqb _ _ c.if-is_empty.ensures))

pub returns-then-ring-gt-MOST-clause-value : goal.returns-then-ring-gt-MOST-clause-value
returns-then-ring-gt-MOST-clause-value c =
    sym (says_long _ _ _ (kind_known _ _ (sym c.try_from.ensures ∙ c.in_ok-kind.was)) (false-eqb _ _ c.if-is_empty.ensures) c.if-ring-gt-MOST.true)

pub returns-in-Some-clause-value : goal.returns-in-Some-clause-value
returns-in-Some-clause-value c =
    let e = sym c.try_from.ensures ∙ c.in_ok-kind.was in
    let b = rw (kind_is c.args.kind _ e) at c.in-Some.ensures in
    sym (says_letter _ _ _ (kind_known _ _ e) (false-eqb _ _ c.if-is_empty.ensures) c.if-ring-gt-MOST.false _ (sym b.0) b.1)

pub returns-then-short-clause-value : goal.returns-then-short-clause-value
returns-then-short-clause-value c =
    let e = sym c.try_from.ensures ∙ c.in_ok-kind.was in
    let b : first_bad c.args.kind c.args.ring.now ≡ length c.args.ring.now = rw (kind_is c.args.kind _ e) at c.in_default.ensures in
    sym (says_short _ _ _ (kind_known _ _ e) (false-eqb _ _ c.if-is_empty.ensures) c.if-ring-gt-MOST.false (omega arith) c.if-short.true)

pub returns-clause-value : goal.returns-clause-value
returns-clause-value c =
    let e = sym c.try_from.ensures ∙ c.in_ok-kind.was in
    let b : first_bad c.args.kind c.args.ring.now ≡ length c.args.ring.now = rw (kind_is c.args.kind _ e) at c.in_default.ensures in
    sym (says_taken _ _ _ (kind_known _ _ e) (false-eqb _ _ c.if-is_empty.ensures) c.if-ring-gt-MOST.false (omega arith) c.if-short.false)
