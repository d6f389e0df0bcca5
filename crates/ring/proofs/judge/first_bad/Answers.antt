-- `ring::judge::first_bad` meets its contract.
use Rattle.std.proofs.Common.{refl, sym, ◌∙◌, arith}
use Rattle.ring.proofs.Judging.{passed_every, passed_none, passed_one, passed_stop, passed_all}
use Rattle.ring.proofs.judge.first_bad.Goals as goal

pub returns-in-Feature : goal.returns-in-Feature
returns-in-Feature c = rw c.in-Feature.is (passed_every 0 _ refl)

pub loop-i-init : goal.loop-i-init
loop-i-init c = passed_none _ _

pub returns-then-not-has_letter : goal.returns-then-not-has_letter
returns-then-not-has_letter c =
    (passed_stop _ _ _ c.loop-i.invariant c.loop-i-test.true (sym c.has_letter.ensures ∙ c.if-not-has_letter.true), c.loop-i-test.true)

pub loop-i-preserved : goal.loop-i-preserved
loop-i-preserved c = passed_one _ _ _ c.loop-i.invariant c.loop-i-test.true (sym c.has_letter.ensures ∙ c.if-not-has_letter.false)

pub returns : goal.returns
returns c = passed_all _ _ _ c.loop-i.invariant c.loop-i-test.false ∙ omega (arith, c.loop-i.invariant.within)
