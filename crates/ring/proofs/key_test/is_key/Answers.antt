-- `ring::key_test::is_key` meets its contract: each return is the test that led there.
use Rattle.std.proofs.Common.{sym, ◌∙◌}
use Rattle.ring.proofs.KindLaws.{strand_two}
use Rattle.ring.proofs.KeyTests.{test_more, test_late, test_plain, test_left}
use Rattle.ring.proofs.key_test.is_key.Goals as goal

pub returns-then-run-letters : goal.returns-then-run-letters
returns-then-run-letters c = test_more _ _ _ _ c.requires _ _ (rw c.given.ensures.value at c.first_run-run.ensures) c.if-run-letters.true

pub returns-then-run-start : goal.returns-then-run-start
returns-then-run-start c = test_late _ _ _ _ c.requires _ _ (rw c.given.ensures.value at c.first_run-run.ensures) c.if-run-letters.false c.if-run-start.true

pub returns-then-has_opposite : goal.returns-then-has_opposite
returns-then-has_opposite c =
    let k = sym c.has_opposite.ensures ∙ c.if-has_opposite.true in
    test_left _ _ _ _ c.requires _ _ (rw c.given.ensures.value at c.first_run-run.ensures) c.if-run-letters.false c.if-run-start.false k (strand_two c.args.strand) _ c.left_to.ensures

pub returns-in-Given : goal.returns-in-Given
returns-in-Given c =
    let k = sym c.has_opposite.ensures ∙ c.if-has_opposite.false in
    rw c.in-Given.is (test_plain _ _ _ 0 c.requires _ _ (rw c.given.ensures.value at c.first_run-run.ensures) c.if-run-letters.false c.if-run-start.false k)

pub returns-in-Opposite : goal.returns-in-Opposite
returns-in-Opposite c =
    let k = sym c.has_opposite.ensures ∙ c.if-has_opposite.false in
    rw c.in-Opposite.is (test_plain _ _ _ 1 c.requires _ _ (rw c.given.ensures.value at c.first_run-run.ensures) c.if-run-letters.false c.if-run-start.false k)
