-- `ring::key_test::left_to` meets its contract.
use Rattle.std.proofs.Common.{refl, arith}
use Rattle.ring.proofs.MarkLaws.{left_other, left_own}
use Rattle.ring.proofs.key_test.left_to.Goals as goal

pub start_of-b-requires : goal.start_of-b-requires
start_of-b-requires c = omega arith

pub lower-requires : goal.lower-requires
lower-requires c = (c.start_of-b.ensures.inside, omega arith, omega arith)

pub lower-requires-in-Opposite : goal.lower-requires-in-Opposite
lower-requires-in-Opposite c = (omega arith, omega arith, omega arith)

pub returns-in-Given : goal.returns-in-Given
returns-in-Given c =
    rw c.in-Given.is (left_own _ _ 0 (rw c.opposite-other.ensures.value at c.start_of-b.ensures.value) _ (omega arith)
    (rw (c.opposite-other.ensures.value, c.given-own.ensures.value) at c.lower.ensures))

pub returns-in-Opposite : goal.returns-in-Opposite
returns-in-Opposite c =
    rw c.in-Opposite.is (left_other _ _ 1 (rw c.opposite-other.ensures.value at c.start_of-b.ensures.value) _ refl
    (rw (c.opposite-other.ensures.value, c.given-own.ensures.value) at c.lower-in-Opposite.ensures))
