-- `ring::marking::Strands::read` meets its contract.
use Rattle.std.proofs.Common.{true, false, refl, sym, ◌∙◌, arith}
use Rattle.ring.specs.declared.strand.Strand.TheVariants.{Given, Opposite}
use Rattle.ring.proofs.MarkLaws.{strands_by}
use Rattle.ring.proofs.marking.Strands.read.Goals as goal

pub start_of-other-requires : goal.start_of-other-requires
start_of-other-requires c = omega arith

pub lower-requires : goal.lower-requires
lower-requires c = (c.start_of-other.ensures.inside, c.start_of-own.ensures.inside, omega arith)

pub returns-then-lower : goal.returns-then-lower
returns-then-lower c =
    let a = rw c.given-given.ensures.value at c.start_of-own.ensures.value in
    let b = rw c.opposite-opposite.ensures.value at c.start_of-other.ensures.value in
    let e = rw (c.opposite-opposite.ensures.value, c.given-given.ensures.value) at c.lower.ensures in
    record { value = strands_by _ _ _ a b true Opposite (sym c.if-lower.true ∙ e) refl; inside = (omega arith, omega arith) }

pub returns-else-lower : goal.returns-else-lower
returns-else-lower c =
    let a = rw c.given-given.ensures.value at c.start_of-own.ensures.value in
    let b = rw c.opposite-opposite.ensures.value at c.start_of-other.ensures.value in
    let e = rw (c.opposite-opposite.ensures.value, c.given-given.ensures.value) at c.lower.ensures in
    record { value = strands_by _ _ _ a b false Given (sym c.if-lower.false ∙ e) refl; inside = (omega arith, omega arith) }
