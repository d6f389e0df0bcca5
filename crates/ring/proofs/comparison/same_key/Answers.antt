-- `ring::comparison::same_key` meets its contract.
use Rattle.std.proofs.Common.{refl, sym, ◌∙◌, arith}
use Rattle.words.specs.Rings.Ring.{lowest}
use Rattle.ring.proofs.ComparedLemmas.{same_length, same_own, same_plain, same_other, read_same, read_differ}
use Rattle.ring.proofs.comparison.same_key.Goals as goal

pub returns-then-first-second : goal.returns-then-first-second
returns-then-first-second c = same_length _ _ _ c.requires.0 c.requires.1 c.if-first-second.true

pub same_reading-requires : goal.same_reading-requires
same_reading-requires c = (c.start_of.ensures.inside, c.start_of-b.ensures.inside, omega arith)

pub returns-then-same_reading : goal.returns-then-same_reading
returns-then-same_reading c =
    let a = rw c.given-one.ensures.value at c.start_of.ensures.value in
    let b = rw c.given-two.ensures.value at c.start_of-b.ensures.value in
    let e = rw (c.given-one.ensures.value, c.given-two.ensures.value) at c.same_reading.ensures in
    same_own _ _ _ c.requires.0 c.requires.1 (read_same _ _ _ _ a b (sym e ∙ c.if-same_reading.true))

pub start_of-requires-then-has_opposite : goal.start_of-requires-then-has_opposite
start_of-requires-then-has_opposite c = omega arith

pub same_reading-requires-then-has_opposite : goal.same_reading-requires-then-has_opposite
same_reading-requires-then-has_opposite c = (c.start_of-then-has_opposite.ensures.inside, c.start_of-b.ensures.inside, omega arith)

pub returns-then-has_opposite : goal.returns-then-has_opposite
unfolding lowest
returns-then-has_opposite c =
    let a = rw c.given-one.ensures.value at c.start_of.ensures.value in
    let b = rw c.given-two.ensures.value at c.start_of-b.ensures.value in
    let e = rw (c.given-one.ensures.value, c.given-two.ensures.value) at c.same_reading.ensures in
    let n = read_differ _ _ _ _ a b (sym e ∙ c.if-same_reading.false) in
    let o = rw c.opposite-other.ensures.value at c.start_of-then-has_opposite.ensures.value in
    same_other _ _ _ c.requires.0 c.requires.1 n (sym c.has_opposite.ensures ∙ c.if-has_opposite.true) _
    (c.same_reading-then-has_opposite.ensures ∙ rw (c.opposite-other.ensures.value, c.given-two.ensures.value, o, b) refl)

pub returns : goal.returns
returns c =
    let a = rw c.given-one.ensures.value at c.start_of.ensures.value in
    let b = rw c.given-two.ensures.value at c.start_of-b.ensures.value in
    let e = rw (c.given-one.ensures.value, c.given-two.ensures.value) at c.same_reading.ensures in
    let n = read_differ _ _ _ _ a b (sym e ∙ c.if-same_reading.false) in
    same_plain _ _ _ c.requires.0 c.requires.1 n (sym c.has_opposite.ensures ∙ c.if-has_opposite.false)
