-- `ring::keys::key` meets its contract: a part of the room that the strand names.
use Rattle.std.proofs.Common.{ap, arith}
use Rattle.ring.specs.Numbered.{strand_number}
use Rattle.ring.proofs.KeyPart.{first_part, second_part}
use Rattle.ring.proofs.keys.key.Goals as goal

pub slice_bounds-result-end-in-Given : goal.slice_bounds-result-end-in-Given
slice_bounds-result-end-in-Given c =
    let e = c.in-Ok.ensures in
    (first_part _ _ _ _ _ _ _ (record { answer = e.value; front = e.first_after; back = e.second_after }) (λ o. omega (arith, ap strand_number c.in-Given.is))).size

pub slice_bounds-result-end-in-Opposite : goal.slice_bounds-result-end-in-Opposite
slice_bounds-result-end-in-Opposite c =
    let e = c.in-Ok.ensures in
    (second_part _ _ _ _ _ _ _ (record { answer = e.value; front = e.first_after; back = e.second_after }) (ap strand_number c.in-Opposite.is)).size

pub returns-in-Given-clause-value : goal.returns-in-Given-clause-value
returns-in-Given-clause-value c =
    let e = c.in-Ok.ensures in
    (first_part _ _ _ _ _ _ _ (record { answer = e.value; front = e.first_after; back = e.second_after }) (λ o. omega (arith, ap strand_number c.in-Given.is))).is

pub returns-in-Opposite-clause-value : goal.returns-in-Opposite-clause-value
returns-in-Opposite-clause-value c =
    let e = c.in-Ok.ensures in
    (second_part _ _ _ _ _ _ _ (record { answer = e.value; front = e.first_after; back = e.second_after }) (ap strand_number c.in-Opposite.is)).is
