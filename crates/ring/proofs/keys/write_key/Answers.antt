-- `ring::keys::write_key` meets its contract.
use Rattle.std.proofs.Common.{sym, ◌∙◌, arith}
use Rattle.ring.proofs.Keyed.{keyed_is, key_permitted, first_fits, second_fits, keyed_plain, keyed_stranded}
use Rattle.ring.proofs.keys.write_key.Goals as goal

pub read-s-requires : goal.read-s-requires
read-s-requires c =
    let t = sym (keyed_is _ _ _ _ _ _ c.short_rooms-short.ensures c.in_ok-kind.ensures.value) in (key_permitted _ _ _ _ t).some

pub put_reading-requires : goal.put_reading-requires
put_reading-requires c =
    let t = sym (keyed_is _ _ _ _ _ _ c.short_rooms-short.ensures c.in_ok-kind.ensures.value) in
    let f = first_fits _ _ _ _ t in (omega arith, omega arith)

pub put_reading-requires-then-has_opposite : goal.put_reading-requires-then-has_opposite
put_reading-requires-then-has_opposite c =
    let t = sym (keyed_is _ _ _ _ _ _ c.short_rooms-short.ensures c.in_ok-kind.ensures.value) in
    let k = rw c.in_ok-kind.ensures.kind at (sym c.has_opposite.ensures ∙ c.if-has_opposite.true) in
    let f = second_fits _ _ _ _ t k in (omega arith, omega arith)

pub returns-then-has_opposite : goal.returns-then-has_opposite
returns-then-has_opposite c =
    let r = c.args in
    let t = sym (keyed_is r.kind r.ring.now _ _ _ _ c.short_rooms-short.ensures c.in_ok-kind.ensures.value) in
    let k = rw c.in_ok-kind.ensures.kind at (sym c.has_opposite.ensures ∙ c.if-has_opposite.true) in
    let d = keyed_stranded r.kind r.ring.now r.first.now r.second.now t k _ _ _ _ c.read-s.ensures.value c.marks.ensures
    (rw c.given.ensures.value at c.put_reading.ensures) (rw c.opposite.ensures.value at c.put_reading-then-has_opposite.ensures) in
    record { value = d.answer; first_after = d.front; second_after = d.back }

pub marks_of-marks-requires : goal.marks_of-marks-requires
marks_of-marks-requires c =
    let t = sym (keyed_is _ _ _ _ _ _ c.short_rooms-short.ensures c.in_ok-kind.ensures.value) in (key_permitted _ _ _ _ t).some

pub put_reading-requires-2 : goal.put_reading-requires-2
put_reading-requires-2 c =
    let t = sym (keyed_is _ _ _ _ _ _ c.short_rooms-short.ensures c.in_ok-kind.ensures.value) in
    let f = first_fits _ _ _ _ t in (omega arith, omega arith)

pub returns : goal.returns
returns c =
    let r = c.args in
    let t = sym (keyed_is r.kind r.ring.now _ _ _ _ c.short_rooms-short.ensures c.in_ok-kind.ensures.value) in
    let k = rw c.in_ok-kind.ensures.kind at (sym c.has_opposite.ensures ∙ c.if-has_opposite.false) in
    let d = keyed_plain r.kind r.ring.now r.first.now r.second.now t k _ _ (rw c.in_ok-kind.ensures.kind at c.marks_of-marks.ensures.value) (rw c.given-2.ensures.value at c.put_reading-2.ensures) in
    record { value = d.answer; first_after = d.front; second_after = d.back }
