-- `ring::marking::write_letters` meets its contract: the key is the reading at its start, on its strand.
use Rattle.std.proofs.Common.{sym, ◌∙◌, arith}
use Rattle.words.specs.Keys.Strand.{key}
use Rattle.ring.proofs.Exactly.{taken_permitted}
use Rattle.ring.proofs.MarkLaws.{marked_key, room_done}
use borrow.Author.Tests.{ltb-false}
use Rattle.ring.proofs.marking.write_letters.Goals as goal

pub marks_of-marks-requires : goal.marks_of-marks-requires
marks_of-marks-requires c = (taken_permitted _ _ _ (sym c.in_ok-kind.ensures.value)).0.some

pub put_reading-requires : goal.put_reading-requires
put_reading-requires c =
    let t = ltb-false _ _ (taken_permitted _ _ _ (sym c.in_ok-kind.ensures.value)).1 in (omega arith, omega arith)

pub returns-clause-room_after : goal.returns-clause-room_after
returns-clause-room_after c =
    let r = c.args in
    let k = rw c.in_ok-kind.ensures.kind at c.marks_of-marks.ensures.value in
    c.put_reading.ensures ∙ rw (c.new.ensures.value, marked_key r.kind r.ring.now _ k) (room_done _ (sym c.in_ok-kind.ensures.value) (key r.kind r.ring.now) r.room.now)
