-- Each answer of `fasta::reader::read_letters` by the letters' verdict, and what is lent to `put`, by `Replies`.
-- Assumes nothing.
use Rattle.std.proofs.lemmas.List.{take_rest}
use Rattle.fasta.proofs.Replies.{says_one, says_two, says_three, says_four, says_done, room_fits}
use Rattle.fasta.proofs.reader.read_letters.Goals as goal

pub returns-then-n-eq0 : goal.returns-then-n-eq0
returns-then-n-eq0 c =
    let counts = rw take_rest at c.count-counted.ensures.letters in
    let a = says_one _ _ _ c.requires _ _ _ counts c.args.room.now c.if-n-eq0.true in
    record { value = rw c.refused.ensures a.0; room_after = a.1 }

pub returns-then-n-gt-MOST : goal.returns-then-n-gt-MOST
returns-then-n-gt-MOST c =
    let counts = rw take_rest at c.count-counted.ensures.letters in
    let a = says_two _ _ _ c.requires _ _ _ counts c.args.room.now c.if-n-eq0.false c.if-n-gt-MOST.true in
    record { value = rw c.refused-then-n-gt-MOST.ensures a.0; room_after = a.1 }

pub returns-in-Some : goal.returns-in-Some
returns-in-Some c =
    let counts = rw take_rest at c.count-counted.ensures.letters in
    let a = says_three _ _ _ c.requires _ _ _ counts c.args.room.now c.if-n-eq0.false c.if-n-gt-MOST.false _ c.in-Some.is in
    record { value = rw c.refused-in-Some.ensures a.0; room_after = a.1 }

pub returns-then-room-n : goal.returns-then-room-n
returns-then-room-n c =
    let counts = rw take_rest at c.count-counted.ensures.letters in
    let a = says_four _ _ _ c.requires _ _ _ counts c.args.room.now c.if-n-eq0.false c.if-n-gt-MOST.false c.in_default.is c.if-room-n.true in
    record { value = rw c.refused-then-room-n.ensures a.0; room_after = a.1 }

pub put-requires : goal.put-requires
put-requires c =
    let counts = rw take_rest at c.count-counted.ensures.letters in
    let ended = rw take_rest at c.count-counted.ensures.bases_end.same in
    rw (take_rest, ended) (room_fits _ _ _ c.requires _ _ _ counts c.args.room.now c.if-n-eq0.false c.if-n-gt-MOST.false c.in_default.is c.if-room-n.false)

pub returns : goal.returns
returns c =
    let counts = rw take_rest at c.count-counted.ensures.letters in
    let ended = rw take_rest at c.count-counted.ensures.bases_end.same in
    let a = says_done _ _ _ c.requires _ _ _ counts c.args.room.now c.if-n-eq0.false c.if-n-gt-MOST.false c.in_default.is c.if-room-n.false _ (rw (take_rest, ended) at c.put.ensures) in
    record { value = rw c.part.ensures a.0; room_after = a.1 }
