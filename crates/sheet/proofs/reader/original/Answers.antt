-- The trailer's own number, then what the ring rules say and write, by `Judged`.
use Rattle.std.proofs.lemmas.Result.{err_from_is_err_and}
use Rattle.sheet.proofs.Judged.{original_refused, original_declined, original_done, original_room_lem}
use Rattle.sheet.proofs.reader.original.Goals as goal

pub returns-in_err-p-clause-value : goal.returns-in_err-p-clause-value
returns-in_err-p-clause-value c = let e = err_from_is_err_and c.from_residual.result c.from_residual.ensures.1 in rw (e.1, e.2) (original_refused c.args.bytes.now c.args.room.now _ c.in_err-p.ensures.form).0

pub returns-in_err-p-clause-room_after : goal.returns-in_err-p-clause-room_after
returns-in_err-p-clause-room_after c = (original_refused c.args.bytes.now c.args.room.now _ c.in_err-p.ensures.form).1

pub returns-in_err-write_deposit-clause-value : goal.returns-in_err-write_deposit-clause-value
returns-in_err-write_deposit-clause-value c =
    let p = c.in_ok-p.ensures in
    let e = err_from_is_err_and c.from_residual-in_err-write_deposit.result c.from_residual-in_err-write_deposit.ensures.1 in rw (e.1, e.2)
    (original_declined c.args.bytes.now p.form _ p.points.0 _ c.letters.ensures c.args.room.now _ c.in_err-write_deposit.ensures.value)

pub returns-in_err-write_deposit-clause-room_after : goal.returns-in_err-write_deposit-clause-room_after
returns-in_err-write_deposit-clause-room_after c =
    let p = c.in_ok-p.ensures in
    original_room_lem c.args.bytes.now p.form _ p.points.0 _ c.letters.ensures c.args.room.now _ c.in_err-write_deposit.ensures.room_after

pub returns-clause-value : goal.returns-clause-value
returns-clause-value c =
    let p = c.in_ok-p.ensures in
    original_done c.args.bytes.now p.form _ p.points.0 _ c.letters.ensures c.args.room.now _ c.in_ok-write_deposit.ensures.value

pub returns-clause-room_after : goal.returns-clause-room_after
returns-clause-room_after c =
    let p = c.in_ok-p.ensures in
    original_room_lem c.args.bytes.now p.form _ p.points.0 _ c.letters.ensures c.args.room.now _ c.in_ok-write_deposit.ensures.room_after
