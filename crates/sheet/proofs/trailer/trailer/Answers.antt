-- The trailer's own number, then what the ring rules say of its letters, by `Judged`.
use Rattle.std.proofs.lemmas.Result.{err_from_is_err_and}
use Rattle.sheet.proofs.Judged.{found_refused, key_refused, kind_no_reason, key_found}
use Rattle.sheet.proofs.trailer.trailer.Goals as goal

pub returns-in_err-p : goal.returns-in_err-p
returns-in_err-p c = let e = err_from_is_err_and c.from_residual.result c.from_residual.ensures.1 in rw (e.1, e.2) (found_refused c.args.bytes.now _ c.in_err-p.ensures.form)

pub returns-in_err-marks : goal.returns-in_err-marks
returns-in_err-marks c =
    let p = c.in_ok-p.ensures in
    let e = err_from_is_err_and c.from_residual-in_err-marks.result c.from_residual-in_err-marks.ensures.1 in rw (e.1, e.2) (key_refused c.args.bytes.now p.form _ p.points.0 _ c.letters.ensures _ c.in_err-marks.ensures)

pub returns-in_err-kind : goal.returns-in_err-kind
returns-in_err-kind c =
    let p = c.in_ok-p.ensures in
    kind_no_reason c.args.bytes.now p.form _ p.points.0 _ c.letters.ensures _ c.in_err-kind.ensures

pub returns : goal.returns
returns c =
    let p = c.in_ok-p.ensures in
    key_found c.args.bytes.now p.form _ p.points.0 _ c.letters.ensures _ c.in_ok-marks.ensures _ c.in_ok-kind.ensures
