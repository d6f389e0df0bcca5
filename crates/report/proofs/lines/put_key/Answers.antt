-- Two numbers stand in front, and the key is copied behind them, by `Printed`.
use Rattle.std.proofs.Common.{[], ◌∷◌, Ok, length, ap, sym, arith}
use Rattle.std.proofs.Math.ListN.{replicate}
use Rattle.words.specs.Keys.Strand.{strand, key_start, key}
use Rattle.ring.proofs.Laid.{Laid}
use Rattle.report.specs.Decimal.{row}
use Rattle.report.specs.Report.{longest}
use Rattle.report.proofs.Told.{not_short, marks_told, told_table}
use Rattle.report.proofs.Printed.{key_start_small, key-length, key-line}
use Rattle.report.proofs.lines.put_key.Goals as goal

pub returns-in_err-marks : goal.returns-in_err-marks
returns-in_err-marks c =
    let p = c.requires.0 in
    absurd (not_short _ p longest p.within _ (ap (λ a. a.number) c.in_err-marks.ensures.value))

pub overflow_cast-numbers : goal.overflow_cast-numbers
overflow_cast-numbers c =
    let p = c.requires.0 in
    omega (arith, (marks_told _ p longest p.within _ c.in_ok-marks.ensures.value).1, key_start_small _ p)

pub returns : goal.returns
returns c =
    let w = c.args.ring.now in
    let p = c.requires.0 in
    let o = c.args.room.now in
    let m = marks_told w p longest p.within _ c.in_ok-marks.ensures.value in
    let v = rw (c.from-2.ensures, c.from.ensures, m.1, m.2) at c.put_row-at.ensures.value in
    let a = rw (c.from-2.ensures, c.from.ensures, m.1, m.2) at c.put_row-at.ensures.room_after in
    let l : Laid (row 32 (strand 1 w ∷ key_start 1 w ∷ [])) o c.put_row-at.new.room = record { is = a; fits = rw (← v.0) (omega (arith, v.1)) } in
    let k = told_table w p (replicate longest 0) _ p.within (key 1 w) (length w) (sym (key-length w p)) c.write_letters.ensures.room_after in
    let q = rw (m.0, k) at c.copy_from_slice.ensures.after in
    let e = key-line w p o _ _ l v.0 v.1 c.requires.1 in
    record { value = (ap Ok (rw m.0 e.0), e.1); room_after = rw (m.0, q) e.2 }
