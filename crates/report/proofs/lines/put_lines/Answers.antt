-- A ring that is not refused is printed, and each line is written behind the ones before it, by `Printed`.
use Rattle.std.proofs.Common.{◌++◌, ◌≤◌, rules, arith}
use Rattle.report.specs.Report.{table_room, head_line, factor_line, suffix_line, start_line, key_line}
use Rattle.report.proofs.Limits.{printed}
use Rattle.report.proofs.Told.{alone}
use Rattle.report.proofs.Printed.{line_length, lined_first, lined_next, five}
use Rattle.report.proofs.lines.put_lines.Goals as goal

pub put_head-requires : goal.put_head-requires
put_head-requires c = (printed _ _ c.in_ok-check.ensures, omega arith)

pub put_factors-requires : goal.put_factors-requires
put_factors-requires c =
    let h : c.in_ok-at.at ≤ 30 = (line_length _ _ _ c.in_ok-at.ensures.value).1 in
    (printed _ _ c.in_ok-check.ensures, search rules)

pub put_suffixes-requires : goal.put_suffixes-requires
put_suffixes-requires c =
    let h : c.in_ok-at.at ≤ 30 = (line_length _ _ _ c.in_ok-at.ensures.value).1 in
    let f : c.in_ok-at-2.field-0 ≤ table_room = (line_length _ _ _ c.in_ok-at-2.ensures.value).1 in
    (printed _ _ c.in_ok-check.ensures, search rules)

pub put_starts-requires : goal.put_starts-requires
put_starts-requires c =
    let h : c.in_ok-at.at ≤ 30 = (line_length _ _ _ c.in_ok-at.ensures.value).1 in
    let f : c.in_ok-at-2.field-0 ≤ table_room = (line_length _ _ _ c.in_ok-at-2.ensures.value).1 in
    let s : c.in_ok-at-3.field-0 ≤ table_room = (line_length _ _ _ c.in_ok-at-3.ensures.value).1 in
    (printed _ _ c.in_ok-check.ensures, search rules)

pub put_key-requires : goal.put_key-requires
put_key-requires c =
    let h : c.in_ok-at.at ≤ 30 = (line_length _ _ _ c.in_ok-at.ensures.value).1 in
    let f : c.in_ok-at-2.field-0 ≤ table_room = (line_length _ _ _ c.in_ok-at-2.ensures.value).1 in
    let s : c.in_ok-at-3.field-0 ≤ table_room = (line_length _ _ _ c.in_ok-at-3.ensures.value).1 in
    let t : c.in_ok-at-4.field-0 ≤ table_room = (line_length _ _ _ c.in_ok-at-4.ensures.value).1 in
    (printed _ _ c.in_ok-check.ensures, search rules)

pub returns : goal.returns
returns c =
    let o = c.args.room.now in
    let w = c.args.ring.now in
    let h = line_length _ _ _ c.in_ok-at.ensures.value in
    let f = line_length _ _ _ c.in_ok-at-2.ensures.value in
    let s = line_length _ _ _ c.in_ok-at-3.ensures.value in
    let t = line_length _ _ _ c.in_ok-at-4.ensures.value in
    let k = line_length _ _ _ c.in_ok-at-5.ensures.value in
    let a = lined_first (head_line w) o _ _ h.0 (omega (arith, h.1)) c.put_head.ensures.room_after in
    let b = lined_next (head_line w) (factor_line w) o _ _ _ _ a f.0 (omega (arith, h.1, f.1)) c.put_factors.ensures.room_after in
    let d = lined_next (head_line w ++ factor_line w) (suffix_line w) o _ _ _ _ b s.0 (omega (arith, h.1, f.1, s.1)) c.put_suffixes.ensures.room_after in
    let e = lined_next ((head_line w ++ factor_line w) ++ suffix_line w) (start_line w) o _ _ _ _ d t.0 (omega (arith, h.1, f.1, s.1, t.1)) c.put_starts.ensures.room_after in
    let x = five w o _ _ (lined_next (((head_line w ++ factor_line w) ++ suffix_line w) ++ start_line w) (key_line w) o _ _ _ _ e k.0 (omega (arith, h.1, f.1, s.1, t.1, k.1)) c.put_key.ensures.room_after) in
    record { judged = c.in_ok-check.ensures; value = (x.0, omega (arith, h.1, f.1, s.1, t.1, k.1)); room_after = rw (alone w (printed _ _ c.in_ok-check.ensures)) x.1 }
