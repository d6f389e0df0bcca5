-- No call declines, and the five numbers are small and are those of the line.
use Rattle.std.proofs.Common.{◌≡◌, Ok, length, ap, arith}
use Rattle.report.specs.Report.{head_line}
use Rattle.report.proofs.Told.{not_refused, duels_told, repeat_told, start_small, repeat_small, pairs_small}
use Rattle.report.proofs.lines.put_head.Goals as goal

pub returns-in_err-duels : goal.returns-in_err-duels
returns-in_err-duels c = absurd (not_refused _ c.requires.0 _ (ap (λ a. a.number) c.in_err-duels.ensures))

pub returns-in_err-repeat : goal.returns-in_err-repeat
returns-in_err-repeat c = absurd (not_refused _ c.requires.0 _ (ap (λ a. a.number) c.in_err-repeat.ensures))

pub overflow_cast-numbers-2 : goal.overflow_cast-numbers-2
overflow_cast-numbers-2 c = let p = c.requires.0 in omega (arith, (duels_told _ p _ c.in_ok-duels.ensures).0, start_small _ p)

pub overflow_cast-numbers-3 : goal.overflow_cast-numbers-3
overflow_cast-numbers-3 c = let p = c.requires.0 in omega (arith, repeat_told _ p _ c.in_ok-repeat.ensures, repeat_small _ p)

pub overflow_cast-numbers-4 : goal.overflow_cast-numbers-4
overflow_cast-numbers-4 c = let p = c.requires.0 in omega (arith, (duels_told _ p _ c.in_ok-duels.ensures).1, pairs_small _ p)

pub returns : goal.returns
unfolding head_line
returns c =
    let w = c.args.ring.now in
    let d = duels_told w c.requires.0 _ c.in_ok-duels.ensures in
    let r = repeat_told w c.requires.0 _ c.in_ok-repeat.ensures in
    let v : c.put_row.result ≡ length (head_line w) = rw (← d.0, ← d.1, ← r) c.put_row.ensures.value.0 in
    record {
      value = (ap Ok v, omega arith);
      room_after = rw (← d.0, ← d.1, ← r) c.put_row.ensures.room_after;
    }
