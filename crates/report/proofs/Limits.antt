-- The limit of the rings and the report's own: every permitted base ring is printed, and the five lines fit the room.
-- Assumes nothing.
use mathlib.Core.Path.{◌≡◌, sym, ap}
use mathlib.Core.Bool.{false}
use mathlib.Core.List.{List}
use Prim.Native.Nat.{ℕ, ◌+◌, ◌*◌, ◌≤◌}
use native.Mathlib.Omega.{arith}
use Rattle.ring.specs.Judging.{most, Permitted}
use Rattle.std.proofs.Common.{Ok}
use Rattle.ring.specs.Answers.{checked_of}
use Rattle.ring.specs.Told.{told_check}
use Rattle.ring.proofs.Verdicts.{number_permitted}
use Rattle.report.specs.Decimal.{row_room}
use Rattle.report.specs.Report.{longest, Printable, table_room, key_room, roomy}

pub most_printed : most ≤ longest
most_printed = omega arith

pub printable : (w : List ℕ) → Permitted 1 w → Printable w
printable w p = record { permitted = p; within = omega (arith, p.within, most_printed) }

-- a ring that is not refused is printed
pub printed : (w : List ℕ) (u : Unit {0}) → told_check (Ok u) ≡ checked_of 1 w → Printable w
printed w u e = printable w (number_permitted 1 w false (sym (ap (λ a. a.number) e)))

-- five numbers, three tables and the key
pub lines_fit : row_room 5 + 3 * table_room + key_room ≤ roomy
lines_fit = omega arith
