-- An answer told in 01's numbers: "The answer carries the number, the place .. and nothing else: other fields are 0" where a call declines.
-- Assumes nothing.
use Rattle.std.specs.Prelude.{false, ℕ, Result, Ok, Err, Bool}
use Rattle.ring.specs.Verdict.{Verdict, Taken, Kind, Empty, Long, Letter, Short, NotKey}
use Rattle.ring.specs.declared.refusals.Refusal.{Refusal}
use Rattle.ring.specs.declared.refusals.Refusal.TheVariants.{NoLetters, TooManyLetters, WrongLetter, NoRoom, UnknownKind, NoKey}
use Rattle.ring.specs.declared.refusals.NotCompared.{NotCompared}
use Rattle.ring.specs.declared.refusals.NotCompared.TheVariants.{First, Second}
use Rattle.ring.specs.declared.outcome.Factors.{Factors}
use Rattle.ring.specs.declared.outcome.Duels.{Duels}
use Rattle.ring.specs.declared.outcome.Marks.{Marks}
use Rattle.ring.specs.declared.answer.Checked.{Checked}
use Rattle.ring.specs.declared.answer.Factored.{Factored}
use Rattle.ring.specs.declared.answer.Fought.{Fought}
use Rattle.ring.specs.declared.answer.Repeated.{Repeated}
use Rattle.ring.specs.declared.answer.Marked.{Marked}
use Rattle.ring.specs.declared.answer.Compared.{Compared}
use Rattle.ring.specs.Judging.{number_of, place_of}
use Rattle.ring.specs.Answers.{done_with, refusal_of}
use Rattle.ring.specs.Numbered.{strand_number}

-- what a refusal says of a ring
abbrev pub verdict_of : Refusal → Verdict
verdict_of NoLetters = Empty
verdict_of TooManyLetters = Long
verdict_of (WrongLetter i) = Letter i
verdict_of NoRoom = Short
verdict_of UnknownKind = Kind
verdict_of NoKey = NotKey

-- what is said of a ring by whatever is answered: "0 means done" (01)
abbrev pub said : {A : Type 0} → Result A Refusal → Verdict
said (Ok a) = Taken
said (Err e) = verdict_of e

abbrev pub told_check : {A : Type 0} → Result A Refusal → Checked
told_check r = record { number = number_of (said r); place = place_of (said r) }

abbrev pub told_factors : Result Factors Refusal → Factored
told_factors (Ok f) = record { number = 0; place = 0; count = f.count; start = f.start }
told_factors (Err e) = record { number = number_of (verdict_of e); place = place_of (verdict_of e); count = 0; start = 0 }

abbrev pub told_duels : Result Duels Refusal → Fought
told_duels (Ok d) = record { number = 0; place = 0; start = d.start; pairs = d.pairs }
told_duels (Err e) = record { number = number_of (verdict_of e); place = place_of (verdict_of e); start = 0; pairs = 0 }

abbrev pub told_repeat : Result ℕ Refusal → Repeated
told_repeat (Ok p) = record { number = 0; place = 0; repeat = p }
told_repeat (Err e) = record { number = number_of (verdict_of e); place = place_of (verdict_of e); repeat = 0 }

-- the key's marks
abbrev pub told_marks : Result Marks Refusal → Marked
told_marks (Ok m) = done_with m.n m.start (strand_number m.strand)
told_marks (Err e) = refusal_of (number_of (verdict_of e)) (place_of (verdict_of e))

-- "in the comparison which ring (1 the first, 2 the second, 0 when done)", "a refused comparison holds no" (01)
abbrev pub told_compare : Result Bool NotCompared → Compared
told_compare (Ok same) = record { number = 0; place = 0; ring = 0; same = same }
told_compare (Err (First e)) = record { number = number_of (verdict_of e); place = place_of (verdict_of e); ring = 1; same = false }
told_compare (Err (Second e)) = record { number = number_of (verdict_of e); place = place_of (verdict_of e); ring = 2; same = false }
