-- An answer on sheets and books told in 01's numbers: "Whenever an answer is an enum, a definition gives this paper's number and values for
-- each of the enum's cases" (01).
-- Assumes nothing.
use Rattle.std.specs.Prelude.{ℕ, Result, Ok, Err}
use Rattle.ring.specs.declared.answer.Checked.{Checked}
use Rattle.ring.specs.declared.refusals.Refusal as ringed
use Rattle.ring.specs.declared.refusals.Refusal.TheVariants as in-ring
use Rattle.ring.specs.Answers.{done_with}
use Rattle.ring.specs.Numbered.{kind_number, strand_number}
use Rattle.sheet.specs.declared.answer.Entry.{Entry}
use Rattle.sheet.specs.declared.answer.Walked.{Walked}
use Rattle.sheet.specs.declared.outcome.Sheet as done
use Rattle.sheet.specs.declared.refusals.Refusal.{Refusal}
use Rattle.sheet.specs.declared.refusals.Refusal.TheVariants.{NoLetters, TooManyLetters, WrongLetter, NoRoom, Torn, WrongMarks, NotMade}
use Rattle.sheet.specs.Found.{Found, Sheet, Refused}
use Rattle.sheet.specs.Reader.{entry_as}

-- the number in 01's table
abbrev pub number_told : Refusal → ℕ
number_told NoLetters = 1
number_told TooManyLetters = 2
number_told (WrongLetter i) = 3
number_told NoRoom = 4
number_told Torn = 5
number_told WrongMarks = 6
number_told NotMade = 7

-- the place: the first position of a letter that is none, 0 unless the number is 3 (01)
abbrev pub place_told : Refusal → ℕ
place_told NoLetters = 0
place_told TooManyLetters = 0
place_told (WrongLetter i) = i
place_told NoRoom = 0
place_told Torn = 0
place_told WrongMarks = 0
place_told NotMade = 0

-- a refusal by the ring rules, of a sheet; "6 means a kind above 2, and the rest of 6 as before" (02)
abbrev pub of_ring : ringed.Refusal → Refusal
of_ring in-ring.NoLetters = NoLetters
of_ring in-ring.TooManyLetters = TooManyLetters
of_ring (in-ring.WrongLetter i) = WrongLetter i
of_ring in-ring.NoRoom = NoRoom
of_ring in-ring.UnknownKind = WrongMarks
of_ring in-ring.NoKey = NotMade

-- the number and the place alone
abbrev pub told_refusal : Refusal → Checked
told_refusal e = record { number = number_told e; place = place_told e }

-- "0 means done" (01)
abbrev pub told_check : {A : Type 0} → Result A Refusal → Checked
told_check (Ok a) = record { number = 0; place = 0 }
told_check (Err e) = told_refusal e

-- what stands at the end of the bytes, by what is answered of them
abbrev pub found_told : Result done.Sheet Refusal → Found
found_told (Ok s) = Sheet (done_with s.marks.n s.marks.start (strand_number s.marks.strand)) (kind_number s.kind) s.before
found_told (Err e) = Refused (number_told e) (place_told e)

abbrev pub told_sheet : Result done.Sheet Refusal → Entry
told_sheet r = entry_as (found_told r)

-- "The walk answers the number of sheets" (01); a refused one answers none
abbrev pub told_walk : Result ℕ Refusal → Walked
told_walk (Ok n) = record { number = 0; place = 0; sheets = n }
told_walk (Err e) = record { number = number_told e; place = place_told e; sheets = 0 }
