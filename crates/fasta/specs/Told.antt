-- An answer in 01's numbers: "Whenever an answer is an enum, a definition gives this paper's number and values for each of the enum's
-- cases" (01).
-- Assumes nothing.
use Rattle.std.specs.Prelude.{ℕ, Option, Some, None, Result, Ok, Err}
use Rattle.fasta.specs.declared.answer.Refusal.{Refusal}
use Rattle.fasta.specs.declared.answer.Refusal.TheVariants.{NoRecord, NoLetters, TooManyLetters, WrongLetter, NoRoom}
use Rattle.fasta.specs.declared.answer.Refused.{Refused}
use Rattle.fasta.specs.declared.answer.Taken.{Taken}
use Rattle.fasta.specs.declared.answer.Parts.{Parts}
use Rattle.fasta.specs.declared.answer.Found.{Found}
use Rattle.fasta.specs.declared.answer.Record.{Record}
use Rattle.fasta.specs.Answers.{at_front, refused_with}

-- 8: "a letter line before any header, or no header in the text" (02); 1 to 4: "01's order as kind 1" (02)
abbrev pub number_of_refusal : Refusal → ℕ
number_of_refusal NoRecord = 8
number_of_refusal NoLetters = 1
number_of_refusal TooManyLetters = 2
number_of_refusal (WrongLetter i) = 3
number_of_refusal NoRoom = 4

-- the place of a letter that is no base; "other fields are 0" (01)
abbrev pub place_of_refusal : Refusal → ℕ
place_of_refusal NoRecord = 0
place_of_refusal NoLetters = 0
place_of_refusal TooManyLetters = 0
place_of_refusal (WrongLetter i) = i
place_of_refusal NoRoom = 0

-- a record read has the number 0; a refusal its number, its place and the text that remains: "other fields are 0" (01)
abbrev pub told_record : Result Taken Refused → Record
told_record (Ok t) = record { number = 0; place = 0; n = t.n; header = t.header; rest = t.rest }
told_record (Err e) = refused_with (number_of_refusal e.refusal) (place_of_refusal e.refusal) e.rest

-- a record found has the number 0; none is 8, with empty parts at the front
abbrev pub told_found : Option Parts → Found
told_found None = record { number = 8; place = 0; header = at_front; rest = at_front }
told_found (Some p) = record { number = 0; place = 0; header = p.header; rest = p.rest }
