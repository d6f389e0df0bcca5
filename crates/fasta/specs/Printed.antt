-- The text that each answer prints: its numbers in decimal, in the order of its fields, and " | " before each part of the text.
-- Assumes nothing.
use Rattle.std.specs.Prelude.{List, ℕ, ◌++◌, codes, decimal}
use Rattle.ring.specs.Printed.{spaced_two, spaced_three, numbered_text}
use Rattle.fasta.specs.declared.answer.Part.{Part}
use Rattle.fasta.specs.declared.answer.Refusal.{Refusal}
use Rattle.fasta.specs.declared.answer.Refusal.TheVariants.{NoRecord, NoLetters, TooManyLetters, WrongLetter, NoRoom}
use Rattle.fasta.specs.declared.answer.Refused.{Refused}
use Rattle.fasta.specs.declared.answer.Found.{Found}
use Rattle.fasta.specs.declared.answer.Record.{Record}
use Rattle.fasta.specs.Told.{number_of_refusal}

-- a part of the text: its offset and its size
abbrev pub part_text : Part → List ℕ
part_text p = spaced_two p.offset p.size

-- what a refusal says to people; that of a wrong letter names the place
abbrev pub reason_text : Refusal → List ℕ
reason_text NoRecord = codes "no header line before the first letter line"
reason_text NoLetters = codes "no letters"
reason_text TooManyLetters = codes "more letters than a ring has"
reason_text (WrongLetter i) = codes "no base at " ++ decimal i
reason_text NoRoom = codes "a room with too few bytes"

-- what a refusal prints: its number, and why
abbrev pub refusal_text : Refusal → List ℕ
refusal_text r = numbered_text (number_of_refusal r) (reason_text r)

-- a record that is refused: its refusal alone, not the text that remains
abbrev pub refused_text : Refused → List ℕ
refused_text e = refusal_text e.refusal

-- a record read: its number, the place and the count of letters, then both parts
abbrev pub record_text : Record → List ℕ
record_text r = spaced_three r.number r.place r.n ++ codes " | " ++ part_text r.header ++ codes " | " ++ part_text r.rest

-- a record found: its number and the place, then both parts
abbrev pub found_text : Found → List ℕ
found_text f = spaced_two f.number f.place ++ codes " | " ++ part_text f.header ++ codes " | " ++ part_text f.rest
