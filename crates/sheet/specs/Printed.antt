-- What an answer and a refusal print: the bytes that `{}` writes of each.
-- Assumes nothing.
use Rattle.std.specs.Prelude.{ℕ, List, ◌++◌, decimal, codes}
use Rattle.ring.specs.Printed.{marked_text, numbered_text, spaced_three}
use Rattle.sheet.specs.declared.answer.Entry.{Entry}
use Rattle.sheet.specs.declared.answer.Walked.{Walked}
use Rattle.sheet.specs.declared.refusals.Refusal.{Refusal}
use Rattle.sheet.specs.declared.refusals.Refusal.TheVariants.{NoLetters, TooManyLetters, WrongLetter, NoRoom, Torn, WrongMarks, NotMade}
use Rattle.sheet.specs.Told.{number_told}

-- what each answer prints: its fields in their order, the key's marks as the ring rules print them
abbrev pub entry_text : Entry → List ℕ
entry_text a = marked_text a.marked ++ codes " " ++ decimal a.kind ++ codes " " ++ decimal a.before

abbrev pub walked_text : Walked → List ℕ
walked_text a = spaced_three a.number a.place a.sheets

-- why a sheet or a book is refused, in words for people
abbrev pub reason_text : Refusal → List ℕ
reason_text NoLetters = codes "no letters"
reason_text TooManyLetters = codes "more letters than a ring has"
reason_text (WrongLetter at) = codes "no letter of the kind at " ++ decimal at
reason_text NoRoom = codes "a room with too few bytes"
reason_text Torn = codes "fewer bytes than a sheet has"
reason_text WrongMarks = codes "a wrong tag, kind or strand"
reason_text NotMade = codes "no deposit has this sheet"

-- what a refusal prints: its number, and why
abbrev pub refusal_text : Refusal → List ℕ
refusal_text e = numbered_text (number_told e) (reason_text e)
