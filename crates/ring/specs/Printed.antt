-- What an answer and a refusal print: the bytes that `{}` writes of each.
-- Assumes nothing.
use Rattle.std.specs.Prelude.{true, false, ℕ, List, ◌++◌, Bool, decimal, codes}
use Rattle.ring.specs.declared.answer.Checked.{Checked}
use Rattle.ring.specs.declared.answer.Factored.{Factored}
use Rattle.ring.specs.declared.answer.Fought.{Fought}
use Rattle.ring.specs.declared.answer.Repeated.{Repeated}
use Rattle.ring.specs.declared.answer.Marked.{Marked}
use Rattle.ring.specs.declared.answer.Compared.{Compared}
use Rattle.ring.specs.declared.refusals.Refusal.{Refusal}
use Rattle.ring.specs.declared.refusals.Refusal.TheVariants.{NoLetters, TooManyLetters, WrongLetter, NoRoom, UnknownKind, NoKey}
use Rattle.ring.specs.declared.refusals.NotCompared.{NotCompared}
use Rattle.ring.specs.declared.refusals.NotCompared.TheVariants.{First, Second}
use Rattle.ring.specs.Judging.{number_of}
use Rattle.ring.specs.Told.{verdict_of}

-- two numbers, three, four and five, in decimal, with one space between
abbrev pub spaced_two : ℕ → ℕ → List ℕ
spaced_two a b = decimal a ++ codes " " ++ decimal b

abbrev pub spaced_three : ℕ → ℕ → ℕ → List ℕ
spaced_three a b c = decimal a ++ codes " " ++ spaced_two b c

abbrev pub spaced_four : ℕ → ℕ → ℕ → ℕ → List ℕ
spaced_four a b c d = decimal a ++ codes " " ++ spaced_three b c d

abbrev pub spaced_five : ℕ → ℕ → ℕ → ℕ → ℕ → List ℕ
spaced_five a b c d e = decimal a ++ codes " " ++ spaced_four b c d e

-- what each answer prints: its fields in their order
abbrev pub checked_text : Checked → List ℕ
checked_text a = spaced_two a.number a.place

abbrev pub factored_text : Factored → List ℕ
factored_text a = spaced_four a.number a.place a.count a.start

abbrev pub fought_text : Fought → List ℕ
fought_text a = spaced_four a.number a.place a.start a.pairs

abbrev pub repeated_text : Repeated → List ℕ
repeated_text a = spaced_three a.number a.place a.repeat

abbrev pub marked_text : Marked → List ℕ
marked_text a = spaced_five a.number a.place a.n a.start a.strand

-- whether two rings are one, in a word
abbrev pub same_text : Bool → List ℕ
same_text true = codes "yes"
same_text false = codes "no"

abbrev pub compared_text : Compared → List ℕ
compared_text a = spaced_three a.number a.place a.ring ++ codes " " ++ same_text a.same

-- why a ring is declined, in words for people
abbrev pub reason_text : Refusal → List ℕ
reason_text NoLetters = codes "no letters"
reason_text TooManyLetters = codes "more letters than a ring has"
reason_text (WrongLetter at) = codes "no letter of the kind at " ++ decimal at
reason_text NoRoom = codes "a table or a room with too few entries"
reason_text UnknownKind = codes "a kind that is none"
reason_text NoKey = codes "no ring has this key"

-- a number in decimal, and a reason: the form of every refusal, of rings, of sheets and of FASTA text
abbrev pub numbered_text : ℕ → List ℕ → List ℕ
numbered_text n why = decimal n ++ codes ": " ++ why

-- what a refusal prints: its number, and why
abbrev pub refusal_text : Refusal → List ℕ
refusal_text e = numbered_text (number_of (verdict_of e)) (reason_text e)

-- what two rings that are not compared print: which of them is refused, and its refusal
abbrev pub not_compared_text : NotCompared → List ℕ
not_compared_text (First e) = codes "the first ring: " ++ refusal_text e
not_compared_text (Second e) = codes "the second ring: " ++ refusal_text e
