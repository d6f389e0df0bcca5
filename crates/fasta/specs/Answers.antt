-- The full answer of the calls that find and read a record, and the lent room afterwards, for refused text too (02, request 1).
-- Assumes nothing.
use Rattle.std.specs.Prelude.{cond, List, ℕ, length}
use Rattle.ring.specs.Verdict.{Verdict}
use Rattle.ring.specs.Judging.{verdict, taken, number_of, place_of, field, after}
use Rattle.ring.specs.Answers.{fewer}
use Rattle.fasta.specs.declared.answer.Part.{Part}
use Rattle.fasta.specs.declared.answer.Found.{Found}
use Rattle.fasta.specs.declared.answer.Record.{Record}
use Rattle.fasta.specs.Parts.{unheaded, header_of, letters_of, rest_of, header_at, rest_at}

-- "as kind 1" (02)
abbrev pub base_kind : ℕ
base_kind = 1

-- "The letters then go through 01's order as kind 1" (02), with 4 for the room
abbrev pub letters_verdict : List ℕ → ℕ → Verdict
letters_verdict text size = verdict base_kind (letters_of text) (fewer size (letters_of text))

-- a part of the text: its offset and its length
abbrev pub part : ℕ → ℕ → Part
part offset size = record { offset = offset; size = size }

-- "an empty part at the front of the lent bytes" (01)
abbrev pub at_front : Part
at_front = part 0 0

abbrev pub header_part : List ℕ → Part
header_part text = part (header_at text) (length (header_of text))

abbrev pub rest_part : List ℕ → Part
rest_part text = part (rest_at text) (length (rest_of text))

-- where both stand; 8: "a letter line before any header, or no header in the text" (02)
abbrev pub found_of : List ℕ → Found
found_of text =
    cond (unheaded text) (record { number = 8; place = 0; header = at_front; rest = at_front })
    (record { number = 0; place = 0; header = header_part text; rest = rest_part text })

-- a refusal, with the text that remains: "other fields are 0" (01)
abbrev pub refused_with : ℕ → ℕ → Part → Record
refused_with number place rest = record { number = number; place = place; n = 0; header = at_front; rest = rest }

-- "After 1, 2, 3 and 4 the remaining text is still handed back" (02)
abbrev pub record_as : Verdict → List ℕ → Record
record_as v text = record {
  number = number_of v;
  place = place_of v;
  n = field v (length (letters_of text));
  header = cond (taken v) (header_part text) at_front;
  rest = rest_part text;
}

-- 8 is "judged before all others" (02)
abbrev pub record_of : List ℕ → ℕ → Record
record_of text size = cond (unheaded text) (refused_with 8 0 at_front) (record_as (letters_verdict text size) text)

-- "its letters in a lent room" (02); refused, "no lent byte changes" (01)
abbrev pub record_room : List ℕ → List ℕ → List ℕ
record_room text room = cond (unheaded text) room (after (letters_verdict text (length room)) (letters_of text) room)
