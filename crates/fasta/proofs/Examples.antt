-- The request's rules one by one, by computation: what `record` answers with a room of 8 bytes where no other is named, and `find`.
-- Assumes nothing.
use mathlib.Core.Path.{◌≡◌, refl}
use mathlib.Core.List.{[], ◌∷◌}
use Rattle.ring.specs.Judging.{verdict}
use Rattle.fasta.specs.Lines.{is_blank, upper}
use Rattle.fasta.specs.Parts.{record_lines, header_of, letters_of, rest_of, header_at, rest_at}
use Rattle.fasta.specs.Answers.{part, found_of, refused_with, at_front, record_of, record_room}

-- line ends, blanks, case, an empty line, and the next record: ">ab\r\nac g\tT\n\n TT \r\n>c\nA"
pub two_records : record_of (62 ∷ 97 ∷ 98 ∷ 13 ∷ 10 ∷ 97 ∷ 99 ∷ 32 ∷ 103 ∷ 9 ∷ 84 ∷ 10 ∷ 10 ∷ 32 ∷ 84 ∷ 84 ∷ 32 ∷ 13 ∷ 10 ∷ 62 ∷ 99 ∷ 10 ∷ 65 ∷ []) 8 ≡ record { number = 0; place = 0; n = 6; header = part 1 2; rest = part 19 4 }
unfolding verdict is_blank upper record_lines header_of letters_of rest_of header_at rest_at
two_records = refl

-- the letters at the room's front, the rest of it as it was
pub two_records_room : record_room (62 ∷ 97 ∷ 98 ∷ 13 ∷ 10 ∷ 97 ∷ 99 ∷ 32 ∷ 103 ∷ 9 ∷ 84 ∷ 10 ∷ 10 ∷ 32 ∷ 84 ∷ 84 ∷ 32 ∷ 13 ∷ 10 ∷ 62 ∷ 99 ∷ 10 ∷ 65 ∷ []) (0 ∷ 0 ∷ 0 ∷ 0 ∷ 0 ∷ 0 ∷ 0 ∷ 0 ∷ []) ≡ 65 ∷ 67 ∷ 71 ∷ 84 ∷ 84 ∷ 84 ∷ 0 ∷ 0 ∷ []
unfolding verdict is_blank upper record_lines letters_of
two_records_room = refl

-- `>` alone is a header of 0 bytes: ">"
pub mark_alone : found_of (62 ∷ []) ≡ record { number = 0; place = 0; header = part 1 0; rest = part 1 0 }
unfolding is_blank record_lines header_of rest_of header_at rest_at
mark_alone = refl

-- and a record without letters, which gives 1: ">"
pub mark_alone_read : record_of (62 ∷ []) 8 ≡ refused_with 1 0 (part 1 0)
unfolding verdict is_blank upper record_lines header_of letters_of rest_of header_at rest_at
mark_alone_read = refl

-- no header in the text: ""
pub no_text : record_of [] 8 ≡ refused_with 8 0 at_front
unfolding verdict is_blank upper record_lines header_of letters_of rest_of header_at rest_at
no_text = refl

-- blank lines alone: " \n\t\r\n"
pub blank_lines : record_of (32 ∷ 10 ∷ 9 ∷ 13 ∷ 10 ∷ []) 8 ≡ refused_with 8 0 at_front
unfolding verdict is_blank upper record_lines header_of letters_of rest_of header_at rest_at
blank_lines = refl

-- a letter line before any header: "A\n>x\nA"
pub letters_first : record_of (65 ∷ 10 ∷ 62 ∷ 120 ∷ 10 ∷ 65 ∷ []) 8 ≡ refused_with 8 0 at_front
unfolding verdict is_blank upper record_lines header_of letters_of rest_of header_at rest_at
letters_first = refl

-- blank lines before the first header are passed over: " \r\n\n>x\nA"
pub blank_first : record_of (32 ∷ 13 ∷ 10 ∷ 10 ∷ 62 ∷ 120 ∷ 10 ∷ 65 ∷ []) 8 ≡ record { number = 0; place = 0; n = 1; header = part 5 1; rest = part 8 0 }
unfolding verdict is_blank upper record_lines header_of letters_of rest_of header_at rest_at
blank_first = refl

-- `>` within a line is a letter: ">x\nAC>G\n"
pub mark_within : record_of (62 ∷ 120 ∷ 10 ∷ 65 ∷ 67 ∷ 62 ∷ 71 ∷ 10 ∷ []) 8 ≡ refused_with 3 2 (part 8 0)
unfolding verdict is_blank upper record_lines header_of letters_of rest_of header_at rest_at
mark_within = refl

-- a CR that no LF follows is a letter: ">x\nA\rC"
pub lone_cr : record_of (62 ∷ 120 ∷ 10 ∷ 65 ∷ 13 ∷ 67 ∷ []) 8 ≡ refused_with 3 1 (part 6 0)
unfolding verdict is_blank upper record_lines header_of letters_of rest_of header_at rest_at
lone_cr = refl

-- at the end of the text too: ">x\nA\r"
pub last_cr : record_of (62 ∷ 120 ∷ 10 ∷ 65 ∷ 13 ∷ []) 8 ≡ refused_with 3 1 (part 5 0)
unfolding verdict is_blank upper record_lines header_of letters_of rest_of header_at rest_at
last_cr = refl

-- and in a header it is a byte of it: ">x\r"
pub header_cr : found_of (62 ∷ 120 ∷ 13 ∷ []) ≡ record { number = 0; place = 0; header = part 1 2; rest = part 3 0 }
unfolding is_blank record_lines header_of rest_of header_at rest_at
header_cr = refl

-- of two CRs before LF the second is the end: ">x\nA\r\r\n"
pub two_crs : record_of (62 ∷ 120 ∷ 10 ∷ 65 ∷ 13 ∷ 13 ∷ 10 ∷ []) 8 ≡ refused_with 3 1 (part 7 0)
unfolding verdict is_blank upper record_lines header_of letters_of rest_of header_at rest_at
two_crs = refl

-- places count the letters kept, and the rest is handed back: ">x\nA C\nn\n>y\n"
pub place_kept : record_of (62 ∷ 120 ∷ 10 ∷ 65 ∷ 32 ∷ 67 ∷ 10 ∷ 110 ∷ 10 ∷ 62 ∷ 121 ∷ 10 ∷ []) 8 ≡ refused_with 3 2 (part 9 3)
unfolding verdict is_blank upper record_lines header_of letters_of rest_of header_at rest_at
place_kept = refl

-- a room of fewer bytes than letters: ">x\nACGT\n>"
pub short_room : record_of (62 ∷ 120 ∷ 10 ∷ 65 ∷ 67 ∷ 71 ∷ 84 ∷ 10 ∷ 62 ∷ []) 3 ≡ refused_with 4 0 (part 8 1)
unfolding verdict is_blank upper record_lines header_of letters_of rest_of header_at rest_at
short_room = refl

-- a record without letters, before another: ">x\n>y\nA"
pub no_letters : record_of (62 ∷ 120 ∷ 10 ∷ 62 ∷ 121 ∷ 10 ∷ 65 ∷ []) 8 ≡ refused_with 1 0 (part 3 4)
unfolding verdict is_blank upper record_lines header_of letters_of rest_of header_at rest_at
no_letters = refl

-- refused with 3, the room is as it was: ">x\nAN"
pub refused_room : record_room (62 ∷ 120 ∷ 10 ∷ 65 ∷ 78 ∷ []) (1 ∷ 2 ∷ 3 ∷ []) ≡ 1 ∷ 2 ∷ 3 ∷ []
unfolding verdict is_blank upper record_lines letters_of
refused_room = refl

-- the parts by their bytes, a header with its blanks: "> p\r\nA\n>q"
pub header_bytes : header_of (62 ∷ 32 ∷ 112 ∷ 13 ∷ 10 ∷ 65 ∷ 10 ∷ 62 ∷ 113 ∷ []) ≡ 32 ∷ 112 ∷ []
unfolding is_blank record_lines header_of
header_bytes = refl

pub rest_bytes : rest_of (62 ∷ 32 ∷ 112 ∷ 13 ∷ 10 ∷ 65 ∷ 10 ∷ 62 ∷ 113 ∷ []) ≡ 62 ∷ 113 ∷ []
unfolding is_blank record_lines rest_of
rest_bytes = refl
