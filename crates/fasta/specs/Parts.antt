-- The first record of a text: its header, its letters and the text that remains (02, request 1).
-- Assumes nothing.
use Rattle.std.specs.Prelude.{Bool, true, false, cond, List, [], ◌∷◌, ℕ, ◌+◌, ◌-◌, length, drop}
use Rattle.fasta.specs.Lines.{Line, lines_of, joined, first_body, is_header, is_empty, letters}

-- the lines from the first header on, empty lines before it passed over; none for "a letter line before any header, or no header in
-- the text" (02)
abbrev pub from_header : List Line → List Line
from_header [] = []
from_header (l ∷ ls) = cond (is_header l) (l ∷ ls) (cond (is_empty l) (from_header ls) [])

-- "the lines to the next header" (02), and the lines from it on
abbrev pub up_to : List Line → List Line
up_to [] = []
up_to (l ∷ ls) = cond (is_header l) [] (l ∷ up_to ls)

abbrev pub beyond : List Line → List Line
beyond [] = []
beyond (l ∷ ls) = cond (is_header l) (l ∷ ls) (beyond ls)

-- the header line of the first record, and all behind it
unfoldable pub record_lines : List ℕ → List Line
record_lines text = from_header (lines_of text)

-- 8: there is no such line
abbrev pub no_line : List Line → Bool
no_line [] = true
no_line (l ∷ ls) = false

abbrev pub unheaded : List ℕ → Bool
unheaded text = no_line (record_lines text)

-- ---- what a record gives

-- "its header line without the mark" (02)
unfoldable pub header_of : List ℕ → List ℕ
header_of text = drop 1 (first_body (record_lines text))

-- "its letters" (02)
unfoldable pub letters_of : List ℕ → List ℕ
letters_of text = letters (up_to (drop 1 (record_lines text)))

-- "the text that remains" (02): from the next header on
unfoldable pub rest_of : List ℕ → List ℕ
rest_of text = joined (beyond (drop 1 (record_lines text)))

-- where the header stands in the text, behind its mark; the front where there is none
unfoldable pub header_at : List ℕ → ℕ
header_at text = cond (unheaded text) 0 (length text - length (joined (record_lines text)) + 1)

-- where the text that remains stands: it is the text's end; the front where there is no record
unfoldable pub rest_at : List ℕ → ℕ
rest_at text = cond (unheaded text) 0 (length text - length (rest_of text))
