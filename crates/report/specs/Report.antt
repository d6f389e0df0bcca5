-- What `ringline` prints for what it has read (01, "The program ringline").
-- Assumes nothing.
use Rattle.std.specs.Prelude.{false, cond, List, [], ◌∷◌, ◌++◌, ℕ, ◌+◌, ◌-◌, ◌≤◌, ltb, eqb, length, take, get_or}
use Rattle.words.specs.Rings.Ring.{start}
use Rattle.words.specs.Keys.Strand.{strand, key_start, key}
use Rattle.words.specs.Factors.Factor.{factor_table}
use Rattle.words.specs.Suffixes.Prefix.{suffix_table, start_table}
use Rattle.words.specs.Repeats.Repeat.{repeat}
use Rattle.words.specs.Duels.Duel.{pairs}
use Rattle.ring.specs.Verdict.{Verdict}
use Rattle.ring.specs.Judging.{Permitted, verdict, taken, number_of, place_of, over}
use Rattle.report.specs.Decimal.{row, row_room}

-- the most letters of a ring that is printed (01, "n from 1 to 8,192")
abbrev pub longest : ℕ
longest = 8192

-- a ring that is printed: a permitted base ring of `longest` letters or fewer
pub record Printable (w : List ℕ) : Type 0 where
  pub permitted : Permitted 1 w
  pub within : length w ≤ longest

-- "if the last byte read is a line feed, that one is dropped"
abbrev pub kept : List ℕ → ℕ
kept b = cond (eqb (get_or b (length b - 1) 0) 10) (length b - 1) (length b)

-- "Line 1: number 0, n, start as given, repeat, pairs."
unfoldable pub head_line : List ℕ → List ℕ
head_line w = row 10 (0 ∷ length w ∷ start w ∷ repeat w ∷ pairs w ∷ [])

-- "Line 2: factor table. Line 3: suffix table. Line 4: start table."
unfoldable pub factor_line : List ℕ → List ℕ
factor_line w = row 10 (factor_table w)

unfoldable pub suffix_line : List ℕ → List ℕ
suffix_line w = row 10 (suffix_table w)

unfoldable pub start_line : List ℕ → List ℕ
start_line w = row 10 (start_table w)

-- "Line 5: key's strand, key's start, key."
unfoldable pub key_line : List ℕ → List ℕ
key_line w = row 32 (strand 1 w ∷ key_start 1 w ∷ []) ++ (key 1 w ++ (10 ∷ []))

unfoldable pub five_lines : List ℕ → List ℕ
five_lines w = head_line w ++ (factor_line w ++ (suffix_line w ++ (start_line w ++ key_line w)))

-- "A declined ring gives one line: number, place."
abbrev pub lines : Verdict → List ℕ → List ℕ
lines v w = cond (taken v) (five_lines w) (row 10 (number_of v ∷ place_of v ∷ []))

-- the report on a base ring
abbrev pub report_on : List ℕ → List ℕ
report_on w = lines (verdict 1 w false) w

-- the report on bytes read
abbrev pub report_of : List ℕ → List ℕ
report_of b = report_on (take (kept b) b)

-- room for a line that prints a table, and for the key's line: two numbers, the letters, a line feed
abbrev pub table_room : ℕ
table_room = row_room longest

abbrev pub key_room : ℕ
key_room = row_room 2 + longest + 1

-- room enough for every report
abbrev pub roomy : ℕ
roomy = 160000

-- a report is written to a room that holds every report, and to no other
abbrev pub report_length : List ℕ → ℕ → ℕ
report_length b size = cond (ltb size roomy) 0 (length (report_of b))

abbrev pub report_room : List ℕ → List ℕ → List ℕ
report_room b room = cond (ltb (length room) roomy) room (over (report_of b) room)
