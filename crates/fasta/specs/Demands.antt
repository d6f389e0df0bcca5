-- What the theorems of `proofs/Demands` say of the calls: the lines of a text, the table of numbers, a record as lines, letters alike.
-- Assumes nothing.
use Rattle.std.specs.Prelude.{◌≡◌, ◌⊎◌, Bool, true, false, not, ◌&&◌, ◌||◌, List, [], ◌∷◌, ◌++◌, ℕ, ◌<◌, ◌+◌, ◌-◌, eqb, length, take, drop}
use Rattle.ring.specs.Judging.{Given}
use Rattle.fasta.specs.declared.answer.Found.{Found}
use Rattle.fasta.specs.declared.answer.Record.{Record}
use Rattle.fasta.specs.Lines.{mark, lf, cr, is_blank, upper, begins, Line, line, lines_of, joined, first_body, is_header, is_empty, is_letters, letters}
use Rattle.fasta.specs.Parts.{letters_of}
use Rattle.fasta.specs.Answers.{base_kind, part}

-- ---- the lines of a text

-- the byte a is one of these
abbrev pub has : ℕ → List ℕ → Bool
has a [] = false
has a (b ∷ t) = eqb b a || has a t

-- the last of these bytes is the byte a
abbrev pub closes : ℕ → List ℕ → Bool
closes a [] = false
closes a (b ∷ []) = eqb b a
closes a (b ∷ (c ∷ t)) = closes a (c ∷ t)

-- "line ends are LF or CR LF" (02)
pub data Ended : List ℕ → Type 0 where
  by_lf : Ended (lf ∷ [])
  by_cr-lf : Ended (cr ∷ lf ∷ [])

-- a line with its end: no line end stands in its bytes, nor does it make one with its end
pub record Whole (l : Line) : Type 0 where
  pub end : Ended l.ending
  pub within : has lf l.body ≡ false
  -- CR and LF at the line's end are one end
  pub seam : l.ending ≡ lf ∷ [] → closes cr l.body ≡ false

-- lines rightly cut: each is whole, but the last may have no end, and then has a byte or more
pub data Cut : List Line → Type 0 where
  none : Cut []
  last : {s : List ℕ} → has lf s ≡ false → 0 < length s → Cut (line s [] ∷ [])
  then : {l : Line} {ls : List Line} → Whole l → Cut ls → Cut (l ∷ ls)

-- ---- each number exactly when

-- no line of these is a header
abbrev pub no_header : List Line → Bool
no_header [] = true
no_header (l ∷ ls) = not (is_header l) && no_header ls

-- 8: "a letter line before any header, or no header in the text" (02)
pub data Unheaded (ls : List Line) : Type 0 where
  early : (front back : List Line) (l : Line) → ls ≡ front ++ (l ∷ back) → no_header front ≡ true → is_letters l ≡ true → Unheaded ls
  none : no_header ls ≡ true → Unheaded ls

-- 8 "judged before all others"; else "The letters then go through 01's order as kind 1" (02), with 4 for a room of fewer bytes
pub data RecordGiven (text : List ℕ) (size : ℕ) : ℕ → ℕ → Type 0 where
  nothing : Unheaded (lines_of text) → RecordGiven text size 8 0
  judged : {k i : ℕ} → (Unheaded (lines_of text) → ⊥) → Given base_kind (letters_of text) (size < length (letters_of text)) k i → RecordGiven text size k i

-- and for `find`, which reads no letters
pub data FoundGiven (text : List ℕ) : ℕ → ℕ → Type 0 where
  absent : Unheaded (lines_of text) → FoundGiven text 8 0
  found : (Unheaded (lines_of text) → ⊥) → FoundGiven text 0 0

-- `find` answers where the parts stand that `header` and `rest` hand back of a text at the address p
pub record TellsParts (r : Found) (p : ℕ × ℕ) (head : List ℕ) (headed : ℕ × ℕ) (rest : List ℕ) (rested : ℕ × ℕ) : Type 0 where
  pub of_header : (headed ≡ (p.0, p.1 + r.header.offset)) × (length head ≡ r.header.size)
  pub of_rest : (rested ≡ (p.0, p.1 + r.rest.offset)) × (length rest ≡ r.rest.size)

-- ---- a record as lines

pub data Every (P : Line → Type 0) : List Line → Type 0 where
  none : Every P []
  more : {l : Line} {ls : List Line} → P l → Every P ls → Every P (l ∷ ls)

pub record Empty (l : Line) : Type 0 where
  pub is : is_empty l ≡ true

pub record Unmarked (l : Line) : Type 0 where
  pub is : is_header l ≡ false

-- there are no more lines, or a header is next
abbrev pub Next : List Line → Type 0
Next ls = (ls ≡ []) ⊎ (begins mark (first_body ls) ≡ true)

-- the lines of a text by its first record: empty lines, the header line, "the lines to the next header" (02), and what remains
pub record Layout (text : List ℕ) : Type 0 where
  pub front : List Line
  pub header : List ℕ
  pub ending : List ℕ
  pub lines : List Line
  pub remains : List Line
  pub are : lines_of text ≡ front ++ (line (mark ∷ header) ending ∷ (lines ++ remains))
  pub passed : Every Empty front
  pub unmarked : Every Unmarked lines
  pub next : Next remains

-- ---- what each call answers on a text so laid out

-- `record`, with its answer r and its room afterwards
pub record RecordAs (text : List ℕ) (l : Layout text) (r : Record) (left : List ℕ) : Type 0 where
  -- done: the letters kept of the lines stand at the room's front, and the header behind its mark
  pub kept : r.number ≡ 0 → (r.n ≡ length (letters l.lines)) × (take r.n left ≡ letters l.lines)
  pub titled : r.number ≡ 0 → r.header ≡ part (length (joined l.front) + 1) (length l.header)
  -- after 0, 1, 2, 3 and 4 alike "the remaining text is still handed back" (02): the text's end
  pub remaining : r.rest ≡ part (length text - length (joined l.remains)) (length (joined l.remains))

-- `header`, of a text at the address p: the "header line without the mark, as a part of the text" (02)
pub record HeaderAs (text : List ℕ) (l : Layout text) (p : ℕ × ℕ) (head : List ℕ) (headed : ℕ × ℕ) : Type 0 where
  pub is : head ≡ l.header
  pub stands : headed ≡ (p.0, p.1 + (length (joined l.front) + 1))
  pub within : head ≡ take (length head) (drop (length (joined l.front) + 1) text)

-- `rest`, of a text at the address p: "the text that remains" (02), which is the text's end
pub record RestAs (text : List ℕ) (l : Layout text) (p : ℕ × ℕ) (rest : List ℕ) (rested : ℕ × ℕ) : Type 0 where
  pub is : rest ≡ joined l.remains
  pub stands : rested ≡ (p.0, p.1 + (length text - length rest))
  pub within : rest ≡ drop (length text - length rest) text
  pub shorter : length rest < length text

-- ---- letters alike

-- the bytes of lines, joined without their ends
abbrev pub bodies : List Line → List ℕ
bodies [] = []
bodies (l ∷ ls) = l.body ++ bodies ls

-- the same bytes but for case, and for spaces and tabs
pub data Alike : List ℕ → List ℕ → Type 0 where
  nil : Alike [] []
  same : {a b : ℕ} {u v : List ℕ} → upper a ≡ upper b → Alike u v → Alike (a ∷ u) (b ∷ v)
  left : {a : ℕ} {u v : List ℕ} → is_blank a ≡ true → Alike u v → Alike (a ∷ u) v
  right : {b : ℕ} {u v : List ℕ} → is_blank b ≡ true → Alike u v → Alike u (b ∷ v)

-- two answers have one number and place, and the same letters
pub record SameLetters (q : Record) (one : List ℕ) (r : Record) (two : List ℕ) : Type 0 where
  pub number : q.number ≡ r.number
  pub place : q.place ≡ r.place
  pub count : q.n ≡ r.n
  pub letters : take q.n one ≡ take r.n two
