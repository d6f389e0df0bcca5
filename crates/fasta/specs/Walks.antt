-- A whole text, walked record by record: what a program learns of it, texts in plain form, texts that are alike.
-- Assumes nothing.
use Rattle.std.specs.Prelude.{◌≡◌, cond, List, [], ◌∷◌, ◌++◌, ℕ, ◌≤◌, ◌<◌, length, take, drop}
use Rattle.ring.specs.Judging.{most, Permitted}
use Rattle.fasta.specs.declared.answer.Record.{Record}
use Rattle.fasta.specs.Lines.{mark, Line, line, joined, is_header}
use Rattle.fasta.specs.Answers.{base_kind}
use Rattle.fasta.specs.Calls.{RecordCall, HeaderCall, RestCall}
use Rattle.fasta.specs.Demands.{Ended, Whole, Every, Layout, bodies, Alike}

-- ---- a walk

-- what a program learns of a record: its header, its number and place, and its letters, none where it is refused
pub record Item : Type 0 where
  pub header : List ℕ
  pub number : ℕ
  pub place : ℕ
  pub letters : List ℕ

-- a program walks a text to its end: each call on what the call before left, with a room for any ring
pub data Walk : List ℕ → List Item → Type 0 where
  end : Walk [] []
  step : {text room left head rest : List ℕ} {r : Record} {p headed rested : ℕ × ℕ} {es : List Item} → 0 < length text → most ≤ length room
      → RecordCall text room r left → HeaderCall text p head headed → RestCall text p rest rested → Walk rest es
      → Walk text (record { header = head; number = r.number; place = r.place; letters = take r.n left } ∷ es)

-- such a walk, with its items
pub record Walked (text : List ℕ) : Type 0 where
  pub items : List Item
  pub walk : Walk text items

-- the header lines among these, without the mark, in order
abbrev pub headers : List Line → List (List ℕ)
headers [] = []
headers (l ∷ ls) = cond (is_header l) (drop 1 l.body ∷ headers ls) (headers ls)

-- the headers of items
abbrev pub titles : List Item → List (List ℕ)
titles [] = []
titles (e ∷ es) = e.header ∷ titles es

-- ---- records in plain form

pub record EndedLine (l : Line) : Type 0 where
  pub is : Ended l.ending

-- a record in plain form: `>`, the header and a line end; and the letters of a base ring in lines of any width, each with its end. A
-- line may be empty
pub record Plain : Type 0 where
  pub header : List ℕ
  pub ending : List ℕ
  pub lines : List Line
  pub whole : Whole (line (mark ∷ header) ending)
  pub rows : Every EndedLine lines
  pub permitted : Permitted base_kind (bodies lines)

-- records one behind another, and the items that they are
abbrev pub plain_text : List Plain → List ℕ
plain_text [] = []
plain_text (p ∷ ps) = joined (line (mark ∷ p.header) p.ending ∷ p.lines) ++ plain_text ps

abbrev pub plain_items : List Plain → List Item
plain_items [] = []
plain_items (p ∷ ps) = record { header = p.header; number = 0; place = 0; letters = bodies p.lines } ∷ plain_items ps

-- ---- texts alike: record by record, the same header, and letters alike

pub data AlikeTexts : List ℕ → List ℕ → Type 0 where
  end : AlikeTexts [] []
  more : {s t : List ℕ} (l : Layout s) (m : Layout t) → l.header ≡ m.header → Alike (bodies l.lines) (bodies m.lines)
      → AlikeTexts (joined l.remains) (joined m.remains) → AlikeTexts s t
