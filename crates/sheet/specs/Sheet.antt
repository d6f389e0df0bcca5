-- The catalogue sheet (01): its letters and marks, its bytes, what the writer makes for a deposit, and the writer's answer.
-- Assumes nothing.
use Rattle.std.specs.Prelude.{◌≡◌, Bool, List, [], ◌∷◌, ◌++◌, ℕ, zero, suc, ◌+◌, ◌*◌, ◌/◌, ◌%◌, ltb, length, drop, get_or}
use Rattle.words.specs.Keys.Strand.{strand, key_start, key}
use Rattle.ring.specs.Verdict.{Verdict}
use Rattle.ring.specs.declared.answer.Marked.{Marked}
use Rattle.ring.specs.Judging.{Permitted, verdict, after}
use Rattle.ring.specs.Answers.{marked_as, deposit, is_key}

-- what a sheet holds: its letters, and the marks start, strand and kind (01, "the sheet's letters and marks")
pub record Contents : Type 0 where
  pub letters : List ℕ
  pub start : ℕ
  pub strand : ℕ
  pub kind : ℕ

-- how many values a byte has
abbrev pub base : ℕ
base = 256

-- k bytes of a number, "low byte first" (01); a number below base ^ k is whole in them
abbrev pub bytes_in : ℕ → ℕ → List ℕ
bytes_in zero x = []
bytes_in (suc k) x = x % base ∷ bytes_in k (x / base)

-- the number that the first k bytes of a list are, "low byte first" (01)
abbrev pub number_in : ℕ → List ℕ → ℕ
number_in zero t = 0
number_in (suc k) t = get_or t 0 0 + base * number_in k (drop 1 t)

-- the bytes of n and of the key's start in a trailer: "0, 1" and "2, 3" (01)
abbrev pub width : ℕ
width = 2

-- "52 47 hexadecimal" (01)
abbrev pub tag_first : ℕ
tag_first = 0x52

abbrev pub tag_last : ℕ
tag_last = 0x47

abbrev pub tag : List ℕ
tag = tag_first ∷ tag_last ∷ []

-- "a trailer of 8 bytes" (01): two numbers, strand, kind, tag
abbrev pub trailer_size : ℕ
trailer_size = width + width + 1 + 1 + length tag

-- n, key's start, strand, kind, 52 47 hexadecimal (01, the table of the sheet)
abbrev pub trailer_of : ℕ → ℕ → ℕ → ℕ → List ℕ
trailer_of n start strand kind = bytes_in width n ++ bytes_in width start ++ strand ∷ kind ∷ tag

-- "The key's n letters, then a trailer of 8 bytes that points back" (01)
abbrev pub bytes_of : Contents → List ℕ
bytes_of m = m.letters ++ trailer_of (length m.letters) m.start m.strand m.kind

-- what the writer makes for a deposit: the marks of its key, and their bytes
abbrev pub contents_of : ℕ → List ℕ → Contents
contents_of kind w = record { letters = key kind w; start = key_start kind w; strand = strand kind w; kind = kind }

unfoldable pub sheet_of : ℕ → List ℕ → List ℕ
sheet_of kind w = bytes_of (contents_of kind w)

-- the writer makes the bytes s for some deposit
pub record Written (s : List ℕ) : Type 0 where
  pub kind : ℕ
  pub deposit : List ℕ
  pub permitted : Permitted kind deposit
  pub is : sheet_of kind deposit ≡ s

-- the deposit of letters and marks, and whether they are what the writer makes for it; where not, 7 (01)
abbrev pub deposit_of : Contents → List ℕ
deposit_of m = deposit m.letters m.start m.strand

abbrev pub is_made : Contents → Bool
is_made m = is_key m.kind m.letters m.start m.strand

-- ---- the writer's answer: "Order for rings: 6, 1, 2, 3, 4", and 4 for "fewer than n+8" (01)

abbrev pub write_verdict : ℕ → List ℕ → ℕ → Verdict
write_verdict kind w size = verdict kind w (ltb size (length w + trailer_size))

abbrev pub written_of : ℕ → List ℕ → ℕ → Marked
written_of kind w size = marked_as (write_verdict kind w size) kind w

abbrev pub written_room : ℕ → List ℕ → List ℕ → List ℕ
written_room kind w room = after (write_verdict kind w (length room)) (sheet_of kind w) room
