-- The answers of the calls that read a sheet (01, "The catalogue sheet"), for refused bytes too.
-- Assumes nothing.
use Rattle.std.specs.Prelude.{List, [], ◌∷◌, ◌++◌, ℕ, ltb, length, take, drop}
use Rattle.ring.specs.declared.answer.Checked.{Checked}
use Rattle.ring.specs.Rule.{rule, judged}
use Rattle.ring.specs.Judging.{over}
use Rattle.ring.specs.Answers.{refusal_of}
use Rattle.sheet.specs.Found.{Found}
use Rattle.sheet.specs.Found.{Sheet, Refused}
use Rattle.sheet.specs.declared.answer.Entry.{Entry}
use Rattle.sheet.specs.Sheet.{deposit_of}
use Rattle.sheet.specs.Trailer.{way_back, contents_in, sheet_rules, sheet_in, found_of, number_of, place_of}

-- "start, strand, kind and how many bytes stand before"; "other fields are 0" (01)
abbrev pub entry_as : Found → Entry
entry_as (Sheet marked kind before) = record { marked = marked; kind = kind; before = before }
entry_as (Refused number place) = record { marked = refusal_of number place; kind = 0; before = 0 }

abbrev pub entry_of : List ℕ → Entry
entry_of b = entry_as (found_of b)

-- "the key as a part of the lent bytes"; "A declined call hands back an empty part at the front of the lent bytes" (01)
abbrev pub part_as : List ℕ → Found → List ℕ
part_as b (Sheet marked kind before) = take marked.n (drop before b)
part_as b (Refused number place) = []

abbrev pub part_of : List ℕ → List ℕ
part_of b = part_as b (found_of b)

-- "A second call writes the deposit's original letters to a lent room": the sheet's order, "then 4 for a room lent for the original" (01)
unfoldable pub restored_of : List ℕ → ℕ → Found
restored_of b size = judged (sheet_rules b ++ rule (ltb size (way_back b)) (Refused 4 0) ∷ []) (sheet_in b)

abbrev pub original_of : List ℕ → ℕ → Checked
original_of b size = record { number = number_of (restored_of b size); place = place_of (restored_of b size) }

-- the room afterwards; refused, "no lent byte changes" (01)
abbrev pub room_as : Found → List ℕ → List ℕ → List ℕ
room_as (Sheet marked kind before) new old = over new old
room_as (Refused number place) new old = old

abbrev pub original_room : List ℕ → List ℕ → List ℕ
original_room b room = room_as (restored_of b (length room)) (deposit_of (contents_in b)) room
