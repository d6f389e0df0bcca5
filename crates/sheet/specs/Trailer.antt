-- What stands at the end of lent bytes: a sheet, or the number of its refusal (01, "The catalogue sheet", "Order for a sheet").
-- Assumes nothing.
use Rattle.std.specs.Prelude.{Bool, not, ◌||◌, ◌&&◌, List, [], ◌∷◌, ◌++◌, ℕ, ◌+◌, ◌-◌, ◌<◌, ltb, eqb, length, take, drop, get_or}
use Rattle.words.specs.Keys.Kind.{known, stranded}
use Rattle.ring.specs.Rule.{Rule, rule, judged}
use Rattle.ring.specs.Judging.{most, first_bad}
use Rattle.ring.specs.Answers.{done_with}
use Rattle.sheet.specs.Found.{Found}
use Rattle.sheet.specs.Found.{Sheet, Refused}
use Rattle.sheet.specs.declared.trailer.Points.{Points}
use Rattle.sheet.specs.Sheet.{Contents, base, number_in, width, tag_first, tag_last, trailer_size, is_made}

-- what lent bytes hold: each is below 256
abbrev pub Bytes : List ℕ → Type 0
Bytes b = (i : ℕ) → get_or b i 0 < base

-- the last bytes: "a trailer of 8 bytes" (01)
abbrev pub trailer : List ℕ → List ℕ
trailer b = drop (length b - trailer_size) b

-- where the key's start, strand, kind and tag stand in a trailer: each behind what stands before it (01, the table of the sheet)
abbrev pub start_at : ℕ
start_at = width

abbrev pub strand_at : ℕ
strand_at = start_at + width

abbrev pub kind_at : ℕ
kind_at = strand_at + 1

abbrev pub tag_at : ℕ
tag_at = kind_at + 1

-- "n, the way back from the trailer to the first letter" (01)
abbrev pub way_back : List ℕ → ℕ
way_back b = number_in width (trailer b)

-- "how many bytes stand before" (01) the sheet's first letter
abbrev pub before : List ℕ → ℕ
before b = length b - trailer_size - way_back b

-- the letters and marks that the trailer points to
abbrev pub contents_in : List ℕ → Contents
contents_in b = record {
  letters = take (way_back b) (drop (before b) b);
  start = number_in width (drop start_at (trailer b));
  strand = get_or (trailer b) strand_at 0;
  kind = get_or (trailer b) kind_at 0;
}

-- "6 means a kind above 2, and the rest of 6 as before" (02, request 3): "in a sheet also a wrong tag, a strand above 1, or kind 0 with
-- strand 1" (01), the kind without an opposite strand
abbrev pub wrong_as : ℕ → ℕ → ℕ → ℕ → Bool
wrong_as a b kind strand = not (eqb a tag_first) || not (eqb b tag_last) || not (known kind) || ltb 1 strand || eqb strand 1 && not (stranded kind)

unfoldable pub wrong_marks : List ℕ → Bool
wrong_marks t = wrong_as (get_or t tag_at 0) (get_or t (tag_at + 1) 0) (get_or t kind_at 0) (get_or t strand_at 0)

-- the first position, from the sheet's first letter, that holds no letter of the sheet's kind
abbrev pub bad_in : List ℕ → ℕ
bad_in b = first_bad (contents_in b).kind (contents_in b).letters

-- "start, strand, kind and how many bytes stand before" (01): the sheet that the trailer points to
abbrev pub sheet_in : List ℕ → Found
sheet_in b = Sheet (done_with (way_back b) (contents_in b).start (contents_in b).strand) (contents_in b).kind (before b)

-- "Order for a sheet: 5 for fewer than 8 bytes, 6, 1, 2, 5 for the way back" (01), of the trailer alone
abbrev pub form_rules : List ℕ → List (Rule Found)
form_rules b =
    rule (ltb (length b) trailer_size) (Refused 5 0)
    ∷ rule (wrong_marks (trailer b)) (Refused 6 0)
    ∷ rule (eqb (way_back b) 0) (Refused 1 0)
    ∷ rule (ltb most (way_back b)) (Refused 2 0)
    ∷ rule (ltb (length b - trailer_size) (way_back b)) (Refused 5 0)
    ∷ []

-- "3, 7" (01), of the letters that it points to; 7: "the sheet's letters and marks are not what the writer makes for any deposit"
abbrev pub letter_rules : List ℕ → List (Rule Found)
letter_rules b =
    rule (ltb (bad_in b) (length (contents_in b).letters)) (Refused 3 (bad_in b)) ∷ rule (not (is_made (contents_in b))) (Refused 7 0) ∷ []

-- "Order for a sheet: 5 .., 6, 1, 2, 5 for the way back, 3, 7" (01)
abbrev pub sheet_rules : List ℕ → List (Rule Found)
sheet_rules b = form_rules b ++ letter_rules b

-- what the first of these that holds says, or the sheet
unfoldable pub found_of : List ℕ → Found
found_of b = judged (sheet_rules b) (sheet_in b)

-- ---- 01's number and values for each case

abbrev pub number_of : Found → ℕ
number_of (Sheet marked kind before) = 0
number_of (Refused number place) = number

abbrev pub place_of : Found → ℕ
place_of (Sheet marked kind before) = 0
place_of (Refused number place) = place

-- ---- in two steps: the number by the trailer alone, and what it points to

unfoldable pub form_of : List ℕ → ℕ
form_of b = number_of (judged (form_rules b) (sheet_in b))

abbrev pub points_in : List ℕ → Points
points_in b = record { n = way_back b; start = (contents_in b).start; strand = (contents_in b).strand; kind = (contents_in b).kind; before = before b }
