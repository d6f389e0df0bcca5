-- What the theorems of `proofs/Demands` say of the calls on sheets and books: 01's table of their refusals, the way there and back.
-- Assumes nothing.
use Rattle.std.specs.Prelude.{◌≡◌, true, false, List, [], ◌∷◌, ◌++◌, ℕ, ◌≤◌, ◌<◌, ◌+◌, ◌-◌, length, take, drop, get_or}
use Rattle.words.specs.Keys.Kind.{known, is_letter}
use Rattle.words.specs.Keys.Strand.{key}
use Rattle.ring.specs.declared.answer.Checked.{Checked}
use Rattle.ring.specs.declared.answer.Marked.{Marked}
use Rattle.ring.specs.Judging.{most, Permitted}
use Rattle.sheet.specs.declared.answer.Entry.{Entry}
use Rattle.sheet.specs.Sheet.{tag_first, tag_last, trailer_size, contents_of, Written}
use Rattle.sheet.specs.Trailer.{trailer, strand_at, kind_at, tag_at, way_back, contents_in}
use Rattle.sheet.specs.Book.{joined}
use Rattle.sheet.specs.Calls.{WriteCall, OriginalCall}

-- ---- demand 1: 01's table for a sheet, "Order for a sheet: 5 for fewer than 8 bytes, 6, 1, 2, 5 for the way back, 3, 7"

-- 6 in a sheet, of its trailer: "6 means a kind above 2, and the rest of 6 as before" (02, request 3): "in a sheet also a wrong tag, a strand
-- above 1, or kind 0 with strand 1" (01)
pub data Wrong (t : List ℕ) : Type 0 where
  first_of_tag : (get_or t tag_at 0 ≡ tag_first → ⊥) → Wrong t
  last_of_tag : (get_or t (tag_at + 1) 0 ≡ tag_last → ⊥) → Wrong t
  no_kind : known (get_or t kind_at 0) ≡ false → Wrong t
  strand_above : 1 < get_or t strand_at 0 → Wrong t
  feature_strand : get_or t kind_at 0 ≡ 0 → get_or t strand_at 0 ≡ 1 → Wrong t

-- a trailer is there, and 6 is not given
pub record Trailed (b : List ℕ) : Type 0 where
  pub long : trailer_size ≤ length b
  pub right : Wrong (trailer b) → ⊥

-- it points to letters that are there, and neither 1 nor 2 is given
pub record Reaches (b : List ℕ) : Type 0 where
  pub trailed : Trailed b
  pub some : 0 < way_back b
  pub within : way_back b ≤ most
  pub reach : way_back b ≤ length b - trailer_size

-- each of them is a letter of the sheet's kind
pub record Lettered (b : List ℕ) : Type 0 where
  pub reaches : Reaches b
  pub letters : (i : ℕ) → i < way_back b → is_letter (contents_in b).kind (get_or (contents_in b).letters i 0) ≡ true

-- the sheet's letters and marks are what the writer makes for a deposit
pub record Made (b : List ℕ) : Type 0 where
  pub kind : ℕ
  pub deposit : List ℕ
  pub permitted : Permitted kind deposit
  pub is : contents_of kind deposit ≡ contents_in b

-- each number when its condition holds and none before it in the order, with its place
pub data SheetGiven (b : List ℕ) : ℕ → ℕ → Type 0 where
  few : length b < trailer_size → SheetGiven b 5 0
  wrong : trailer_size ≤ length b → Wrong (trailer b) → SheetGiven b 6 0
  none : Trailed b → way_back b ≡ 0 → SheetGiven b 1 0
  many : Trailed b → most < way_back b → SheetGiven b 2 0
  far : Trailed b → 0 < way_back b → way_back b ≤ most → length b - trailer_size < way_back b → SheetGiven b 5 0
  -- the place is the first such position, counted from the sheet's first letter
  letter : Reaches b → (i : ℕ) → i < way_back b → is_letter (contents_in b).kind (get_or (contents_in b).letters i 0) ≡ false
      → ((j : ℕ) → j < i → is_letter (contents_in b).kind (get_or (contents_in b).letters j 0) ≡ true) → SheetGiven b 3 i
  unmade : Lettered b → (Made b → ⊥) → SheetGiven b 7 0
  sheet : Lettered b → Made b → SheetGiven b 0 0

-- "then 4 for a room lent for the original", "original: fewer than n" (01)
pub data OriginalGiven (b : List ℕ) (size : ℕ) : ℕ → ℕ → Type 0 where
  as_read : {k i : ℕ} → SheetGiven b k i → (k ≡ 0 → ⊥) → OriginalGiven b size k i
  lacking : SheetGiven b 0 0 → size < way_back b → OriginalGiven b size 4 0
  done : SheetGiven b 0 0 → way_back b ≤ size → OriginalGiven b size 0 0

-- what `letters` hands back, beside what `read` answers on the same bytes at the address p
pub record HandsBack (b : List ℕ) (r : Entry) (p : ℕ × ℕ) (part : List ℕ) (there : ℕ × ℕ) : Type 0 where
  -- "A declined call hands back an empty part at the front of the lent bytes" (01)
  pub refused : (r.marked.number ≡ 0 → ⊥) → (part ≡ []) × (there ≡ p)
  -- "The answer gives the key as a part of the lent bytes" (01)
  pub done : r.marked.number ≡ 0 → (part ≡ take r.marked.n (drop r.before b)) × (there ≡ (p.0, p.1 + r.before))

-- each of a list is a sheet that the writer makes
abbrev pub AllWritten : List (List ℕ) → Type 0
AllWritten [] = Unit {0}
AllWritten (s ∷ ss) = Written s × AllWritten ss

-- a book is sheets that the writer makes, one behind another; or some bytes that are refused as a sheet, and then such sheets: "a
-- refusal there ends the walk and refuses the book with that number" (01)
pub data BookGiven (b : List ℕ) : ℕ → ℕ → Type 0 where
  sheets : (ss : List (List ℕ)) → AllWritten ss → joined ss ≡ b → BookGiven b 0 0
  stops : {k i : ℕ} (front : List ℕ) (ss : List (List ℕ)) → 0 < length front → SheetGiven front k i → (k ≡ 0 → ⊥)
      → AllWritten ss → front ++ joined ss ≡ b → BookGiven b k i

-- a book holds n sheets, just those and no others: "sheets joined one behind another are walked back to just those sheets" (01)
pub record Holds (b : List ℕ) (n : ℕ) : Type 0 where
  pub found : List (List ℕ)
  pub written : AllWritten found
  pub are : joined found ≡ b
  pub counted : n ≡ length found
  pub only : (ss : List (List ℕ)) → AllWritten ss → joined ss ≡ b → ss ≡ found

-- ---- demand 2: there and back

-- behind whatever stands before, the sheet that `write` left is read to its marks m, kind, key and deposit
pub record RoundTrip (kind : ℕ) (w pre : List ℕ) (m : Marked) (r : Entry) (part : List ℕ) (o : Checked) (left : List ℕ) : Type 0 where
  pub entry : r ≡ record { marked = m; kind = kind; before = length pre }
  pub letters : part ≡ key kind w
  pub answer : o ≡ record { number = 0; place = 0 }
  pub original : take (length w) left ≡ w

-- the bytes that a reader takes are the very bytes that `write` makes for a deposit, and `original` gives that deposit back
pub record Accepted (b : List ℕ) (r : Entry) : Type 0 where
  pub deposit : List ℕ
  pub permitted : Permitted r.kind deposit
  pub size : length deposit ≡ r.marked.n
  pub bytes : (room : List ℕ) (m : Marked) (left : List ℕ) → WriteCall deposit r.kind room m left → length deposit + trailer_size ≤ length room
      → (m ≡ r.marked) × (take (length deposit + trailer_size) left ≡ drop r.before b)
  pub original : (room : List ℕ) (o : Checked) (left : List ℕ) → OriginalCall b room o left → length deposit ≤ length room
      → (o ≡ record { number = 0; place = 0 }) × (take (length deposit) left ≡ deposit)
