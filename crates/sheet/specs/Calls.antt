-- Each public call on sheets and books as its contract has it: what it was lent, what it answered, and what it left.
-- `proofs/Contracts` shows of the contracts themselves that whatever meets one is such a call. What `read` and `walk` are lent are bytes.
-- Assumes nothing.
use Rattle.std.specs.Prelude.{◌≡◌, List, ℕ, ◌+◌, length}
use Rattle.ring.specs.declared.answer.Checked.{Checked}
use Rattle.ring.specs.declared.answer.Marked.{Marked}
use Rattle.sheet.specs.declared.answer.Entry.{Entry}
use Rattle.sheet.specs.declared.answer.Walked.{Walked}
use Rattle.sheet.specs.Sheet.{written_of, written_room}
use Rattle.sheet.specs.Trailer.{Bytes}
use Rattle.sheet.specs.Reader.{entry_of, part_of, original_of, original_room}
use Rattle.sheet.specs.Book.{walked_of}

-- write(w, kind, room) answers r and leaves `left` in the room
pub record WriteCall (w : List ℕ) (kind : ℕ) (room : List ℕ) (r : Marked) (left : List ℕ) : Type 0 where
  pub answer : r ≡ written_of kind w (length room)
  pub leaves : left ≡ written_room kind w room

-- read(b) answers r
pub record ReadCall (b : List ℕ) (r : Entry) : Type 0 where
  pub answer : r ≡ entry_of b
  pub bytes : Bytes b

-- letters(b), with b at the address p, hands back `part`, which stands at `there`
pub record LettersCall (b : List ℕ) (p : ℕ × ℕ) (part : List ℕ) (there : ℕ × ℕ) : Type 0 where
  pub is : part ≡ part_of b
  pub block : there.0 ≡ p.0
  pub stands : there.1 ≡ p.1 + (entry_of b).before

-- original(b, room) answers r and leaves `left` in the room
pub record OriginalCall (b room : List ℕ) (r : Checked) (left : List ℕ) : Type 0 where
  pub answer : r ≡ original_of b (length room)
  pub leaves : left ≡ original_room b room

-- walk(book) answers r
pub record WalkCall (book : List ℕ) (r : Walked) : Type 0 where
  pub answer : r ≡ walked_of book
  pub bytes : Bytes book
