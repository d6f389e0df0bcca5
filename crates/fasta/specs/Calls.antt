-- Each public call on FASTA text as its contract has it: what it was lent, what it answered, and what it left.
-- `proofs/Contracts` shows of the contracts themselves that whatever meets one is such a call.
-- Assumes nothing.
use Rattle.std.specs.Prelude.{◌≡◌, List, ℕ, ◌+◌, length}
use Rattle.fasta.specs.declared.answer.Found.{Found}
use Rattle.fasta.specs.declared.answer.Record.{Record}
use Rattle.fasta.specs.Parts.{header_of, rest_of, header_at, rest_at}
use Rattle.fasta.specs.Answers.{found_of, record_of, record_room}

-- find(text) answers r
pub record FindCall (text : List ℕ) (r : Found) : Type 0 where
  pub answer : r ≡ found_of text

-- record(text, room) answers r and leaves `left` in the room
pub record RecordCall (text room : List ℕ) (r : Record) (left : List ℕ) : Type 0 where
  pub answer : r ≡ record_of text (length room)
  pub leaves : left ≡ record_room text room

-- header(text), with the text at the address p, hands back `part`, which stands at `there`
pub record HeaderCall (text : List ℕ) (p : ℕ × ℕ) (part : List ℕ) (there : ℕ × ℕ) : Type 0 where
  pub is : part ≡ header_of text
  pub block : there.0 ≡ p.0
  pub stands : there.1 ≡ p.1 + header_at text

-- rest(text), with the text at the address p, hands back `part`, which stands at `there`
pub record RestCall (text : List ℕ) (p : ℕ × ℕ) (part : List ℕ) (there : ℕ × ℕ) : Type 0 where
  pub is : part ≡ rest_of text
  pub block : there.0 ≡ p.0
  pub stands : there.1 ≡ p.1 + rest_at text
