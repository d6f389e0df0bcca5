-- What a host finds in its values: the answer's fields without the number, in their order.
-- Assumes nothing.
use Rattle.std.specs.Prelude.{cond, List, [], ◌∷◌, ℕ, ltb, length}
use Rattle.ring.specs.Judging.{over}
use Rattle.ring.specs.declared.answer.Checked.{Checked}
use Rattle.ring.specs.declared.answer.Factored.{Factored}
use Rattle.ring.specs.declared.answer.Fought.{Fought}
use Rattle.ring.specs.declared.answer.Repeated.{Repeated}
use Rattle.ring.specs.declared.answer.Marked.{Marked}
use Rattle.ring.specs.declared.answer.Compared.{Compared}
use Rattle.fasta.specs.declared.answer.Part.{Part}
use Rattle.fasta.specs.declared.answer.Found.{Found}
use Rattle.fasta.specs.declared.answer.Record.{Record}
use Rattle.sheet.specs.declared.answer.Entry.{Entry}
use Rattle.sheet.specs.declared.answer.Walked.{Walked}

-- written to the front; too few values stay as they are
unfoldable pub told : List ℕ → List ℕ → List ℕ
told fields values = cond (ltb (length values) (length fields)) values (over fields values)

abbrev pub checked_fields : Checked → List ℕ
checked_fields a = a.place ∷ []

abbrev pub factored_fields : Factored → List ℕ
factored_fields a = a.place ∷ a.count ∷ a.start ∷ []

abbrev pub fought_fields : Fought → List ℕ
fought_fields a = a.place ∷ a.start ∷ a.pairs ∷ []

abbrev pub repeated_fields : Repeated → List ℕ
repeated_fields a = a.place ∷ a.repeat ∷ []

abbrev pub marked_fields : Marked → List ℕ
marked_fields a = a.place ∷ a.n ∷ a.start ∷ a.strand ∷ []

-- a part: the room it stands in, 0 the first and 1 the second, and its length
abbrev pub key_fields : Marked → List ℕ → List ℕ
key_fields a part = a.strand ∷ length part ∷ []

-- a yes is told as 1, a no as 0
abbrev pub compared_fields : Compared → List ℕ
compared_fields a = a.place ∷ a.ring ∷ cond a.same 1 0 ∷ []

abbrev pub entry_fields : Entry → List ℕ
entry_fields a = a.marked.place ∷ a.marked.n ∷ a.marked.start ∷ a.marked.strand ∷ a.kind ∷ a.before ∷ []

-- the part of a sheet: how many bytes stand before it, and its length
abbrev pub part_fields : Entry → List ℕ → List ℕ
part_fields a part = a.before ∷ length part ∷ []

abbrev pub walked_fields : Walked → List ℕ
walked_fields a = a.place ∷ a.sheets ∷ []

-- each part of a text by its offset and its length
abbrev pub record_fields : Record → List ℕ
record_fields a = a.place ∷ a.n ∷ a.header.offset ∷ a.header.size ∷ a.rest.offset ∷ a.rest.size ∷ []

abbrev pub found_fields : Found → List ℕ
found_fields a = a.place ∷ a.header.offset ∷ a.header.size ∷ a.rest.offset ∷ a.rest.size ∷ []

-- a part handed back: its offset, as `find` has it, and its own length
abbrev pub placed_fields : Part → List ℕ → List ℕ
placed_fields a part = a.offset ∷ length part ∷ []

-- an answer that is a length alone
abbrev pub length_fields : ℕ → List ℕ
length_fields n = n ∷ []
