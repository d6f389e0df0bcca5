-- Each public call on rings as its contract has it: what it was lent, what it answered, and what it left.
-- `proofs/Contracts` shows of the contracts themselves that whatever meets one is such a call.
-- Assumes nothing.
use Rattle.std.specs.Prelude.{◌≡◌, cond, List, ℕ, length}
use Rattle.ring.specs.declared.answer.Checked.{Checked}
use Rattle.ring.specs.declared.answer.Factored.{Factored}
use Rattle.ring.specs.declared.answer.Fought.{Fought}
use Rattle.ring.specs.declared.answer.Repeated.{Repeated}
use Rattle.ring.specs.declared.answer.Marked.{Marked}
use Rattle.ring.specs.declared.answer.Compared.{Compared}
use Rattle.ring.specs.Answers.{checked_of, factored_of, factored_table, filled_of, suffixes_table, starts_table, fought_of, repeated_of, marked_of, lettered_of, lettered_room, key_marks_of, deposited_of, deposit_room, keyed_of, first_room, second_room, key_part, in_second, compared_of}

-- check(w, kind) answers r
pub record CheckCall (w : List ℕ) (kind : ℕ) (r : Checked) : Type 0 where
  pub answer : r ≡ checked_of kind w

-- factors(w, kind, table) answers r and leaves `left` in the table
pub record FactorsCall (w : List ℕ) (kind : ℕ) (table : List ℕ) (r : Factored) (left : List ℕ) : Type 0 where
  pub answer : r ≡ factored_of kind w (length table)
  pub leaves : left ≡ factored_table kind w table

-- suffixes(w, kind, table) answers r and leaves `left` in the table
pub record SuffixesCall (w : List ℕ) (kind : ℕ) (table : List ℕ) (r : Checked) (left : List ℕ) : Type 0 where
  pub answer : r ≡ filled_of kind w (length table)
  pub leaves : left ≡ suffixes_table kind w table

-- starts(w, kind, table) answers r and leaves `left` in the table
pub record StartsCall (w : List ℕ) (kind : ℕ) (table : List ℕ) (r : Checked) (left : List ℕ) : Type 0 where
  pub answer : r ≡ filled_of kind w (length table)
  pub leaves : left ≡ starts_table kind w table

-- duel(w, kind) answers r
pub record DuelCall (w : List ℕ) (kind : ℕ) (r : Fought) : Type 0 where
  pub answer : r ≡ fought_of kind w

-- repeat(w, kind) answers r
pub record RepeatCall (w : List ℕ) (kind : ℕ) (r : Repeated) : Type 0 where
  pub answer : r ≡ repeated_of kind w

-- mark(w, kind) answers r
pub record MarkCall (w : List ℕ) (kind : ℕ) (r : Marked) : Type 0 where
  pub answer : r ≡ marked_of kind w

-- write_letters(w, kind, room) answers r and leaves `left` in the room
pub record WriteLettersCall (w : List ℕ) (kind : ℕ) (room : List ℕ) (r : Marked) (left : List ℕ) : Type 0 where
  pub answer : r ≡ lettered_of kind w (length room)
  pub leaves : left ≡ lettered_room kind w room

-- write_key(w, kind, first, second) answers r and leaves `one` and `two` in the rooms
pub record WriteKeyCall (w : List ℕ) (kind : ℕ) (first second : List ℕ) (r : Marked) (one two : List ℕ) : Type 0 where
  pub answer : r ≡ keyed_of kind w (length first) (length second)
  pub front : one ≡ first_room kind w first (length second)
  pub back : two ≡ second_room kind w (length first) second

-- key(w, kind, first, second), its rooms at the addresses p and q, hands back `part`, which stands at `there`
pub record KeyCall (w : List ℕ) (kind : ℕ) (first second : List ℕ) (p q : ℕ × ℕ) (part : List ℕ) (there : ℕ × ℕ) : Type 0 where
  pub is : part ≡ key_part kind w (length first) (length second)
  pub stands : there ≡ cond (in_second kind w (length first) (length second)) q p

-- check_key(k, kind, at, s) answers r
pub record CheckKeyCall (k : List ℕ) (kind at s : ℕ) (r : Marked) : Type 0 where
  pub answer : r ≡ key_marks_of kind k at s

-- write_deposit(k, kind, at, s, room) answers r and leaves `left` in the room
pub record WriteDepositCall (k : List ℕ) (kind at s : ℕ) (room : List ℕ) (r : Marked) (left : List ℕ) : Type 0 where
  pub answer : r ≡ deposited_of kind k at s (length room)
  pub leaves : left ≡ deposit_room kind k at s room

-- compare(u, v, kind) answers r
pub record CompareCall (u v : List ℕ) (kind : ℕ) (r : Compared) : Type 0 where
  pub answer : r ≡ compared_of kind u v
