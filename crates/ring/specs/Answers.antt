-- The full answer of each public call on rings, and every lent table or room afterwards, for refused input too.
-- Assumes nothing.
use Rattle.std.specs.Prelude.{◌≡◌, Bool, true, false, cond, not, ◌&&◌, ◌||◌, List, [], ◌∷◌, ◌++◌, ℕ, ◌-◌, ltb, eqb, length}
use Rattle.words.specs.Keys.Kind.{stranded}
use Rattle.words.specs.Rings.Ring.{reading, lowest}
use Rattle.words.specs.Keys.Strand.{opposite, on_strand, strand, key_start, key}
use Rattle.words.specs.Factors.Factor.{factor_table, lowest_entry}
use Rattle.words.specs.Suffixes.Prefix.{suffix_table, start_table}
use Rattle.words.specs.Duels.Duel.{duels, start_of, pairs}
use Rattle.words.specs.Repeats.Repeat.{repeat}
use Rattle.ring.specs.Verdict.{Verdict}
use Rattle.ring.specs.Verdict.{Taken, Short, NotKey}
use Rattle.ring.specs.declared.answer.Checked.{Checked}
use Rattle.ring.specs.declared.answer.Factored.{Factored}
use Rattle.ring.specs.declared.answer.Fought.{Fought}
use Rattle.ring.specs.declared.answer.Repeated.{Repeated}
use Rattle.ring.specs.declared.answer.Marked.{Marked}
use Rattle.ring.specs.declared.answer.Compared.{Compared}
use Rattle.ring.specs.Rule.{rule, judged}
use Rattle.ring.specs.Judging.{Permitted, ring_rules, verdict, taken, number_of, place_of, field, after}

-- 4: a table or room has fewer than n entries (01)
abbrev pub fewer : ℕ → List ℕ → Bool
fewer size w = ltb size (length w)

-- ---- the number and place alone, a ring judged: "The answer carries the number, the place" (01)

abbrev pub checked_as : Verdict → Checked
checked_as v = record { number = number_of v; place = place_of v }

abbrev pub checked_of : ℕ → List ℕ → Checked
checked_of kind w = checked_as (verdict kind w false)

-- ---- the factor route: the number of factors, and the entry whose reading is lowest (01, "The two routes to a start")

abbrev pub factored_as : Verdict → List ℕ → Factored
factored_as v w = record {
  number = number_of v;
  place = place_of v;
  count = field v (length (factor_table w));
  start = field v (lowest_entry w (factor_table w));
}

abbrev pub factored_of : ℕ → List ℕ → ℕ → Factored
factored_of kind w size = factored_as (verdict kind w (fewer size w)) w

abbrev pub factored_table : ℕ → List ℕ → List ℕ → List ℕ
factored_table kind w t = after (verdict kind w (fewer (length t) w)) (factor_table w) t

-- ---- the two prefix tables: "entry L-1 of the suffix table", "entry L-1 of the start table" (01)

abbrev pub filled_of : ℕ → List ℕ → ℕ → Checked
filled_of kind w size = checked_as (verdict kind w (fewer size w))

abbrev pub suffixes_table : ℕ → List ℕ → List ℕ → List ℕ
suffixes_table kind w t = after (verdict kind w (fewer (length t) w)) (suffix_table w) t

abbrev pub starts_table : ℕ → List ℕ → List ℕ → List ℕ
starts_table kind w t = after (verdict kind w (fewer (length t) w)) (start_table w) t

-- ---- the duel route: where the duels end, and the pairs they read (01, "The two routes to a start")

abbrev pub fought_as : Verdict → List ℕ → Fought
fought_as v w = record { number = number_of v; place = place_of v; start = field v (start_of (duels w)); pairs = field v (pairs w) }

abbrev pub fought_of : ℕ → List ℕ → Fought
fought_of kind w = fought_as (verdict kind w false) w

-- ---- the repeat (02, request 2)

abbrev pub repeated_as : Verdict → List ℕ → Repeated
repeated_as v w = record { number = number_of v; place = place_of v; repeat = field v (repeat w) }

abbrev pub repeated_of : ℕ → List ℕ → Repeated
repeated_of kind w = repeated_as (verdict kind w false) w

-- ---- the key

-- the marks n, start and strand of a call that is done
abbrev pub done_with : ℕ → ℕ → ℕ → Marked
done_with n at s = record { number = 0; place = 0; n = n; start = at; strand = s }

-- a call that declines: "other fields are 0" (01)
abbrev pub refusal_of : ℕ → ℕ → Marked
refusal_of number place = record { number = number; place = place; n = 0; start = 0; strand = 0 }

-- marks by a verdict: "other fields are 0" where it declines (01)
abbrev pub marked_by : Verdict → ℕ → ℕ → ℕ → Marked
marked_by v n at s = record { number = number_of v; place = place_of v; n = field v n; start = field v at; strand = field v s }

-- the key's marks
abbrev pub marked_as : Verdict → ℕ → List ℕ → Marked
marked_as v kind w = marked_by v (length w) (key_start kind w) (strand kind w)

abbrev pub marked_of : ℕ → List ℕ → Marked
marked_of kind w = marked_as (verdict kind w false) kind w

-- the same, with the key's letters written to one room
abbrev pub lettered_of : ℕ → List ℕ → ℕ → Marked
lettered_of kind w size = marked_as (verdict kind w (fewer size w)) kind w

abbrev pub lettered_room : ℕ → List ℕ → List ℕ → List ℕ
lettered_room kind w room = after (verdict kind w (fewer (length room) w)) (key kind w) room

-- "For kind 1 both rooms of the key count for 4, for kind 0 the first alone" (01), and kind 2 is "lent both rooms as kind 1 is" (02): the
-- rooms' sizes against the ring
abbrev pub rooms_short : ℕ → ℕ → ℕ → ℕ → Bool
rooms_short kind n first second = ltb first n || stranded kind && ltb second n

-- the order for rings, with 4 for these two rooms
abbrev pub key_verdict : ℕ → List ℕ → ℕ → ℕ → Verdict
key_verdict kind w first second = verdict kind w (rooms_short kind (length w) first second)

abbrev pub keyed_of : ℕ → List ℕ → ℕ → ℕ → Marked
keyed_of kind w first second = marked_as (key_verdict kind w first second) kind w

-- "The first receives the lowest reading as given, the second that of the opposite strand" (01)
abbrev pub first_room : ℕ → List ℕ → List ℕ → ℕ → List ℕ
first_room kind w room second = after (key_verdict kind w (length room) second) (lowest w) room

-- "For kind 0 the second room is neither looked at nor changed" (01)
abbrev pub second_room : ℕ → List ℕ → ℕ → List ℕ → List ℕ
second_room kind w first room = cond (stranded kind) (after (key_verdict kind w first (length room)) (lowest (opposite w)) room) room

-- the part that comes back: the key, or nothing where the call declines (01)
abbrev pub key_part : ℕ → List ℕ → ℕ → ℕ → List ℕ
key_part kind w first second = cond (taken (key_verdict kind w first second)) (key kind w) []

-- it is a part of the second room where it is done and the strand is 1, else of the first (01)
abbrev pub in_second : ℕ → List ℕ → ℕ → ℕ → Bool
in_second kind w first second = eqb (keyed_of kind w first second).strand 1

-- ---- the comparison

-- two lists are the same, as a test
abbrev pub equal : List ℕ → List ℕ → Bool
equal [] [] = true
equal [] (b ∷ v) = false
equal (a ∷ u) [] = false
equal (a ∷ u) (b ∷ v) = cond (eqb a b) (equal u v) false

-- the keys agree
abbrev pub same_key : ℕ → List ℕ → List ℕ → Bool
same_key kind u v = equal (key kind u) (key kind v)

-- the first ring is judged in full before the second; a refused comparison holds no (01)
abbrev pub compared_as : Verdict → Verdict → Bool → Compared
compared_as a b t =
    cond (taken a)
    (cond (taken b) (record { number = 0; place = 0; ring = 0; same = t }) (record { number = number_of b; place = place_of b; ring = 2; same = false }))
    (record { number = number_of a; place = place_of a; ring = 1; same = false })

abbrev pub compared_of : ℕ → List ℕ → List ℕ → Compared
compared_of kind u v = compared_as (verdict kind u false) (verdict kind v false) (same_key kind u v)

-- ---- letters judged as a key

-- some permitted ring of the kind has this key, with this start and strand; where none has, 7: "not what the writer makes for any
-- deposit" (01)
pub record IsKey (kind : ℕ) (k : List ℕ) (at s : ℕ) : Type 0 where
  pub ring : List ℕ
  pub permitted : Permitted kind ring
  pub letters : key kind ring ≡ k
  pub start : key_start kind ring ≡ at
  pub strands : strand kind ring ≡ s

-- the one ring that can have it: turned back from the start, on the strand named
unfoldable pub deposit : List ℕ → ℕ → ℕ → List ℕ
deposit k at s = on_strand s (reading k (length k - at))

-- the same as a test: that ring is permitted and has this key, start and strand
unfoldable pub is_key : ℕ → List ℕ → ℕ → ℕ → Bool
is_key kind k at s =
    let w = deposit k at s in
    taken (verdict kind w false) && equal (key kind w) k && eqb (key_start kind w) at && eqb (strand kind w) s

-- letters judged as a key: "6, 1, 2, .. 3, 7, then 4 for a room lent for the original" (01)
unfoldable pub as_key : ℕ → List ℕ → ℕ → ℕ → Bool → Verdict
as_key kind k at s short = judged (ring_rules kind k ++ rule (not (is_key kind k at s)) NotKey ∷ rule short Short ∷ []) Taken

abbrev pub key_marks_of : ℕ → List ℕ → ℕ → ℕ → Marked
key_marks_of kind k at s = marked_by (as_key kind k at s false) (length k) at s

-- the same with a room for the deposit
abbrev pub deposit_verdict : ℕ → List ℕ → ℕ → ℕ → ℕ → Verdict
deposit_verdict kind k at s size = as_key kind k at s (fewer size k)

abbrev pub deposited_of : ℕ → List ℕ → ℕ → ℕ → ℕ → Marked
deposited_of kind k at s size = marked_by (deposit_verdict kind k at s size) (length k) at s

abbrev pub deposit_room : ℕ → List ℕ → ℕ → ℕ → List ℕ → List ℕ
deposit_room kind k at s room = after (deposit_verdict kind k at s (length room)) (deposit k at s) room
