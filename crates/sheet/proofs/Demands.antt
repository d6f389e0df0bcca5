-- The demands on the calls on sheets and books: read this after `specs/`. Every theorem is about what a public call answers and what it
-- leaves in a lent room; `Contracts` shows that whatever meets a call's contract is such a call.
-- Assumes nothing.
use mathlib.Core.Path.{◌≡◌, refl, sym, ap, ◌∙◌, subst}
use mathlib.Core.List.{List, [], ◌∷◌, ◌++◌}
use Prim.Native.Nat.{ℕ, ◌≤◌, ◌<◌, ◌+◌}
use lib.ListN.{length, take, set}
use Rattle.ring.specs.declared.answer.Checked.{Checked}
use Rattle.ring.specs.declared.answer.Marked.{Marked}
use Rattle.ring.specs.Judging.{Permitted, Given, number_of}
use Rattle.ring.specs.Demands.{AsRuled, lent, OverBases}
use Rattle.sheet.specs.declared.answer.Entry.{Entry}
use Rattle.sheet.specs.declared.answer.Walked.{Walked}
use Rattle.sheet.specs.Sheet.{trailer_size, sheet_of, write_verdict}
use Rattle.sheet.specs.Trailer.{way_back, kind_at}
use Rattle.sheet.specs.Reader.{entry_of}
use Rattle.sheet.specs.Book.{joined, walk_of, walked_as}
use Rattle.sheet.specs.Calls.{WriteCall, ReadCall, LettersCall, OriginalCall, WalkCall}
use Rattle.sheet.specs.Demands.{SheetGiven, OriginalGiven, HandsBack, AllWritten, BookGiven, Holds, RoundTrip, Accepted}
use Rattle.sheet.proofs.Ruled.{written_ruled, entry_ruled, entry_number, part_handed, restored_ruled, walk_as}
use Rattle.sheet.proofs.Rounds.{write_leaves, round_entry, there_and_back, accepted_for}
use Rattle.sheet.proofs.Accepted.{taken-ends}
use Rattle.sheet.proofs.Books as books
use Rattle.sheet.proofs.EitherKind.{answers_either, refused_either, written_either}

-- ==== 1. Every call takes every input; it declines by 01's number, in 01's order, exactly on the stated condition, and a call that
-- declines has changed nothing

pub write_ruled : {w : List ℕ} {kind : ℕ} {room left : List ℕ} {r : Marked} → WriteCall w kind room r left
    → AsRuled (Given kind w (length room < length w + trailer_size)) r.number r.place (r.n ∷ r.start ∷ r.strand ∷ [])
    (lent room left (r.n + trailer_size) ∷ [])
write_ruled {w} {kind} {room} c = rw (c.answer, c.leaves) (written_ruled kind w room)

pub read_ruled : {b : List ℕ} {r : Entry} → ReadCall b r
    → AsRuled (SheetGiven b) r.marked.number r.marked.place (r.marked.n ∷ r.marked.start ∷ r.marked.strand ∷ r.kind ∷ r.before ∷ []) []
read_ruled {b} c = rw c.answer (entry_ruled b)

-- an empty part at the front, or the n letters behind the bytes before
pub letters_handed : {b : List ℕ} {p : ℕ × ℕ} {part : List ℕ} {at : ℕ × ℕ} {r : Entry} → LettersCall b p part at → ReadCall b r → HandsBack b r p part at
letters_handed {b} {p} {part} {at} l c = rw (c.answer, l.is) (part_handed b p at l.block l.stands)

-- 4 last, and the other numbers those of `read`
pub original_ruled : {b room : List ℕ} {r : Checked} {left : List ℕ} → OriginalCall b room r left
    → AsRuled (OriginalGiven b (length room)) r.number r.place [] (lent room left (way_back b) ∷ [])
original_ruled {b} {room} c = rw (c.answer, c.leaves) (restored_ruled b room)

pub walk_ruled : {b : List ℕ} {r : Walked} → WalkCall b r → AsRuled (BookGiven b) r.number r.place (r.sheets ∷ []) []
walk_ruled {b} c = rw c.answer (walk_as (BookGiven b) (walk_of b) (books.book_exactly b c.bytes))

-- "sheets joined one behind another are walked back to just those sheets" (01): they are counted
pub walk_counts : {b : List ℕ} {r : Walked} → WalkCall b r → (ss : List (List ℕ)) → AllWritten ss → joined ss ≡ b → (r.number ≡ 0) × (r.sheets ≡ length ss)
walk_counts c ss a e =
    let w = c.answer ∙ ap walked_as (ap walk_of (sym e) ∙ books.walk_joined ss a) in
    (ap (λ (x : Walked). x.number) w, ap (λ (x : Walked). x.sheets) w)

-- and a book that is not refused is such sheets, and no others make it
pub walk_holds : {b : List ℕ} {r : Walked} → WalkCall b r → r.number ≡ 0 → Holds b r.sheets
walk_holds {b} {r} c z = books.given_holds b r.sheets (((walk_ruled c).exactly 0 r.place).0 (z, refl)) refl (λ ss a e. (walk_counts c ss a e).1)

-- "A book of 0 bytes holds 0 sheets" (01)
pub walk_nothing : {r : Walked} → WalkCall [] r → (r.number ≡ 0) × (r.sheets ≡ 0)
walk_nothing c = walk_counts c [] tt refl

-- ==== 2. What is written is read back, and what is read is what is written

-- whatever stands before it, what `write` leaves is read to its marks, kind, key and deposit
pub round_trip : {kind : ℕ} {w pre b room left room2 left2 part : List ℕ} {m : Marked} {r : Entry} {o : Checked} {p at : ℕ × ℕ}
    → Permitted kind w → length w + trailer_size ≤ length room → WriteCall w kind room m left
    → b ≡ pre ++ take (length w + trailer_size) left → ReadCall b r → LettersCall b p part at
    → length w ≤ length room2 → OriginalCall b room2 o left2 → RoundTrip kind w pre m r part o left2
round_trip {kind} {w} {pre} {b} {room} {left} {room2} {left2} {part} {m} {r} {o} {p} {at} permitted h c e d l k f =
    let x = write_leaves kind w permitted room m left c h in
    let y = e ∙ ap (λ s. pre ++ s) x.1 in
    there_and_back kind w permitted pre m r p at part room2 o left2 x.0 (d.answer ∙ ap entry_of y)
    (subst (λ b. LettersCall b p part at) y l) (subst (λ b. OriginalCall b room2 o left2) y f) k

-- what `read` takes is the very sheet that `write` makes for a deposit, and `original` gives the deposit back
pub accepted : {b : List ℕ} {r : Entry} → ReadCall b r → r.marked.number ≡ 0 → Accepted b r
accepted {b} {r} c z =
    let s = taken-ends b c.bytes (sym (entry_number b) ∙ ap (λ (x : Entry). x.marked.number) (sym c.answer) ∙ z) in
    let e = c.answer ∙ ap entry_of (sym s.are) ∙ round_entry s.front s.kind s.deposit s.permitted in
    subst (λ b. Accepted b r) s.are (subst (Accepted (s.front ++ sheet_of s.kind s.deposit)) (sym e) (accepted_for s.kind s.deposit s.permitted s.front))

-- ==== 3. The sheets of a ring over A, C, G, T, written as kind 1 and as kind 2, differ in the byte that holds the kind alone (02, request 3)

pub write_either : {w room one two : List ℕ} {q r : Marked} → OverBases w → WriteCall w 1 room q one → WriteCall w 2 room r two
    → (r ≡ q) × ((q.number ≡ 0 → ⊥) → two ≡ one) × (q.number ≡ 0 → two ≡ set one (length w + kind_at) 2)
write_either {w} {room} {one} {two} {q} o c d =
    let said : q.number ≡ number_of (write_verdict 1 w (length room)) = ap (λ (m : Marked). m.number) c.answer in (
      d.answer ∙ answers_either w o room ∙ sym c.answer,
      (λ n. d.leaves ∙ refused_either w o room (λ z. n (said ∙ z)) ∙ sym c.leaves),
      (λ z. d.leaves ∙ written_either w o room (sym said ∙ z) ∙ ap (λ x. set x (length w + kind_at) 2) (sym c.leaves)),
    )
