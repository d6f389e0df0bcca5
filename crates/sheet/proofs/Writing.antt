-- The call that writes a sheet: each answer of the call, and the bytes that it leaves.
-- Assumes nothing.
use mathlib.Core.Path.{◌≡◌, sym, ap, ◌∙◌}
use mathlib.Core.Bool.{false}
use mathlib.Core.List.{List, ◌∷◌, ◌++◌, append_assoc}
use Prim.Native.Nat.{ℕ, ◌≤◌, ◌+◌, ◌-◌}
use native.Mathlib.Omega.{arith}
use borrow.Author.Tests.{lt-ltb, le-ltb, ltb-false}
use lib.Dec.{ltb}
use lib.ListN.{length, take, drop, take-append-drop}
use lib.Seq.{drop-append-le, length-take-le}
use borrow.Rule.Slice.PartMut.{put_mid}
use Rattle.words.specs.Keys.Kind.{known}
use Rattle.words.specs.Keys.Strand.{strand, key_start, key}
use Rattle.words.proofs.Order.Search.{by_test, either, lt_or_ge}
use Rattle.ring.specs.Verdict.{Verdict}
use Rattle.ring.specs.Verdict.{Taken}
use Rattle.ring.specs.declared.answer.Marked.{Marked}
use Rattle.ring.specs.Judging.{Permitted, verdict, number_of, taken, over, after}
use Rattle.ring.specs.Answers.{fewer, done_with, marked_as, lettered_of, lettered_room}
use Rattle.ring.proofs.Laid.{over_two}
use Rattle.ring.proofs.Judging.{says_kind, says_empty}
use Rattle.ring.proofs.Exactly.{number_taken, taken_permitted}
use Rattle.ring.proofs.Numbers.{left_alone}
use Rattle.ring.proofs.MarkLaws.{room_done}
use Rattle.ring.proofs.Verdicts.{number_refused}
use Rattle.ring.proofs.ComparedLemmas.{length-key}
use Rattle.sheet.proofs.Widths.{length_two}
use Rattle.sheet.specs.Sheet.{width, tag, trailer_size, trailer_of, sheet_of, write_verdict, written_of, written_room}

-- where a trailer has its space, room for the letters is room for both; no letters are refused before that
space-verdict : (kind : ℕ) (w : List ℕ) (size : ℕ) → verdict kind w (ltb (size - trailer_size) (length w)) ≡ write_verdict kind w size
space-verdict kind w size =
    either (lt_or_ge 0 (length w))
    (λ p. either (lt_or_ge size (length w + trailer_size))
    (λ h. ap (verdict kind w) (lt-ltb (size - trailer_size) (length w) (omega arith) ∙ sym (lt-ltb size (length w + trailer_size) h)))
    (λ h. ap (verdict kind w) (le-ltb (size - trailer_size) (length w) (omega arith) ∙ sym (le-ltb size (length w + trailer_size) h))))
    (λ p. let z : length w ≡ 0 = omega arith in
    by_test (known kind) (λ k. says_empty kind w _ k z ∙ sym (says_empty kind w _ k z)) (λ k. says_kind kind w _ k ∙ sym (says_kind kind w _ k)))

-- m is answered and x left where the letters had the space before the trailer's
module _ (kind : ℕ) (w room : List ℕ) (space : ℕ) (s : space ≡ length room - trailer_size) (m : Marked)
    (e : m ≡ lettered_of kind w (length (take space room))) (x : List ℕ) (f : x ≡ lettered_room kind w (take space room)) where
  abbrev v : Verdict
  v = write_verdict kind w (length room)

  verdict_is : verdict kind w (fewer (length (take space room)) w) ≡ v
  verdict_is =
      ap (λ n. verdict kind w (ltb n (length w))) (length-take-le space room (omega arith) ∙ s) ∙ space-verdict kind w (length room)

  pub write_answer : m ≡ written_of kind w (length room)
  write_answer = e ∙ ap (λ v. marked_as v kind w) verdict_is

  number_is : m.number ≡ number_of v
  number_is = ap (λ (x : Marked). x.number) write_answer

  pub write_refused : (m.number ≡ 0 → ⊥) → (x ≡ take space room) × (room ≡ written_room kind w room)
  write_refused n =
      let t : taken v ≡ false = number_refused v (λ z. n (number_is ∙ z)) in
      (f ∙ ap (λ v. after v (key kind w) (take space room)) verdict_is ∙ left_alone v (key kind w) (take space room) t, sym (left_alone v (sheet_of kind w) room t))

  module _ (z : m.number ≡ 0) where
    taken_now : v ≡ Taken
    taken_now = number_taken v (sym number_is ∙ z)

    permitted : Permitted kind w
    permitted = (taken_permitted kind w _ taken_now).0

    marks_now : m ≡ done_with (length w) (key_start kind w) (strand kind w)
    marks_now = write_answer ∙ rw taken_now

    pub write_fits : m.n + trailer_size ≤ length room
    write_fits = omega (arith, ap (λ (x : Marked). x.n) marks_now, ltb-false (length room) (length w + trailer_size) (taken_permitted kind w _ taken_now).1)

    key_size : length (key kind w) ≡ m.n
    key_size = length-key kind w permitted.some ∙ sym (ap (λ (x : Marked). x.n) marks_now)

    -- the key in front of the whole room
    key-over : x ++ drop space room ≡ over (key kind w) room
    key-over =
        let K : List ℕ = key kind w in
        let h : length K ≤ length (take space room) = omega (arith, key_size, write_fits, length-take-le space room (omega arith)) in
        ap (λ y. y ++ drop space room) (f ∙ ap (λ v. after v K (take space room)) verdict_is ∙ sym (room_done v taken_now K (take space room)))
        ∙ append_assoc K (drop (length K) (take space room)) (drop space room)
        ∙ ap (λ y. K ++ y) (sym (drop-append-le (length K) (take space room) (drop space room) h) ∙ ap (drop (length K)) (take-append-drop space room))

    -- the key's letters and the trailer behind them are the sheet
    sheet_is : key kind w ++ trailer_of m.n m.start m.strand kind ≡ sheet_of kind w
    unfolding sheet_of
    sheet_is =
        ap (λ (q : Marked). key kind w ++ trailer_of q.n q.start q.strand kind) marks_now
        ∙ ap (λ n. key kind w ++ trailer_of n (key_start kind w) (strand kind w) kind) (sym (length-key kind w permitted.some))

    pub write_done : (one y : List ℕ) → one ≡ x ++ drop space room → y ≡ over (trailer_of m.n m.start m.strand kind) (take (length one - m.n) (drop m.n one))
        → put_mid m.n (length one - m.n) one y ≡ written_room kind w room
    write_done one y eo ey =
        over_two (key kind w) (trailer_of m.n m.start m.strand kind) room one y m.n key_size
        (omega (arith, length_two width m.n m.start (m.strand ∷ kind ∷ tag), write_fits, key_size)) (eo ∙ key-over) ey
        ∙ ap (λ s. over s room) sheet_is ∙ room_done v taken_now (sheet_of kind w) room
