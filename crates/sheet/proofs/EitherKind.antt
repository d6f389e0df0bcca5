-- The sheets of a ring over A, C, G, T written as kind 1 and as kind 2: they differ in the byte that holds the kind.
-- Assumes nothing.
use mathlib.Core.Path.{◌≡◌, refl, sym, ap, ◌∙◌}
use mathlib.Core.Bool.{true}
use mathlib.Core.List.{List, [], ◌∷◌, ◌++◌, append_assoc}
use Prim.Native.Nat.{ℕ, ◌<◌, ◌+◌}
use native.Mathlib.Nat.{zero-add, suc-add}
use borrow.Author.Tests.{eq-eqb}
use lib.Dec.{ltb}
use lib.ListN.{length, drop, set, length-append}
use Rattle.words.specs.Keys.Strand.{strand, key_start, key}
use Rattle.ring.specs.Judging.{taken, number_of, over}
use Rattle.ring.specs.Demands.{OverBases}
use Rattle.ring.proofs.Numbers.{left_alone}
use Rattle.ring.proofs.Verdicts.{number_refused, number_permitted}
use Rattle.ring.proofs.ComparedLemmas.{length-key}
use Rattle.ring.proofs.EitherKind.{verdict_either, strand_either, start_either, key_either, marked_either}
use Rattle.sheet.specs.Sheet.{trailer_size, trailer_of, sheet_of, write_verdict, written_of, written_room}
use Rattle.sheet.specs.Trailer.{kind_at}

-- an entry behind a list
set_behind : (u v : List ℕ) (i x : ℕ) → set (u ++ v) (length u + i) x ≡ u ++ set v i x
set_behind [] v i x = ap (λ k. set v k x) (zero-add i)
set_behind (a ∷ u) v i x = ap (λ k. set (a ∷ (u ++ v)) k x) (suc-add (length u) i) ∙ ap (λ l. a ∷ l) (set_behind u v i x)

-- the byte that holds the kind, behind letters and before what follows
set_kind : (l d : List ℕ) (n at s : ℕ) → (l ++ trailer_of n at s 2) ++ d ≡ set ((l ++ trailer_of n at s 1) ++ d) (length l + kind_at) 2
set_kind l d n at s =
    append_assoc l (trailer_of n at s 2) d ∙ sym (set_behind l (trailer_of n at s 1 ++ d) kind_at 2)
    ∙ ap (λ x. set x (length l + kind_at) 2) (sym (append_assoc l (trailer_of n at s 1) d))

module _ (w : List ℕ) where
  abbrev sheet_as : ℕ → List ℕ
  sheet_as kind = key 1 w ++ trailer_of (length (key 1 w)) (key_start 1 w) (strand 1 w) kind

  second_sheet : sheet_of 2 w ≡ sheet_as 2
  unfolding sheet_of
  second_sheet = rw (key_either w, start_either w, strand_either w)

  first_sheet : sheet_of 1 w ≡ sheet_as 1
  unfolding sheet_of
  first_sheet = refl

  as_long : length (sheet_as 2) ≡ length (sheet_as 1)
  as_long = simp length-append

  -- written over the same room
  sheets_differ : (room : List ℕ) → 0 < length w → over (sheet_of 2 w) room ≡ set (over (sheet_of 1 w) room) (length w + kind_at) 2
  sheets_differ room h =
      ap (λ s. over s room) second_sheet ∙ ap (λ n. sheet_as 2 ++ drop n room) as_long
      ∙ set_kind (key 1 w) (drop (length (sheet_as 1)) room) (length (key 1 w)) (key_start 1 w) (strand 1 w)
      ∙ ap (λ n. set (over (sheet_as 1) room) (n + kind_at) 2) (length-key 1 w h)
      ∙ ap (λ s. set (over s room) (length w + kind_at) 2) (sym first_sheet)

module _ (w : List ℕ) (o : OverBases w) (room : List ℕ) where
  verdicts : write_verdict 2 w (length room) ≡ write_verdict 1 w (length room)
  verdicts = verdict_either w o (ltb (length room) (length w + trailer_size))

  pub answers_either : written_of 2 w (length room) ≡ written_of 1 w (length room)
  answers_either = marked_either w o (ltb (length room) (length w + trailer_size))

  pub refused_either : (number_of (write_verdict 1 w (length room)) ≡ 0 → ⊥) → written_room 2 w room ≡ written_room 1 w room
  refused_either n =
      let e = number_refused (write_verdict 1 w (length room)) n in
      left_alone (write_verdict 2 w (length room)) (sheet_of 2 w) room (ap taken verdicts ∙ e) ∙ sym (left_alone (write_verdict 1 w (length room)) (sheet_of 1 w) room e)

  pub written_either : number_of (write_verdict 1 w (length room)) ≡ 0 → written_room 2 w room ≡ set (written_room 1 w room) (length w + kind_at) 2
  written_either z =
      let e : taken (write_verdict 1 w (length room)) ≡ true = eq-eqb _ 0 z in
      rw (ap taken verdicts ∙ e, e) (sheets_differ w room (number_permitted 1 w _ z).some)
