-- What 01's table makes of a call: of one that answers by a verdict, by what is found, or by where a walk ends.
-- Assumes nothing.
use mathlib.Core.Path.{◌≡◌, refl, sym, ap, ◌∙◌, subst}
use mathlib.Core.Logic.{◌↔◌}
use mathlib.Core.Bool.{true}
use mathlib.Core.List.{List, [], ◌∷◌}
use Prim.Native.Nat.{ℕ, ◌≤◌, ◌<◌, ◌+◌}
use native.Mathlib.Omega.{arith}
use borrow.Author.Tests.{ltb-false, eqb-true, eqb-false}
use lib.Dec.{ltb, eqb}
use lib.ListN.{length}
use Rattle.words.proofs.Order.Search.{by_test}
use Rattle.ring.specs.Verdict.{Taken}
use Rattle.ring.specs.Judging.{Given, taken}
use Rattle.ring.specs.Demands.{AsRuled, lent}
use Rattle.ring.proofs.Exactly.{taken_is, taken_permitted}
use Rattle.ring.proofs.ComparedLemmas.{length-key}
use Rattle.ring.proofs.Deposit.{deposit_back}
use Rattle.ring.proofs.Numbers.{ruled, too_few, left_alone, written_beyond}
use Rattle.sheet.specs.Found.{Found}
use Rattle.sheet.specs.Found.{Sheet, Refused}
use Rattle.sheet.specs.Sheet.{Contents, trailer_size, sheet_of, deposit_of, write_verdict, written_of, written_room}
use Rattle.sheet.specs.Trailer.{way_back, contents_in, sheet_in, found_of}
use Rattle.sheet.specs.Trailer as at-end
use Rattle.sheet.specs.Reader.{entry_as, entry_of, part_as, part_of, restored_of, original_of, room_as, original_room}
use Rattle.sheet.specs.Book.{Walk, through, stopped, walked_as}
use Rattle.sheet.specs.Demands.{Reaches, Made, SheetGiven, OriginalGiven, HandsBack}
use Rattle.sheet.proofs.Replies.{refused_is}
use Rattle.sheet.proofs.Numbers.{letters_size, sheet_found, taken_sheet, sheet_exactly, original_exactly, restored_sheet}
use Rattle.sheet.proofs.Rounds.{size_written}

-- ---- the writer

module _ (kind : ℕ) (w room : List ℕ) where
  -- done, it has written n bytes and the trailer's, and they were there
  done_size : taken (write_verdict kind w (length room)) ≡ true
      → ((written_of kind w (length room)).n + trailer_size ≡ length (sheet_of kind w)) × ((written_of kind w (length room)).n + trailer_size ≤ length room)
  done_size t =
      let p = taken_permitted kind w (ltb (length room) (length w + trailer_size)) (taken_is _ t) in
      rw t (sym (size_written kind w p.0), ltb-false (length room) (length w + trailer_size) p.1)

  pub written_ruled : AsRuled (Given kind w (length room < length w + trailer_size)) (written_of kind w (length room)).number (written_of kind w (length room)).place
      ((written_of kind w (length room)).n ∷ (written_of kind w (length room)).start ∷ (written_of kind w (length room)).strand ∷ [])
      (lent room (written_room kind w room) ((written_of kind w (length room)).n + trailer_size) ∷ [])
  written_ruled =
      ruled kind w (ltb (length room) (length w + trailer_size)) (too_few (length room) (length w + trailer_size)) _ _
      (λ t. ((rw t, (rw t, (rw t, tt))), (left_alone (write_verdict kind w (length room)) (sheet_of kind w) room t, tt)))
      (λ t. (written_beyond (write_verdict kind w (length room)) (sheet_of kind w) room _ (done_size t).0 (done_size t).1 t, tt))

-- ---- by what is found

-- what holds of the sheet that the trailer points to and of every refusal holds of what is found
by_found : (b : List ℕ) (P : Found → Type 0) → P (sheet_in b) → ((k i : ℕ) → P (Refused k i)) → P (found_of b)
by_found b P s r =
    by_test (eqb (at-end.number_of (found_of b)) 0)
    (λ t. let m = taken_sheet b (eqb-true _ _ t) in subst P (sheet_found b m.0 m.1) s)
    (λ t. subst P (sym (refused_is (found_of b) (eqb-false _ _ t))) (r _ _))

-- an entry: refused, every other field is 0
abbrev EntryRuled : (ℕ → ℕ → Type 0) → Found → Type 0
EntryRuled Table f =
    ((k i : ℕ) → ((at-end.number_of f ≡ k) × (at-end.place_of f ≡ i)) ↔ Table k i)
    → AsRuled Table (entry_as f).marked.number (entry_as f).marked.place
    ((entry_as f).marked.n ∷ (entry_as f).marked.start ∷ (entry_as f).marked.strand ∷ (entry_as f).kind ∷ (entry_as f).before ∷ []) []

pub entry_ruled : (b : List ℕ) → AsRuled (SheetGiven b) (entry_of b).marked.number (entry_of b).marked.place
    ((entry_of b).marked.n ∷ (entry_of b).marked.start ∷ (entry_of b).marked.strand ∷ (entry_of b).kind ∷ (entry_of b).before ∷ []) []
entry_ruled b =
    by_found b (EntryRuled (SheetGiven b)) (λ x. record { exactly = x; refused = λ h. absurd (h refl); beyond = λ e. tt })
    (λ k i x. record { exactly = x; refused = λ h. ((refl, (refl, (refl, (refl, (refl, tt))))), tt); beyond = λ e. tt }) (sheet_exactly b)

pub entry_number : (b : List ℕ) → (entry_of b).marked.number ≡ at-end.number_of (found_of b)
entry_number b = by_found b (λ f. (entry_as f).marked.number ≡ at-end.number_of f) refl (λ k i. refl)

-- the part beside the entry
pub part_handed : (b : List ℕ) (p at : ℕ × ℕ) → at.0 ≡ p.0 → at.1 ≡ p.1 + (entry_of b).before → HandsBack b (entry_of b) p (part_of b) at
part_handed b p at e =
    by_found b (λ f. at.1 ≡ p.1 + (entry_as f).before → HandsBack b (entry_as f) p (part_as b f) at)
    (λ g. record { refused = λ h. absurd (h refl); done = λ z. (refl, λ i. (e i, g i)) })
    (λ k i g. let h : at.1 ≡ p.1 = omega arith in record { refused = λ n. (refl, λ j. (e j, h j)); done = λ z. (refl, λ j. (e j, g j)) })

-- a room: written from its front, or left alone
room_as_lem : (Table : ℕ → ℕ → Type 0) (f : Found) → ((k i : ℕ) → ((at-end.number_of f ≡ k) × (at-end.place_of f ≡ i)) ↔ Table k i)
    → (new old : List ℕ) (n : ℕ) → (at-end.number_of f ≡ 0 → (n ≡ length new) × (n ≤ length old))
    → AsRuled Table (at-end.number_of f) (at-end.place_of f) [] (lent old (room_as f new old) n ∷ [])
room_as_lem Table (Sheet marked kind before) x new old n h =
    record { exactly = x; refused = λ z. absurd (z refl); beyond = λ e. (written_beyond Taken new old n (h refl).0 (h refl).1 refl, tt) }
room_as_lem Table (Refused number place) x new old n h = record { exactly = x; refused = λ z. (tt, (refl, tt)); beyond = λ e. ((refl, refl), tt) }

-- the deposit has as many letters as the sheet
deposit_size : (b : List ℕ) → Reaches b → Made b → way_back b ≡ length (deposit_of (contents_in b))
deposit_size b r m =
    let d : deposit_of (contents_in b) ≡ m.deposit = ap deposit_of (sym m.is) ∙ deposit_back m.kind m.deposit m.permitted in
    omega (arith, letters_size b r, ap (λ (x : Contents). length x.letters) m.is, length-key m.kind m.deposit m.permitted.some, ap length d)

pub restored_ruled : (b room : List ℕ) → AsRuled (OriginalGiven b (length room)) (original_of b (length room)).number (original_of b (length room)).place []
    (lent room (original_room b room) (way_back b) ∷ [])
restored_ruled b room =
    room_as_lem (OriginalGiven b (length room)) (restored_of b (length room)) (original_exactly b (length room)) (deposit_of (contents_in b)) room (way_back b)
    (λ z. let s = restored_sheet b (length room) z in (deposit_size b s.0.0.reaches s.0.1, s.1))

-- ---- by where a walk ends

pub walk_as : (Table : ℕ → ℕ → Type 0) (v : Walk) → ((k i : ℕ) → (((walked_as v).number ≡ k) × ((walked_as v).place ≡ i)) ↔ Table k i)
    → AsRuled Table (walked_as v).number (walked_as v).place ((walked_as v).sheets ∷ []) []
walk_as Table (through ss) x = record { exactly = x; refused = λ n. absurd (n refl); beyond = λ e. tt }
walk_as Table (stopped number place) x = record { exactly = x; refused = λ n. ((refl, tt), tt); beyond = λ e. tt }
