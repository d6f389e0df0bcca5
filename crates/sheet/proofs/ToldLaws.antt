-- Answers told in 01's numbers: no two are told alike, and a refusal by the ring rules is told as they tell it.
-- Assumes nothing.
use Rattle.std.proofs.Common.{◌≡◌, refl, sym, ◌∙◌, ap, true, false, cond, ℕ, Result, Ok, Err, eqb}
use native.Mathlib.Omega.{arith}
use borrow.Author.Tests.{eqb-true, eqb-false, leb-true}
use Rattle.words.specs.Keys.Kind.{known}
use Rattle.words.proofs.Order.Search.{by_test}
use Rattle.ring.specs.declared.refusals.Refusal as ringed
use Rattle.ring.specs.declared.refusals.Refusal.TheVariants as in-ring
use Rattle.ring.specs.declared.kind.Kind.{Kind}
use Rattle.ring.specs.declared.kind.Kind.TheVariants.{Feature, Base, Iupac}
use Rattle.ring.proofs.ToldLaws.{strand_from, strand_back, had_back}
use Rattle.ring.specs.Judging.{number_of, place_of}
use Rattle.ring.specs.Numbered.{kind_number, kind_numbered}
use Rattle.ring.specs.Told.{verdict_of}
use Rattle.sheet.specs.declared.answer.Entry.{Entry}
use Rattle.sheet.specs.declared.outcome.Sheet as done
use Rattle.sheet.specs.declared.refusals.Refusal.{Refusal}
use Rattle.sheet.specs.declared.refusals.Refusal.TheVariants.{NoLetters, TooManyLetters, WrongLetter, NoRoom, Torn, WrongMarks, NotMade}
use Rattle.sheet.specs.Told.{number_told, place_told, of_ring, told_refusal, told_check, told_sheet, told_walk}

-- ---- each answer had back from its numbers

-- the refusal with this number and place
abbrev refusal_from : ℕ → ℕ → Refusal
refusal_from n i =
    cond (eqb n 1) NoLetters
    (cond (eqb n 2) TooManyLetters
    (cond (eqb n 3) (WrongLetter i) (cond (eqb n 4) NoRoom (cond (eqb n 5) Torn (cond (eqb n 6) WrongMarks NotMade)))))

refusal_back : (e : Refusal) → refusal_from (number_told e) (place_told e) ≡ e
refusal_back NoLetters = refl
refusal_back TooManyLetters = refl
refusal_back (WrongLetter i) = refl
refusal_back NoRoom = refl
refusal_back Torn = refl
refusal_back WrongMarks = refl
refusal_back NotMade = refl

-- no refusal has the number 0
refused : (e : Refusal) → eqb (number_told e) 0 ≡ false
refused NoLetters = refl
refused TooManyLetters = refl
refused (WrongLetter i) = refl
refused NoRoom = refl
refused Torn = refl
refused WrongMarks = refl
refused NotMade = refl

pub refused_number : (e : Refusal) → number_told e ≡ 0 → ⊥
refused_number e = eqb-false (number_told e) 0 (refused e)

-- what was answered, from the number, the place and what the fields hold
abbrev answer_from : {A : Type 0} → ℕ → ℕ → A → Result A Refusal
answer_from n i x = cond (eqb n 0) (Ok x) (Err (refusal_from n i))

refused_back : {A : Type 0} (e : Refusal) (x : A) → answer_from (number_told e) (place_told e) x ≡ Err e
refused_back e x = rw (refused e) (ap Err (refusal_back e))

abbrev kind_from : ℕ → Kind
kind_from n = cond (eqb n 0) Feature (cond (eqb n 1) Base Iupac)

kind_back : (k : Kind) → kind_from (kind_number k) ≡ k
kind_back Feature = refl
kind_back Base = refl
kind_back Iupac = refl

-- the sheet with these numbers
abbrev sheet_from : Entry → done.Sheet
sheet_from a = record {
  marks = record { n = a.marked.n; start = a.marked.start; strand = strand_from a.marked.strand };
  kind = kind_from a.kind;
  before = a.before;
}

check_back : (r : Result Unit Refusal) → answer_from (told_check r).number (told_check r).place tt ≡ r
check_back (Ok tt) = refl
check_back (Err e) = refused_back e tt

sheet_back : (r : Result done.Sheet Refusal) → let a = told_sheet r in answer_from a.marked.number a.marked.place (sheet_from a) ≡ r
sheet_back (Ok s) =
    ap (λ x. Ok (record { marks = record { n = s.marks.n; start = s.marks.start; strand = x }; kind = kind_from (kind_number s.kind); before = s.before })) (strand_back s.marks.strand)
    ∙ ap (λ x. Ok (record { marks = s.marks; kind = x; before = s.before })) (kind_back s.kind)
sheet_back (Err e) = refused_back e _

walk_back : (r : Result ℕ Refusal) → let a = told_walk r in answer_from a.number a.place a.sheets ≡ r
walk_back (Ok n) = refl
walk_back (Err e) = refused_back e _

-- ---- so two answers that are told alike are one

pub check_one : (r s : Result Unit Refusal) → told_check r ≡ told_check s → r ≡ s
check_one = had_back (λ a. answer_from a.number a.place tt) told_check check_back

pub sheet_one : (r s : Result done.Sheet Refusal) → told_sheet r ≡ told_sheet s → r ≡ s
sheet_one = had_back (λ a. answer_from a.marked.number a.marked.place (sheet_from a)) told_sheet sheet_back

pub walk_one : (r s : Result ℕ Refusal) → told_walk r ≡ told_walk s → r ≡ s
walk_one = had_back (λ a. answer_from a.number a.place a.sheets) told_walk walk_back

-- ---- a refusal by the ring rules, of a sheet

pub of_ring_told : (e : ringed.Refusal) → told_refusal (of_ring e) ≡ record { number = number_of (verdict_of e); place = place_of (verdict_of e) }
of_ring_told in-ring.NoLetters = refl
of_ring_told in-ring.TooManyLetters = refl
of_ring_told (in-ring.WrongLetter i) = refl
of_ring_told in-ring.NoRoom = refl
of_ring_told in-ring.UnknownKind = refl
of_ring_told in-ring.NoKey = refl

-- ---- the kind of a known number

known_kind : (n : ℕ) → known n ≡ true → kind_numbered n ≡ Ok (kind_from n)
known_kind n k =
    by_test (eqb n 0) (λ a. rw a)
    (λ a. by_test (eqb n 1) (λ b. rw (a, b))
    (λ b. by_test (eqb n 2) (λ d. rw (a, b, d)) (λ d. absurd (omega (arith, leb-true n 2 k, eqb-false n 0 a, eqb-false n 1 b, eqb-false n 2 d)))))

kind_from_number : (n : ℕ) → known n ≡ true → kind_number (kind_from n) ≡ n
kind_from_number n k =
    by_test (eqb n 0) (λ a. rw a (sym (eqb-true n 0 a)))
    (λ a. by_test (eqb n 1) (λ b. rw (a, b) (sym (eqb-true n 1 b)))
    (λ b. rw (a, b) (omega (arith, leb-true n 2 k, eqb-false n 0 a, eqb-false n 1 b))))

pub kind_given : (n : ℕ) → known n ≡ true → (x : Kind) → Ok x ≡ kind_numbered n → kind_number x ≡ n
kind_given n k x e = let h : Ok x ≡ Ok (kind_from n) = e ∙ known_kind n k in let i : x ≡ kind_from n = cc in ap kind_number i ∙ kind_from_number n k

pub kind_refused : (n : ℕ) → known n ≡ true → (e : ringed.Refusal) → Err e ≡ kind_numbered n → ⊥
kind_refused n k e f = let h : Err e ≡ Ok (kind_from n) = f ∙ known_kind n k in cc
