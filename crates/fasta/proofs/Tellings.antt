-- An answer is known by what is told of it: two answers told alike are one.
-- Assumes nothing.
use mathlib.Core.Path.{◌≡◌, refl, sym, ap, ◌∙◌}
use mathlib.Core.Bool.{cond}
use Prim.Native.Nat.{ℕ}
use lib.Dec.{eqb}
use Rattle.std.specs.Prelude.{Option, Some, None, Result, Ok, Err}
use Rattle.fasta.specs.declared.answer.Refusal.{Refusal}
use Rattle.fasta.specs.declared.answer.Refusal.TheVariants.{NoRecord, NoLetters, TooManyLetters, WrongLetter, NoRoom}
use Rattle.fasta.specs.declared.answer.Refused.{Refused}
use Rattle.fasta.specs.declared.answer.Taken.{Taken}
use Rattle.fasta.specs.declared.answer.Parts.{Parts}
use Rattle.fasta.specs.declared.answer.Found.{Found}
use Rattle.fasta.specs.declared.answer.Record.{Record}
use Rattle.fasta.specs.Told.{number_of_refusal, place_of_refusal, told_record, told_found}

-- ---- a record

-- the refusal of a number and a place
abbrev refusal_as : ℕ → ℕ → Refusal
refusal_as k i = cond (eqb k 8) NoRecord (cond (eqb k 1) NoLetters (cond (eqb k 2) TooManyLetters (cond (eqb k 3) (WrongLetter i) NoRoom)))

refusal_back : (r : Refusal) → refusal_as (number_of_refusal r) (place_of_refusal r) ≡ r
refusal_back NoRecord = refl
refusal_back NoLetters = refl
refusal_back TooManyLetters = refl
refusal_back (WrongLetter i) = refl
refusal_back NoRoom = refl

-- the answer of what is told
abbrev record_as : Record → Result Taken Refused
record_as r =
    cond (eqb r.number 0) (Ok (record { n = r.n; header = r.header; rest = r.rest }))
    (Err (record { refusal = refusal_as r.number r.place; rest = r.rest }))

refused_back : (e : Refused) (r : Refusal) → e.refusal ≡ r → record_as (told_record (Err e)) ≡ Err e
refused_back e NoRecord q = rw q
refused_back e NoLetters q = rw q
refused_back e TooManyLetters q = rw q
refused_back e (WrongLetter k) q = rw q
refused_back e NoRoom q = rw q

record_back : (r : Result Taken Refused) → record_as (told_record r) ≡ r
record_back (Ok t) = refl
record_back (Err e) = refused_back e e.refusal refl

pub record_one : (r s : Result Taken Refused) → told_record r ≡ told_record s → r ≡ s
record_one r s e = sym (record_back r) ∙ ap record_as e ∙ record_back s

-- ---- the parts found

abbrev found_as : Found → Option Parts
found_as f = cond (eqb f.number 0) (Some (record { header = f.header; rest = f.rest })) None

found_back : (o : Option Parts) → found_as (told_found o) ≡ o
found_back None = refl
found_back (Some p) = refl

pub found_one : (r s : Option Parts) → told_found r ≡ told_found s → r ≡ s
found_one r s e = sym (found_back r) ∙ ap found_as e ∙ found_back s
