-- Answers told in 01's numbers: no two are told alike, and a refusal is told as its verdict has it.
-- Assumes nothing.
use Rattle.std.proofs.Common.{◌≡◌, refl, sym, ◌∙◌, ap, Bool, false, cond, ℕ, Result, Ok, Err, eqb, MatchResult}
use Rattle.ring.specs.Verdict.{Taken}
use Rattle.ring.specs.declared.refusals.Refusal.{Refusal}
use Rattle.ring.specs.declared.refusals.Refusal.TheVariants.{NoLetters, TooManyLetters, WrongLetter, NoRoom, UnknownKind, NoKey}
use Rattle.ring.specs.declared.refusals.NotCompared.{NotCompared}
use Rattle.ring.specs.declared.refusals.NotCompared.TheVariants.{First, Second}
use Rattle.ring.specs.declared.strand.Strand.{Strand}
use Rattle.ring.specs.declared.strand.Strand.TheVariants.{Given, Opposite}
use Rattle.ring.specs.declared.outcome.Factors.{Factors}
use Rattle.ring.specs.declared.outcome.Duels.{Duels}
use Rattle.ring.specs.declared.outcome.Marks.{Marks}
use Rattle.ring.specs.declared.answer.Compared.{Compared}
use Rattle.ring.specs.Judging.{number_of, place_of, taken}
use Rattle.ring.specs.Numbered.{strand_number}
use Rattle.ring.specs.Told.{verdict_of, said, told_check, told_factors, told_duels, told_repeat, told_marks, told_compare}

-- ---- each answer had back from its numbers

-- the refusal with this number and place
abbrev refusal_from : ℕ → ℕ → Refusal
refusal_from n i =
    cond (eqb n 1) NoLetters (cond (eqb n 2) TooManyLetters (cond (eqb n 3) (WrongLetter i) (cond (eqb n 4) NoRoom (cond (eqb n 6) UnknownKind NoKey))))

refusal_back : (e : Refusal) → refusal_from (number_of (verdict_of e)) (place_of (verdict_of e)) ≡ e
refusal_back NoLetters = refl
refusal_back TooManyLetters = refl
refusal_back (WrongLetter i) = refl
refusal_back NoRoom = refl
refusal_back UnknownKind = refl
refusal_back NoKey = refl

-- no refusal has the number 0
pub refused : (e : Refusal) → taken (verdict_of e) ≡ false
refused NoLetters = refl
refused TooManyLetters = refl
refused (WrongLetter i) = refl
refused NoRoom = refl
refused UnknownKind = refl
refused NoKey = refl

-- an answer that is no refusal says that the ring is taken
pub ok_said : {A : Type 0} (r : Result A Refusal) (P : A → Type 0) (Q : Refusal → Type 0) → MatchResult r P Q → ((e : Refusal) → Q e → ⊥) → said r ≡ Taken
ok_said (Ok a) P Q m n = refl
ok_said (Err e) P Q m n = absurd (n e m)

-- what was answered, from the number, the place and what the fields hold
abbrev answer_from : {A : Type 0} → ℕ → ℕ → A → Result A Refusal
answer_from n i x = cond (eqb n 0) (Ok x) (Err (refusal_from n i))

refused_back : {A : Type 0} (e : Refusal) (x : A) → answer_from (number_of (verdict_of e)) (place_of (verdict_of e)) x ≡ Err e
refused_back e x = rw (refused e) (ap Err (refusal_back e))

abbrev pub strand_from : ℕ → Strand
strand_from n = cond (eqb n 0) Given Opposite

pub strand_back : (s : Strand) → strand_from (strand_number s) ≡ s
strand_back Given = refl
strand_back Opposite = refl

check_back : (r : Result Unit Refusal) → answer_from (told_check r).number (told_check r).place tt ≡ r
check_back (Ok tt) = refl
check_back (Err e) = refused_back e tt

factors_back : (r : Result Factors Refusal) → let a = told_factors r in answer_from a.number a.place (record { count = a.count; start = a.start }) ≡ r
factors_back (Ok f) = refl
factors_back (Err e) = refused_back e _

duels_back : (r : Result Duels Refusal) → let a = told_duels r in answer_from a.number a.place (record { start = a.start; pairs = a.pairs }) ≡ r
duels_back (Ok d) = refl
duels_back (Err e) = refused_back e _

repeat_back : (r : Result ℕ Refusal) → let a = told_repeat r in answer_from a.number a.place a.repeat ≡ r
repeat_back (Ok p) = refl
repeat_back (Err e) = refused_back e _

marks_back : (r : Result Marks Refusal) → let a = told_marks r in answer_from a.number a.place (record { n = a.n; start = a.start; strand = strand_from a.strand }) ≡ r
marks_back (Ok m) = ap (λ s. Ok (record { n = m.n; start = m.start; strand = s })) (strand_back m.strand)
marks_back (Err e) = refused_back e _

abbrev compared_from : Compared → Result Bool NotCompared
compared_from a =
    cond (eqb a.number 0) (Ok a.same)
    (Err (cond (eqb a.ring 1) (First (refusal_from a.number a.place)) (Second (refusal_from a.number a.place))))

compared_back : (r : Result Bool NotCompared) → compared_from (told_compare r) ≡ r
compared_back (Ok t) = refl
compared_back (Err (First e)) = rw (refused e) (ap (λ f. Err (First f)) (refusal_back e))
compared_back (Err (Second e)) = rw (refused e) (ap (λ f. Err (Second f)) (refusal_back e))

-- ---- so two answers that are told alike are one

-- where the first is had back from what it is told as, so is the second
pub had_back : {A B : Type 0} (back : B → A) (told : A → B) → ((r : A) → back (told r) ≡ r) → (r s : A) → told r ≡ told s → r ≡ s
had_back back told h r s e = sym (h r) ∙ ap back e ∙ h s

pub check_one : (r s : Result Unit Refusal) → told_check r ≡ told_check s → r ≡ s
check_one = had_back (λ a. answer_from a.number a.place tt) told_check check_back

pub factors_one : (r s : Result Factors Refusal) → told_factors r ≡ told_factors s → r ≡ s
factors_one = had_back (λ a. answer_from a.number a.place (record { count = a.count; start = a.start })) told_factors factors_back

pub duels_one : (r s : Result Duels Refusal) → told_duels r ≡ told_duels s → r ≡ s
duels_one = had_back (λ a. answer_from a.number a.place (record { start = a.start; pairs = a.pairs })) told_duels duels_back

pub repeat_one : (r s : Result ℕ Refusal) → told_repeat r ≡ told_repeat s → r ≡ s
repeat_one = had_back (λ a. answer_from a.number a.place a.repeat) told_repeat repeat_back

pub marks_one : (r s : Result Marks Refusal) → told_marks r ≡ told_marks s → r ≡ s
marks_one = had_back (λ a. answer_from a.number a.place (record { n = a.n; start = a.start; strand = strand_from a.strand })) told_marks marks_back

pub compared_one : (r s : Result Bool NotCompared) → told_compare r ≡ told_compare s → r ≡ s
compared_one = had_back compared_from told_compare compared_back
