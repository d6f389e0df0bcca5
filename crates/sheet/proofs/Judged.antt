-- The letters and marks that a trailer points to, judged as a key by the ring rules: the sheet's rules 3 and 7, and then 4.
-- Assumes nothing.
use mathlib.Core.Path.{◌≡◌, refl, sym, ap, ap₂, ◌∙◌}
use mathlib.Core.Bool.{Bool, true, false, not}
use mathlib.Core.List.{List, [], ◌∷◌, ◌++◌}
use Prim.Native.Nat.{ℕ}
use native.Mathlib.Omega.{arith}
use borrow.Author.Tests.{ne_eqb, le-ltb, eqb-false}
use lib.Dec.{ltb}
use lib.ListN.{length, take, drop}
use Rattle.std.proofs.Common.{Ok, Err}
use Rattle.words.specs.Keys.Kind.{known}
use Rattle.ring.specs.Verdict.{Verdict}
use Rattle.ring.specs.Verdict.{Taken, Letter, Short, NotKey}
use Rattle.ring.specs.declared.answer.Marked.{Marked}
use Rattle.ring.specs.declared.answer.Checked.{Checked}
use Rattle.ring.specs.declared.kind.Kind.{Kind}
use Rattle.ring.specs.declared.outcome.Marks.{Marks}
use Rattle.ring.specs.declared.refusals.Refusal as ringed-by
use Rattle.ring.specs.Numbered.{kind_number, kind_numbered}
use Rattle.ring.specs.Told.{told_marks}
use Rattle.ring.specs.Rule.{Rule, rule, judged}
use Rattle.ring.proofs.ToldLaws.{refused}
use Rattle.sheet.specs.declared.refusals.Refusal.{Refusal}
use Rattle.sheet.specs.Told.{number_told, place_told, of_ring, told_refusal}
use Rattle.sheet.proofs.ToldLaws.{refused_number, of_ring_told, kind_given, kind_refused}
use Rattle.ring.specs.Judging.{most, after}
use Rattle.ring.specs.Judging as ringed
use Rattle.ring.specs.Answers.{fewer, as_key, key_marks_of, deposited_of, deposit_room, marked_by, done_with}
use Rattle.sheet.specs.Found.{Found}
use Rattle.sheet.specs.Found.{Sheet, Refused}
use Rattle.sheet.specs.declared.trailer.Points.{Points}
use Rattle.sheet.specs.Sheet.{is_made, deposit_of}
use Rattle.sheet.specs.Trailer.{trailer, way_back, before, contents_in, bad_in, form_rules, letter_rules, sheet_rules, sheet_in, found_of, form_of, points_in, number_of, place_of}
use Rattle.sheet.specs.Reader.{restored_of, original_of, room_as, original_room}
use Rattle.sheet.proofs.Replies.{Pointed, test_right, right_kind, form_pointed, form_refused, length-letters, from_three}

-- ---- the same three tests, as a verdict and as what is found

abbrev verdict_by : Bool → Bool → Bool → ℕ → Verdict
verdict_by a c s i = judged (rule a (Letter i) ∷ rule (not c) NotKey ∷ rule s Short ∷ []) Taken

abbrev found_by : Bool → Bool → Bool → ℕ → Found → Found
found_by a c s i d = judged (rule a (Refused 3 i) ∷ rule (not c) (Refused 7 0) ∷ rule s (Refused 4 0) ∷ []) d

module _ (m : Marked) (kind before : ℕ) (i : ℕ) where
  abbrev d : Found
  d = Sheet m kind before

  same_number : (a c s : Bool) → ringed.number_of (verdict_by a c s i) ≡ number_of (found_by a c s i d)
  same_number true c s = refl
  same_number false false s = refl
  same_number false true true = refl
  same_number false true false = refl

  same_place : (a c s : Bool) → ringed.place_of (verdict_by a c s i) ≡ place_of (found_by a c s i d)
  same_place true c s = refl
  same_place false false s = refl
  same_place false true true = refl
  same_place false true false = refl

  same_room : (a c s : Bool) (new old : List ℕ) → after (verdict_by a c s i) new old ≡ room_as (found_by a c s i d) new old
  same_room true c s new old = refl
  same_room false false s new old = refl
  same_room false true true new old = refl
  same_room false true false new old = refl

  same_done : (a c s : Bool) → ringed.number_of (verdict_by a c s i) ≡ 0 → (verdict_by a c s i ≡ Taken) × (found_by a c s i d ≡ d)
  same_done true c s z = absurd (omega arith)
  same_done false false s z = absurd (omega arith)
  same_done false true true z = absurd (omega arith)
  same_done false true false z = (refl, refl)

  same_refused : (a c s : Bool) → (ringed.number_of (verdict_by a c s i) ≡ 0 → ⊥)
      → Refused (ringed.number_of (verdict_by a c s i)) (ringed.place_of (verdict_by a c s i)) ≡ found_by a c s i d
  same_refused true c s n = refl
  same_refused false false s n = refl
  same_refused false true true n = refl
  same_refused false true false n = absurd (n refl)

-- ---- the letters and marks of a trailer

module _ (b : List ℕ) (p : Pointed b) (short : Bool) where
  abbrev bad : Bool
  bad = ltb (bad_in b) (length (contents_in b).letters)

  abbrev verdict : Verdict
  verdict = as_key (contents_in b).kind (contents_in b).letters (contents_in b).start (contents_in b).strand short

  -- of 6, 1, 2 and 3 only 3 is left to give
  verdict_is : verdict ≡ verdict_by bad (is_made (contents_in b)) short (bad_in b)
  unfolding as_key
  verdict_is =
      let l : length (contents_in b).letters ≡ way_back b = length-letters b p in
      rw (
        right_kind (trailer b) (test_right (trailer b) p.right),
        ne_eqb (length (contents_in b).letters) 0 (λ e. omega (arith, p.some)),
        le-ltb most (length (contents_in b).letters) (omega (arith, p.within)),
      )

  found_is : found_by bad (is_made (contents_in b)) short (bad_in b) (sheet_in b) ≡ judged (sheet_rules b ++ rule short (Refused 4 0) ∷ []) (sheet_in b)
  found_is = from_three b p (letter_rules b ++ rule short (Refused 4 0) ∷ [])

  abbrev found : Found
  found = judged (sheet_rules b ++ rule short (Refused 4 0) ∷ []) (sheet_in b)

  abbrev marks : Marked
  marks = done_with (way_back b) (contents_in b).start (contents_in b).strand

  refused_same : (ringed.number_of verdict ≡ 0 → ⊥) → Refused (ringed.number_of verdict) (ringed.place_of verdict) ≡ found
  refused_same n =
      ap (λ v. Refused (ringed.number_of v) (ringed.place_of v)) verdict_is
      ∙ same_refused marks (contents_in b).kind (before b) (bad_in b) bad (is_made (contents_in b)) short (λ z. n (ap ringed.number_of verdict_is ∙ z)) ∙ found_is

  done_same : ringed.number_of verdict ≡ 0 → (verdict ≡ Taken) × (sheet_in b ≡ found)
  done_same z =
      let x = same_done marks (contents_in b).kind (before b) (bad_in b) bad (is_made (contents_in b)) short (sym (ap ringed.number_of verdict_is) ∙ z) in
      (verdict_is ∙ x.0, sym x.1 ∙ found_is)

  number_same : ringed.number_of verdict ≡ number_of found
  number_same =
      ap ringed.number_of verdict_is ∙ same_number marks (contents_in b).kind (before b) (bad_in b) bad (is_made (contents_in b)) short ∙ ap number_of found_is

  place_same : ringed.place_of verdict ≡ place_of found
  place_same =
      ap ringed.place_of verdict_is ∙ same_place marks (contents_in b).kind (before b) (bad_in b) bad (is_made (contents_in b)) short ∙ ap place_of found_is

  room_same : (new old : List ℕ) → after verdict new old ≡ room_as found new old
  room_same new old =
      ap (λ v. after v new old) verdict_is ∙ same_room marks (contents_in b).kind (before b) (bad_in b) bad (is_made (contents_in b)) short new old
      ∙ ap (λ f. room_as f new old) found_is

-- ---- what the calls answer, on what the trailer points to: w, the letters as the code lends them

-- the trailer alone is refused
form_is : (b : List ℕ) (e : Refusal) → told_refusal e ≡ record { number = form_of b; place = 0 } → (more : List (Rule Found))
    → Refused (number_told e) (place_told e) ≡ judged (form_rules b ++ more) (sheet_in b)
form_is b e f more = ap (λ (x : Checked). Refused x.number x.place) f ∙ form_refused b (λ z. refused_number e (ap (λ (x : Checked). x.number) f ∙ z)) more

pub found_refused : (b : List ℕ) (e : Refusal) → told_refusal e ≡ record { number = form_of b; place = 0 } → Refused (number_told e) (place_told e) ≡ found_of b
unfolding found_of
found_refused b e f = form_is b e f (letter_rules b)

module _ (b : List ℕ) (f : ◌≡◌ {A = Checked} (record { number = 0; place = 0 }) (record { number = form_of b; place = 0 })) (q : Points) (g : q ≡ points_in b)
    (w : List ℕ) (l : w ≡ take q.n (drop q.before b)) where
  pointed : Pointed b
  pointed = form_pointed b (sym (ap (λ (x : Checked). x.number) f))

  kind_known : known q.kind ≡ true
  kind_known = ap (λ (q : Points). known q.kind) g ∙ right_kind (trailer b) (test_right (trailer b) pointed.right)

  -- what depends on the letters and marks, read by the code or in the definition
  as_read : {A : Type 0} (f : ℕ → List ℕ → ℕ → ℕ → A)
      → f q.kind w q.start q.strand ≡ f (contents_in b).kind (contents_in b).letters (contents_in b).start (contents_in b).strand
  as_read f = ap (λ w. f q.kind w q.start q.strand) l ∙ ap (λ (q : Points). f q.kind (take q.n (drop q.before b)) q.start q.strand) g

  module _ (m : Marked) (e : m ≡ key_marks_of q.kind w q.start q.strand) where
    marks_are : m ≡ key_marks_of (contents_in b).kind (contents_in b).letters (contents_in b).start (contents_in b).strand
    marks_are = e ∙ as_read key_marks_of

    marks_refused : (m.number ≡ 0 → ⊥) → Refused m.number m.place ≡ found_of b
    unfolding found_of
    marks_refused n =
        ap (λ (m : Marked). Refused m.number m.place) marks_are
        ∙ refused_same b pointed false (λ z. n (ap (λ (m : Marked). m.number) marks_are ∙ z))

    marks_found : m.number ≡ 0 → Sheet m q.kind q.before ≡ found_of b
    unfolding found_of
    marks_found y =
        let x = done_same b pointed false (sym (ap (λ (m : Marked). m.number) marks_are) ∙ y) in
        let d : m ≡ done_with (way_back b) (contents_in b).start (contents_in b).strand =
        marks_are ∙ ap (λ v. marked_by v (length (contents_in b).letters) (contents_in b).start (contents_in b).strand) x.0
        ∙ ap (λ n. done_with n (contents_in b).start (contents_in b).strand) (length-letters b pointed) in
        ap₂ (λ (m : Marked) (q : Points). Sheet m q.kind q.before) d g ∙ x.1

  pub key_refused : (e : ringed-by.Refusal) → told_marks (Err e) ≡ key_marks_of q.kind w q.start q.strand
      → Refused (number_told (of_ring e)) (place_told (of_ring e)) ≡ found_of b
  key_refused e h =
      ap (λ (x : Checked). Refused x.number x.place) (of_ring_told e) ∙ marks_refused (told_marks (Err e)) h (eqb-false _ 0 (refused e))

  -- the kind is known, so it is no reason to refuse
  pub kind_no_reason : {A : Type 0} (e : ringed-by.Refusal) → Err e ≡ kind_numbered q.kind → A
  kind_no_reason e h = absurd (kind_refused q.kind kind_known e h)

  pub key_found : (m : Marks) → told_marks (Ok m) ≡ key_marks_of q.kind w q.start q.strand → (k : Kind) → Ok k ≡ kind_numbered q.kind
      → Sheet (told_marks (Ok m)) (kind_number k) q.before ≡ found_of b
  key_found m h k e = ap (λ k. Sheet (told_marks (Ok m)) k q.before) (kind_given q.kind kind_known k e) ∙ marks_found (told_marks (Ok m)) h refl

-- ---- the original

pub original_refused : (b room : List ℕ) (e : Refusal) → told_refusal e ≡ record { number = form_of b; place = 0 }
    → (told_refusal e ≡ original_of b (length room)) × (room ≡ original_room b room)
unfolding restored_of
original_refused b room e f =
    let g : Refused (number_told e) (place_told e) ≡ restored_of b (length room) =
    form_is b e f (letter_rules b ++ rule (ltb (length room) (way_back b)) (Refused 4 0) ∷ []) in
    (ap (λ f. record { number = number_of f; place = place_of f }) g, ap (λ f. room_as f (deposit_of (contents_in b)) room) g)

module _ (b : List ℕ) (f : ◌≡◌ {A = Checked} (record { number = 0; place = 0 }) (record { number = form_of b; place = 0 })) (q : Points) (g : q ≡ points_in b)
    (w : List ℕ) (l : w ≡ take q.n (drop q.before b)) (room : List ℕ) where
  abbrev at-end : Pointed b
  at-end = pointed b f q g w l

  abbrev short : Bool
  short = fewer (length room) (contents_in b).letters

  restored : found b at-end short ≡ restored_of b (length room)
  unfolding restored_of
  restored = ap (λ n. judged (sheet_rules b ++ rule (ltb (length room) n) (Refused 4 0) ∷ []) (sheet_in b)) (length-letters b at-end)

  deposited : (m : Marked) → m ≡ deposited_of q.kind w q.start q.strand (length room)
      → ◌≡◌ {A = Checked} (record { number = m.number; place = m.place }) (original_of b (length room))
  deposited m e =
      ap (λ (m : Marked). record { number = m.number; place = m.place }) (e ∙ as_read b f q g w l (λ k w i s. deposited_of k w i s (length room)))
      ∙ ap₂ (λ n i. record { number = n; place = i }) (number_same b at-end short) (place_same b at-end short)
      ∙ ap (λ f. record { number = number_of f; place = place_of f }) restored

  pub original_done : (m : Marks) → told_marks (Ok m) ≡ deposited_of q.kind w q.start q.strand (length room)
      → ◌≡◌ {A = Checked} (record { number = 0; place = 0 }) (original_of b (length room))
  original_done m e = deposited (told_marks (Ok m)) e

  pub original_declined : (e : ringed-by.Refusal) → told_marks (Err e) ≡ deposited_of q.kind w q.start q.strand (length room)
      → told_refusal (of_ring e) ≡ original_of b (length room)
  original_declined e h = of_ring_told e ∙ deposited (told_marks (Err e)) h

  pub original_room_lem : (left : List ℕ) → left ≡ deposit_room q.kind w q.start q.strand room → left ≡ original_room b room
  original_room_lem left e =
      e ∙ as_read b f q g w l (λ k w i s. deposit_room k w i s room)
      ∙ room_same b at-end short (deposit_of (contents_in b)) room ∙ ap (λ f. room_as f (deposit_of (contents_in b)) room) restored
