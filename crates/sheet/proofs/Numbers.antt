-- Each number of a sheet, and its place, exactly when 01's table gives it: of what is found, and of the original with 4 last.
-- Assumes nothing.
use mathlib.Core.Path.{◌≡◌, refl, sym, ap, ◌∙◌, subst}
use mathlib.Core.Logic.{◌↔◌}
use mathlib.Core.Bool.{true, false, cond, true≢false}
use mathlib.Core.List.{List, [], ◌∷◌}
use Prim.Native.Nat.{ℕ, ◌≤◌, ◌<◌, ◌-◌}
use native.Mathlib.Omega.{arith}
use borrow.Author.Tests.{lt-ltb, le-ltb, eqb-true, eqb-false}
use lib.Dec.{ltb, eqb}
use lib.ListN.{length}
use Rattle.words.proofs.Order.Search.{by_test, either, lt_or_ge}
use Rattle.ring.specs.Rule.{rule}
use Rattle.ring.specs.Judging.{most}
use Rattle.ring.proofs.Rules.{clear_more, done_clear, refused_more}
use Rattle.ring.proofs.Exactly.{bad_here, good_before, good_all, good_at, bad_is}
use Rattle.ring.proofs.Deposit.{passes_permitted, passes_key, passes_start, passes_strand, ring_passes}
use Rattle.sheet.specs.Found.{Found}
use Rattle.sheet.specs.Found.{Refused}
use Rattle.sheet.specs.Sheet.{Contents, trailer_size, contents_of, deposit_of, is_made}
use Rattle.sheet.specs.Trailer.{trailer, way_back, contents_in, wrong_marks, bad_in, letter_rules, sheet_rules, sheet_in, found_of, number_of, place_of}
use Rattle.sheet.specs.Reader.{restored_of}
use Rattle.sheet.specs.Demands.{Trailed, Reaches, Lettered, Made, SheetGiven, few, wrong, none, many, far, letter, unmade, sheet, OriginalGiven, as_read, lacking, done}
use Rattle.sheet.proofs.Replies.{Pointed, wrong_test, test_wrong, right_test, test_right, says_few, says_wrong, says_none, says_many, says_reach, length-letters, says_bad, says_unmade, says_made}

-- an answer with a number and a place obeys a table that gives them, and gives no other
pub exactly_given : (Table : ℕ → ℕ → Type 0) (number place k i : ℕ) → Table number place → (Table k i → (number ≡ k) × (place ≡ i))
    → ((number ≡ k) × (place ≡ i)) ↔ Table k i
exactly_given Table number place k i g one = ((λ e. subst (λ x. Table x i) e.0 (subst (Table number) e.1 g)), one)

-- ---- 7: the test, and some deposit that has these letters and marks

pub contents_path : (a b : Contents) → a.letters ≡ b.letters → a.start ≡ b.start → a.strand ≡ b.strand → a.kind ≡ b.kind → a ≡ b
contents_path a b p q r s = λ i. record { letters = p i; start = q i; strand = r i; kind = s i }

-- what passes the test is what the writer makes for its deposit
test_made : (b : List ℕ) → is_made (contents_in b) ≡ true → Made b
test_made b e =
    let m : Contents = contents_in b in
    record {
      kind = m.kind;
      deposit = deposit_of m;
      permitted = passes_permitted m.kind m.letters m.start m.strand e;
      is = contents_path (contents_of m.kind (deposit_of m)) m (passes_key m.kind m.letters m.start m.strand e)
          (passes_start m.kind m.letters m.start m.strand e) (passes_strand m.kind m.letters m.start m.strand e) refl;
    }

pub made_test : (b : List ℕ) → Made b → is_made (contents_in b) ≡ true
made_test b m = subst (λ x. is_made x ≡ true) m.is (ring_passes m.kind m.deposit m.permitted)

-- ---- what is found

module _ (b : List ℕ) where
  reach_pointed : Reaches b → Pointed b
  reach_pointed r =
      record { long = r.trailed.long; right = right_test (trailer b) r.trailed.right; some = r.some; within = r.within; reach = r.reach }

  pub letters_size : Reaches b → length (contents_in b).letters ≡ way_back b
  letters_size r = length-letters b (reach_pointed r)

  -- every letter is one: the first that is none is not there
  no_bad : Lettered b → ltb (bad_in b) (length (contents_in b).letters) ≡ false
  no_bad l =
      le-ltb (bad_in b) (length (contents_in b).letters)
      (good_all (contents_in b).kind (contents_in b).letters (λ i h. l.letters i (omega (arith, letters_size l.reaches))))

  pub sheet_found : Lettered b → Made b → sheet_in b ≡ found_of b
  sheet_found l m = says_made b (reach_pointed l.reaches) (no_bad l) (made_test b m)

  unmade_found : Lettered b → (Made b → ⊥) → Refused 7 0 ≡ found_of b
  unmade_found l n =
      says_unmade b (reach_pointed l.reaches) (no_bad l)
      (by_test (is_made (contents_in b)) (λ t. absurd (n (test_made b t))) (λ t. t))

  bad_found : (r : Reaches b) → bad_in b < way_back b → Refused 3 (bad_in b) ≡ found_of b
  bad_found r h = says_bad b (reach_pointed r) (omega (arith, letters_size r))

  told : {f : Found} → f ≡ found_of b → (number_of (found_of b) ≡ number_of f) × (place_of (found_of b) ≡ place_of f)
  told e = (ap number_of (sym e), ap place_of (sym e))

  -- what the table gives is found
  pub given_found : {k i : ℕ} → SheetGiven b k i → (number_of (found_of b) ≡ k) × (place_of (found_of b) ≡ i)
  unfolding found_of
  given_found (few h) = told (says_few b (letter_rules b) h)
  given_found (wrong h w) = told (says_wrong b (letter_rules b) h (wrong_test (trailer b) w))
  given_found (none t e) = told (says_none b (letter_rules b) t.long (right_test (trailer b) t.right) (way_back b) refl e)
  given_found (many t l) = told (says_many b (letter_rules b) t.long (right_test (trailer b) t.right) (way_back b) refl (λ e. omega (arith, l)) l)
  given_found (far t s m l) =
      told (says_reach b (letter_rules b) t.long (right_test (trailer b) t.right) (way_back b) refl (λ e. omega (arith, s)) m l)
  given_found (letter r i h n g) =
      let e : bad_in b ≡ i = bad_is (contents_in b).kind (contents_in b).letters i (omega (arith, letters_size r)) n g in
      let t = told (bad_found r (omega arith)) in (t.0, t.1 ∙ e)
  given_found (unmade l n) = told (unmade_found l n)
  given_found (sheet l m) = told (sheet_found l m)

  -- what is found the table gives
  abbrev Gives : Found → Type 0
  Gives f = SheetGiven b (number_of f) (place_of f)

  by_letters : Reaches b → Gives (found_of b)
  by_letters r =
      let n : length (contents_in b).letters ≡ way_back b = letters_size r in
      either (lt_or_ge (bad_in b) (way_back b))
      (λ h. subst Gives (bad_found r h) (letter r (bad_in b) h (bad_here (contents_in b).kind (contents_in b).letters (omega arith)) (good_before (contents_in b).kind (contents_in b).letters)))
      (λ h. let l : Lettered b = record { reaches = r; letters = λ i g. good_at (contents_in b).kind (contents_in b).letters (omega arith) i (omega arith) } in
      by_test (is_made (contents_in b)) (λ t. subst Gives (sheet_found l (test_made b t)) (sheet l (test_made b t)))
      (λ t. let u : Made b → ⊥ = λ m. true≢false (sym (made_test b m) ∙ t) in subst Gives (unmade_found l u) (unmade l u)))

  by_back : Trailed b → wrong_marks (trailer b) ≡ false → Gives (found_of b)
  unfolding found_of
  by_back t w =
      either (lt_or_ge 0 (way_back b))
      (λ s. let z : way_back b ≡ 0 → ⊥ = λ e. omega arith in
      either (lt_or_ge most (way_back b)) (λ h. subst Gives (says_many b (letter_rules b) t.long w (way_back b) refl z h) (many t h))
      (λ m. either (lt_or_ge (length b - trailer_size) (way_back b)) (λ h. subst Gives (says_reach b (letter_rules b) t.long w (way_back b) refl z m h) (far t s m h))
      (λ h. by_letters (record { trailed = t; some = s; within = m; reach = h }))))
      (λ s. let z : way_back b ≡ 0 = omega arith in subst Gives (says_none b (letter_rules b) t.long w (way_back b) refl z) (none t z))

  pub found_given : Gives (found_of b)
  unfolding found_of
  found_given =
      either (lt_or_ge (length b) trailer_size) (λ h. subst Gives (says_few b (letter_rules b) h) (few h))
      (λ h. by_test (wrong_marks (trailer b)) (λ w. subst Gives (says_wrong b (letter_rules b) h w) (wrong h (test_wrong (trailer b) w)))
      (λ w. by_back (record { long = h; right = test_right (trailer b) w }) w))

  -- 01's table for a sheet: a number and a place are found exactly when they are given
  pub sheet_exactly : (k i : ℕ) → ((number_of (found_of b) ≡ k) × (place_of (found_of b) ≡ i)) ↔ SheetGiven b k i
  sheet_exactly k i = exactly_given (SheetGiven b) (number_of (found_of b)) (place_of (found_of b)) k i found_given given_found

  -- 0 is given for a sheet alone
  given_sheet : {k i : ℕ} → SheetGiven b k i → k ≡ 0 → Lettered b × Made b
  given_sheet (few h) e = absurd (omega arith)
  given_sheet (wrong h w) e = absurd (omega arith)
  given_sheet (none t z) e = absurd (omega arith)
  given_sheet (many t l) e = absurd (omega arith)
  given_sheet (far t s m l) e = absurd (omega arith)
  given_sheet (letter r i h n g) e = absurd (omega arith)
  given_sheet (unmade l n) e = absurd (omega arith)
  given_sheet (sheet l m) e = (l, m)

  pub taken_sheet : number_of (found_of b) ≡ 0 → Lettered b × Made b
  taken_sheet = given_sheet found_given

  -- ---- the original: 4 last

  module _ (size : ℕ) where
    -- a refused sheet is refused so whatever the room
    pub restored_refused : (number_of (found_of b) ≡ 0 → ⊥) → restored_of b size ≡ found_of b
    unfolding restored_of found_of
    restored_refused n = refused_more number_of (sheet_rules b) (rule (ltb size (way_back b)) (Refused 4 0) ∷ []) (sheet_in b) n

    pub restored_taken : number_of (found_of b) ≡ 0 → restored_of b size ≡ cond (ltb size (way_back b)) (Refused 4 0) (sheet_in b)
    unfolding restored_of found_of
    restored_taken z =
        clear_more (sheet_rules b) (rule (ltb size (way_back b)) (Refused 4 0) ∷ []) (sheet_in b)
        (done_clear number_of 0 (sheet_in b) (sheet_rules b) (omega arith) z)

    restored_short : number_of (found_of b) ≡ 0 → size < way_back b → restored_of b size ≡ Refused 4 0
    restored_short z h = restored_taken z ∙ rw (lt-ltb size (way_back b) h)

    pub restored_done : number_of (found_of b) ≡ 0 → way_back b ≤ size → restored_of b size ≡ sheet_in b
    restored_done z h = restored_taken z ∙ rw (le-ltb size (way_back b) h)

    given_restored : {k i : ℕ} → OriginalGiven b size k i → (number_of (restored_of b size) ≡ k) × (place_of (restored_of b size) ≡ i)
    given_restored (as_read g n) =
        let t = given_found g in
        let e : restored_of b size ≡ found_of b = restored_refused (λ z. n (sym t.0 ∙ z)) in
        (ap number_of e ∙ t.0, ap place_of e ∙ t.1)
    given_restored (lacking g h) =
        let e : restored_of b size ≡ Refused 4 0 = restored_short (given_found g).0 h in (ap number_of e, ap place_of e)
    given_restored (done g h) = let e : restored_of b size ≡ sheet_in b = restored_done (given_found g).0 h in (ap number_of e, ap place_of e)

    abbrev Restores : Found → Type 0
    Restores f = OriginalGiven b size (number_of f) (place_of f)

    restored_given : Restores (restored_of b size)
    restored_given =
        by_test (eqb (number_of (found_of b)) 0)
        (λ t. let z : number_of (found_of b) ≡ 0 = eqb-true _ _ t in
        let s = taken_sheet z in
        either (lt_or_ge size (way_back b)) (λ h. subst Restores (sym (restored_short z h)) (lacking (sheet s.0 s.1) h))
        (λ h. subst Restores (sym (restored_done z h)) (done (sheet s.0 s.1) h)))
        (λ t. let n : number_of (found_of b) ≡ 0 → ⊥ = eqb-false _ _ t in subst Restores (sym (restored_refused n)) (as_read found_given n))

    -- the sheet's numbers and places, then 4
    pub original_exactly : (k i : ℕ) → ((number_of (restored_of b size) ≡ k) × (place_of (restored_of b size) ≡ i)) ↔ OriginalGiven b size k i
    original_exactly k i =
        exactly_given (OriginalGiven b size) (number_of (restored_of b size)) (place_of (restored_of b size)) k i restored_given given_restored

    -- 0 is given for a sheet with room enough alone
    original_done : {k i : ℕ} → OriginalGiven b size k i → k ≡ 0 → (Lettered b × Made b) × (way_back b ≤ size)
    original_done (as_read g n) e = absurd (n e)
    original_done (lacking g h) e = absurd (omega arith)
    original_done (done g h) e = (given_sheet g refl, h)

    pub restored_sheet : number_of (restored_of b size) ≡ 0 → (Lettered b × Made b) × (way_back b ≤ size)
    restored_sheet = original_done restored_given
