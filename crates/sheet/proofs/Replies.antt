-- Each answer of the trailer reader from what its tests showed.
-- Assumes nothing.
use mathlib.Core.Path.{◌≡◌, refl, sym, ap, ◌∙◌}
use mathlib.Core.Logic.{◌⊎◌, inl, inr}
use mathlib.Core.Bool.{Bool, true, false, not, ◌||◌, ◌&&◌, true≢false}
use mathlib.Core.List.{List, [], ◌++◌}
use Prim.Native.Nat.{ℕ, ◌≤◌, ◌<◌, ◌+◌, ◌-◌, ◌*◌}
use native.Mathlib.Omega.{arith}
use borrow.Author.Tests.{eq-eqb, ne_eqb, eqb-true, eqb-false, lt-ltb, le-ltb, ltb-true, ltb-false, le-leb, lt-leb, not-true}
use lib.Dec.{ltb, leb, eqb}
use lib.ListN.{length, drop, get_or, length-take, length-drop}
use lib.Seq.{get_or-drop}
use Rattle.words.specs.Keys.Kind.{known, stranded, strands}
use Rattle.words.proofs.Keys.Kind.{no_strand, only_feature}
use Rattle.words.proofs.Order.Search.{by_test, either}
use Rattle.ring.specs.declared.answer.Checked.{Checked}
use Rattle.ring.specs.Rule.{Rule, judged}
use Rattle.ring.specs.Judging.{most}
use Rattle.ring.proofs.Rules.{done_clear, refused_more}
use Rattle.sheet.specs.Found.{Found}
use Rattle.sheet.specs.Found.{Sheet, Refused}
use Rattle.sheet.specs.Sheet.{base, number_in, width, tag_first, tag_last, trailer_size, is_made}
use Rattle.sheet.specs.Trailer.{trailer, strand_at, kind_at, tag_at, way_back, before, contents_in, wrong_marks, bad_in, sheet_in, form_rules, letter_rules, found_of, form_of, number_of, place_of}
use Rattle.sheet.specs.Demands.{Wrong, first_of_tag, last_of_tag, no_kind, strand_above, feature_strand}

-- a refusal by its number and place
pub refused_is : (f : Found) → (number_of f ≡ 0 → ⊥) → f ≡ Refused (number_of f) (place_of f)
refused_is (Sheet marked kind before) h = absurd (h refl)
refused_is (Refused number place) h = refl

-- ---- 6

one_true : (s t : Bool) → (s || t) ≡ true → (s ≡ true) ⊎ (t ≡ true)
one_true true t e = inl refl
one_true false t e = inr e

any_true : (s : Bool) → (s || true) ≡ true
any_true true = refl
any_true false = refl

module _ (t : List ℕ) where
  -- the test of 6, and 01's words for it
  pub wrong_test : Wrong t → wrong_marks t ≡ true
  unfolding wrong_marks stranded
  wrong_test (first_of_tag h) = simp (ne_eqb (get_or t tag_at 0) tag_first h)
  wrong_test (last_of_tag h) = simp (ne_eqb (get_or t (tag_at + 1) 0) tag_last h, any_true)
  wrong_test (no_kind e) = simp (e, any_true)
  wrong_test (strand_above l) = simp (lt-ltb 1 (get_or t strand_at 0) l, any_true)
  wrong_test (feature_strand k s) = simp (k, s, any_true)

  -- behind a known kind, strand 1 of a kind without an opposite strand is strand 1 of kind 0
  test_strand : known (get_or t kind_at 0) ≡ true → (eqb (get_or t strand_at 0) 1 && not (stranded (get_or t kind_at 0))) ≡ true → Wrong t
  test_strand k e =
      by_test (eqb (get_or t strand_at 0) 1)
      (λ s. by_test (stranded (get_or t kind_at 0)) (λ o. absurd (true≢false (sym (simp (s, o) at e))))
      (λ o. feature_strand (only_feature (get_or t kind_at 0) k o) (eqb-true _ _ s)))
      (λ s. absurd (true≢false (sym (simp s at e))))

  pub test_wrong : wrong_marks t ≡ true → Wrong t
  unfolding wrong_marks
  test_wrong e =
      by_test (known (get_or t kind_at 0))
      (λ k. either (one_true _ _ e)
      (λ e. either (one_true _ _ e)
      (λ e. either (one_true _ _ e)
      (λ e. either (one_true _ _ e) (λ a. first_of_tag (eqb-false _ _ (not-true _ a))) (λ a. last_of_tag (eqb-false _ _ (not-true _ a))))
      (λ a. no_kind (not-true _ a)))
      (λ a. strand_above (ltb-true _ _ a))) (test_strand k))
      no_kind

  pub right_test : (Wrong t → ⊥) → wrong_marks t ≡ false
  right_test n = by_test (wrong_marks t) (λ e. absurd (n (test_wrong e))) (λ e. e)

  pub test_right : wrong_marks t ≡ false → Wrong t → ⊥
  test_right e w = true≢false (sym (wrong_test w) ∙ e)

  -- where 6 is not given, the tag is right and the kind is known
  module _ (n : Wrong t → ⊥) where
    pub right_first : get_or t tag_at 0 ≡ tag_first
    right_first = by_test (eqb (get_or t tag_at 0) tag_first) (eqb-true _ _) (λ e. absurd (n (first_of_tag (eqb-false _ _ e))))

    pub right_last : get_or t (tag_at + 1) 0 ≡ tag_last
    right_last = by_test (eqb (get_or t (tag_at + 1) 0) tag_last) (eqb-true _ _) (λ e. absurd (n (last_of_tag (eqb-false _ _ e))))

    pub right_kind : known (get_or t kind_at 0) ≡ true
    right_kind = by_test (known (get_or t kind_at 0)) (λ e. e) (λ e. absurd (n (no_kind e)))

  -- behind a right tag: the strand is none of those that the kind has, or one of them
  module _ (x : get_or t tag_at 0 ≡ tag_first) (y : get_or t (tag_at + 1) 0 ≡ tag_last) where
    strand_test : leb (strands (get_or t kind_at 0)) (get_or t strand_at 0) ≡ wrong_marks t
    unfolding wrong_marks
    strand_test =
        no_strand (get_or t kind_at 0) (get_or t strand_at 0)
        ∙ rw (eq-eqb (get_or t tag_at 0) tag_first x, eq-eqb (get_or t (tag_at + 1) 0) tag_last y)

    pub strand_wrong : (n : ℕ) → n ≡ strands (get_or t kind_at 0) → n ≤ get_or t strand_at 0 → wrong_marks t ≡ true
    strand_wrong n e h = sym strand_test ∙ le-leb _ _ (omega (arith, e))

    strand_right : (n : ℕ) → n ≡ strands (get_or t kind_at 0) → get_or t strand_at 0 < n → wrong_marks t ≡ false
    strand_right n e h = sym strand_test ∙ lt-leb _ _ (omega (arith, e))

-- ---- the rules of the trailer alone

-- whatever is judged behind them
module _ (b : List ℕ) (more : List (Rule Found)) where
  abbrev Says : Found → Type 0
  Says f = f ≡ judged (form_rules b ++ more) (sheet_in b)

  pub says_few : length b < trailer_size → Says (Refused 5 0)
  says_few h = rw (lt-ltb (length b) trailer_size h)

  module _ (h5 : trailer_size ≤ length b) where
    pub says_wrong : wrong_marks (trailer b) ≡ true → Says (Refused 6 0)
    says_wrong h = rw (le-ltb (length b) trailer_size h5, h)

    module _ (h6 : wrong_marks (trailer b) ≡ false) (n : ℕ) (e : n ≡ way_back b) where
      pub says_none : n ≡ 0 → Says (Refused 1 0)
      says_none h = rw (le-ltb (length b) trailer_size h5, h6, eq-eqb (way_back b) 0 (omega arith))

      module _ (h1 : n ≡ 0 → ⊥) where
        pub says_many : most < n → Says (Refused 2 0)
        says_many h = rw (le-ltb (length b) trailer_size h5, h6, ne_eqb (way_back b) 0 (λ z. h1 (e ∙ z)), lt-ltb most (way_back b) (omega arith))

        pub says_reach : n ≤ most → length b - trailer_size < n → Says (Refused 5 0)
        says_reach h2 h =
            rw (
              le-ltb (length b) trailer_size h5,
              h6,
              ne_eqb (way_back b) 0 (λ z. h1 (e ∙ z)),
              le-ltb most (way_back b) (omega arith),
              lt-ltb (length b - trailer_size) (way_back b) (omega arith),
            )

        pub says_more : n ≤ most → n ≤ length b - trailer_size → judged more (sheet_in b) ≡ judged (form_rules b ++ more) (sheet_in b)
        says_more h2 h =
            rw (
              le-ltb (length b) trailer_size h5,
              h6,
              ne_eqb (way_back b) 0 (λ z. h1 (e ∙ z)),
              le-ltb most (way_back b) (omega arith),
              le-ltb (length b - trailer_size) (way_back b) (omega arith),
            )

-- ---- a trailer that points to letters

pub record Pointed (b : List ℕ) : Type 0 where
  pub long : trailer_size ≤ length b
  pub right : wrong_marks (trailer b) ≡ false
  pub some : 0 < way_back b
  pub within : way_back b ≤ most
  pub reach : way_back b ≤ length b - trailer_size

-- the number of the trailer alone: 0 exactly for such a one, and what it refuses is refused so
module _ (b : List ℕ) where
  pub form_pointed : form_of b ≡ 0 → Pointed b
  unfolding form_of
  form_pointed z =
      let c = done_clear number_of 0 (sheet_in b) (form_rules b) (omega arith) z in
      record {
        long = ltb-false (length b) trailer_size c.0;
        right = c.1.0;
        some = let z = eqb-false (way_back b) 0 c.1.1.0 in omega arith;
        within = ltb-false most (way_back b) c.1.1.1.0;
        reach = ltb-false (length b - trailer_size) (way_back b) c.1.1.1.1.0;
      }

  -- 3 alone has a place
  form_place : place_of (judged (form_rules b) (sheet_in b)) ≡ 0
  form_place =
      by_test (ltb (length b) trailer_size) (λ t. rw t) (λ t.
      by_test (wrong_marks (trailer b)) (λ u. rw (t, u)) (λ u.
      by_test (eqb (way_back b) 0) (λ v. rw (t, u, v)) (λ v.
      by_test (ltb most (way_back b)) (λ x. rw (t, u, v, x)) (λ x.
      by_test (ltb (length b - trailer_size) (way_back b)) (λ y. rw (t, u, v, x, y)) (λ y. rw (t, u, v, x, y))))))

  pub form_refused : (form_of b ≡ 0 → ⊥) → (more : List (Rule Found)) → Refused (form_of b) 0 ≡ judged (form_rules b ++ more) (sheet_in b)
  unfolding form_of
  form_refused n more =
      ap (Refused (number_of (judged (form_rules b) (sheet_in b)))) (sym form_place) ∙ sym (refused_is (judged (form_rules b) (sheet_in b)) n)
      ∙ sym (refused_more number_of (form_rules b) more (sheet_in b) n)

-- ---- the letters and marks of such a trailer

module _ (b : List ℕ) (p : Pointed b) where
  pub length-letters : length (contents_in b).letters ≡ way_back b
  length-letters = rw (length-take, length-drop) (omega (arith, p.reach))

  -- only what is judged behind the trailer's rules answers
  pub from_three : (more : List (Rule Found)) → judged more (sheet_in b) ≡ judged (form_rules b ++ more) (sheet_in b)
  from_three more = says_more b more p.long p.right (way_back b) refl (λ e. omega (arith, p.some)) p.within p.reach

  pub says_bad : bad_in b < length (contents_in b).letters → Refused 3 (bad_in b) ≡ found_of b
  unfolding found_of
  says_bad h =
      let a : Refused 3 (bad_in b) ≡ judged (letter_rules b) (sheet_in b) = rw (lt-ltb (bad_in b) (length (contents_in b).letters) h) in
      a ∙ from_three (letter_rules b)

  module _ (t : ltb (bad_in b) (length (contents_in b).letters) ≡ false) where
    pub says_unmade : is_made (contents_in b) ≡ false → Refused 7 0 ≡ found_of b
    unfolding found_of
    says_unmade u = let a : Refused 7 0 ≡ judged (letter_rules b) (sheet_in b) = rw (t, u) in a ∙ from_three (letter_rules b)

    pub says_made : is_made (contents_in b) ≡ true → sheet_in b ≡ found_of b
    unfolding found_of
    says_made u = let a : sheet_in b ≡ judged (letter_rules b) (sheet_in b) = rw (t, u) in a ∙ from_three (letter_rules b)

-- ---- the trailer alone, told in 01's numbers, by what the code reads: t, the trailer, and how many bytes stand before it

module _ (b t : List ℕ) (size : ℕ) (e : t ≡ trailer b) (l : size + trailer_size ≡ length b) where
  abbrev Form : ℕ → Type 0
  Form k = ◌≡◌ {A = Checked} (record { number = k; place = 0 }) (record { number = form_of b; place = 0 })

  form_by : (f : Found) → f ≡ judged (form_rules b) (sheet_in b) → Form (number_of f)
  unfolding form_of
  form_by f g = ap (λ f. record { number = number_of f; place = 0 }) g

  long : trailer_size ≤ length b
  long = omega (arith, l)

  as_trailer : (r : Bool) → wrong_marks t ≡ r → wrong_marks (trailer b) ≡ r
  as_trailer r w = ap wrong_marks (sym e) ∙ w

  pub form_wrong : wrong_marks t ≡ true → Form 6
  form_wrong w = form_by _ (says_wrong b [] long (as_trailer true w))

  -- the marks are right: both bytes of the tag, and a strand below the k that the kind has
  module _ (x : get_or t tag_at 0 ≡ tag_first) (y : get_or t (tag_at + 1) 0 ≡ tag_last) (k : ℕ) (d : k ≡ strands (get_or t kind_at 0))
      (h : get_or t strand_at 0 < k) (n : ℕ) (g : n ≡ get_or t 0 0 + get_or t 1 0 * base) where
    back_is : n ≡ way_back b
    back_is =
        let f : number_in width t ≡ way_back b = ap (number_in width) e in
        let i : get_or (drop 1 t) 0 0 ≡ get_or t 1 0 = get_or-drop 1 t 0 0 in
        omega (arith, f, i, g)

    right : wrong_marks (trailer b) ≡ false
    right = as_trailer false (strand_right t x y k d h)

    pub form_none : n ≡ 0 → Form 1
    form_none z = form_by _ (says_none b [] long right n back_is z)

    module _ (z : n ≡ 0 → ⊥) where
      pub form_many : most < n → Form 2
      form_many o = form_by _ (says_many b [] long right n back_is z o)

      module _ (m : n ≤ most) where
        pub form_far : size < n → Form 5
        form_far o = form_by _ (says_reach b [] long right n back_is z m (omega (arith, l)))

        pub form_done : n ≤ size → Form 0
        form_done o = form_by _ (says_more b [] long right n back_is z m (omega (arith, l)))

pub form_few : (b : List ℕ) → length b < trailer_size → ◌≡◌ {A = Checked} (record { number = 5; place = 0 }) (record { number = form_of b; place = 0 })
unfolding form_of
form_few b h = ap (λ f. record { number = number_of f; place = 0 }) (says_few b [] h)
