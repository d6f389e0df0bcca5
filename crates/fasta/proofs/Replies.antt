-- What the reader answers, from where its scans found the header, the line's end, the letters and the next header.
-- Assumes nothing.
use mathlib.Core.Path.{◌≡◌, refl, sym, ap, ◌∙◌}
use mathlib.Core.Bool.{true, false}
use mathlib.Core.List.{List, [], ◌∷◌, ◌++◌}
use Prim.Native.Nat.{ℕ, suc, ◌<◌, ◌≤◌, ◌+◌, ◌-◌}
use native.Mathlib.Omega.{arith}
use borrow.Author.Tests.{lt-ltb, le-ltb}
use lib.ListN.{length, take, drop, get_or, length-append, length-drop}
use lib.Seq.{drop-cons, drop-drop, drop-append-le, take_at, take_all}
use Rattle.std.specs.Prelude.{Option, Some, None, Result, Ok, Err}
use Rattle.ring.specs.Verdict.{Verdict}
use Rattle.ring.specs.Judging.{most, first_bad, over, after}
use Rattle.ring.proofs.Judging.{says_empty, says_long, says_letter, says_short, says_taken}
use Rattle.fasta.specs.declared.answer.Refusal.{Refusal}
use Rattle.fasta.specs.declared.answer.Refused.{Refused}
use Rattle.fasta.specs.declared.answer.Taken.{Taken}
use Rattle.fasta.specs.Lines.{Line, onto, lines_of, joined, first_body}
use Rattle.fasta.specs.Parts.{beyond, record_lines, no_line, unheaded, header_of, letters_of, rest_of, header_at, rest_at}
use Rattle.fasta.specs.Answers.{base_kind, letters_verdict, part, at_front, found_of, refused_with, record_as, record_of, record_room}
use Rattle.fasta.specs.Told.{told_found, told_record}
use Rattle.fasta.specs.Bases.{bases_in}
use Rattle.fasta.specs.Scan.{header_from, letters_in, rest_in, Stands, HeaderLine, first_other, Counts}
use Rattle.fasta.proofs.Lines.{by_end, joined-lines, header_from_lem, letters_in_lem, rest_in_lem, end_split, end_first, end_drop}
use Rattle.fasta.proofs.Layouts.{layout_of, laid_record}
use Rattle.fasta.proofs.Others.{other_is, other_none}

some_onto : (b : ℕ) (ls : List Line) → no_line (onto b ls) ≡ false
some_onto b [] = refl
some_onto b (l ∷ ls) = refl

-- a text of a byte or more has a line
some_lines : (b : ℕ) (t : List ℕ) → no_line (lines_of (b ∷ t)) ≡ false
some_lines b t = by_end b t (λ e. rw e) (λ e c. rw (e, c)) (λ e c. rw (e, c) (some_onto b (lines_of t)))

-- what stands in the text from m on, stands in the text
pub stands_behind : (text s : List ℕ) (m k : ℕ) → m ≤ length text → Stands (drop m text) s k → Stands text s (m + k)
stands_behind text s m k h d = record { within = omega (arith, d.within, length-drop m text); is = sym (drop-drop k m text) ∙ d.is }

-- ---- no record

module _ (text : List ℕ) (e : header_from text ≡ []) where
  pub no_record : unheaded text ≡ true
  no_record = rw (sym (header_from_lem text) ∙ ap lines_of e)

  pub none_found : told_found None ≡ found_of text
  none_found = rw no_record refl

  pub none_record : (room : List ℕ) → (refused_with 8 0 at_front ≡ record_of text (length room)) × (room ≡ record_room text room)
  none_record room = rw no_record (refl, refl)

module _ (text : List ℕ) (m : ℕ) (f : Stands text (header_from text) m) where
  lines_at : record_lines text ≡ lines_of (drop m text)
  lines_at = sym (header_from_lem text) ∙ ap lines_of (sym f.is)

  -- ---- a record

  module _ (h : m < length text) where
    headed : unheaded text ≡ false
    headed = rw (lines_at, drop-cons text m 0 h) (some_lines (get_or text m 0) (drop (suc m) text))

    pub header_at_lem : header_at text ≡ m + 1
    unfolding header_at
    header_at_lem =
        let j : length (joined (record_lines text)) ≡ length text - m = ap length (ap joined lines_at ∙ joined-lines (drop m text)) ∙ length-drop m text in
        rw (headed, j) (omega arith)

    -- ---- the text that remains

    module _ (r : ℕ) (g : Stands text (rest_of text) r) where
      left_is : length (rest_of text) ≡ length text - r
      left_is = ap length (sym g.is) ∙ length-drop r text

      pub rest_at_lem : rest_at text ≡ r
      unfolding rest_at
      rest_at_lem = rw (headed, left_is) (omega (arith, g.within))

      pub rest_part_lem : take (length text - r) (drop r text) ≡ rest_of text
      rest_part_lem = take_all (length text - r) (drop r text) (omega (arith, length-drop r text)) ∙ g.is

    -- it is what remains from the header on
    pub rest_found : (r : ℕ) → Stands text (rest_in (drop m text)) r → Stands text (rest_of text) r
    unfolding rest_of
    rest_found r g = record { within = g.within; is = g.is ∙ rest_in_lem (drop m text) ∙ ap (λ ls. joined (beyond (drop 1 ls))) (sym lines_at) }

-- ---- the header line, and what stands behind it

module _ (text : List ℕ) (m e : ℕ) (g : HeaderLine text m e) where
  lines : record_lines text ≡ lines_of (drop m text)
  lines = lines_at text m g.found

  has_header : unheaded text ≡ false
  has_header = headed text m g.found g.some

  abbrev body : List ℕ
  body = first_body (lines_of (drop m text))

  split : drop m text ≡ body ++ drop e text
  split = sym (rw g.end.is (end_split (drop m text)))

  body_size : length body ≡ e - m
  body_size = omega (arith, sym (length-drop m text) ∙ ap length split ∙ length-append body (drop e text), length-drop e text, g.end.within)

  body_some : 0 < length body
  body_some = rw (← lines, laid_record (layout_of text has_header)) (omega arith)

  pub header_order : m + 1 ≤ e
  header_order = omega (arith, body_size, body_some)

  header_body : header_of text ≡ drop 1 body
  unfolding header_of
  header_body = ap (λ ls. drop 1 (first_body ls)) lines

  header_size : length (drop 1 body) ≡ e - (m + 1)
  header_size = length-drop 1 body ∙ omega (arith, body_size)

  pub header_part_lem : take (e - (m + 1)) (drop (m + 1) text) ≡ header_of text
  header_part_lem =
      let b : drop (m + 1) text ≡ drop 1 body ++ drop e text = sym (drop-drop 1 m text) ∙ ap (drop 1) split ∙ drop-append-le 1 body (drop e text) (omega (arith, body_some)) in
      ap (take (e - (m + 1))) b ∙ take_at (drop 1 body) (drop e text) (e - (m + 1)) header_size ∙ sym header_body

  header_span : length (header_of text) ≡ e - (m + 1)
  header_span = ap length header_body ∙ header_size

  -- found: both parts
  pub says_found : (n : ℕ) → Stands text (rest_in (drop m text)) n
      → told_found (Some (record { header = part (m + 1) (e - (m + 1)); rest = part n (length text - n) })) ≡ found_of text
  says_found n d =
      let s = rest_found text m g.found g.some n d in
      rw (has_header, header_at_lem text m g.found g.some, header_span, rest_at_lem text m g.found g.some n s, left_is text m g.found g.some n s)

  -- ---- behind the header

  drop-lines : drop 1 (lines_of (drop e text)) ≡ drop 1 (record_lines text)
  drop-lines = ap (λ s. drop 1 (lines_of s)) g.end.is ∙ end_drop (drop m text) ∙ ap (drop 1) (sym lines)

  no_body : first_body (lines_of (drop e text)) ≡ []
  no_body = ap (λ s. first_body (lines_of s)) g.end.is ∙ end_first (drop m text)

  letters_are : letters_in (drop e text) ≡ letters_of text
  unfolding letters_of
  letters_are = letters_in_lem (drop e text) ∙ rw (no_body, drop-lines)

  rest_is : rest_in (drop e text) ≡ rest_of text
  unfolding rest_of
  rest_is = rest_in_lem (drop e text) ∙ rw drop-lines

  -- a scan of the lines behind the header
  module _ (n : ℕ) (o : Option ℕ) (k : ℕ) (c : Counts (drop e text) n o k) where
    remains : Stands text (rest_of text) (e + k)
    remains = rw (← rest_is) (stands_behind text (rest_in (drop e text)) e k g.end.within c.remains)

    rest_told : part (rest_at text) (length (rest_of text)) ≡ part (e + k) (length text - (e + k))
    rest_told = rw (rest_at_lem text m g.found g.some (e + k) remains, left_is text m g.found g.some (e + k) remains)

    n_is : n ≡ length (letters_of text)
    n_is = c.size ∙ ap length letters_are

    o_is : o ≡ first_other (letters_of text)
    o_is = c.first ∙ ap first_other letters_are

    all_bases : o ≡ None → length (letters_of text) ≤ first_bad base_kind (letters_of text)
    all_bases h = other_none (letters_of text) (sym o_is ∙ h)

    -- where all are bases, the bases of the record's lines are its letters
    pub bases_are : o ≡ None → bases_in (take k (drop e text)) ≡ letters_of text
    bases_are h = c.bases h ∙ letters_are

    -- ---- each answer

    module _ (room : List ℕ) where
      abbrev Answers : Result Taken Refused → List ℕ → Type 0
      Answers a x = (told_record a ≡ record_of text (length room)) × (x ≡ record_room text room)

      -- by the letters' verdict
      by_verdict : (v : Verdict) → letters_verdict text (length room) ≡ v → (a : Result Taken Refused) (x : List ℕ)
          → told_record a ≡ record_as v text → x ≡ after v (letters_of text) room → Answers a x
      by_verdict v q a x p s = rw (has_header, q) (p, s)

      abbrev refused : Refusal → Result Taken Refused
      refused y = Err (record { refusal = y; rest = part (e + k) (length text - (e + k)) })

      pub says_one : n ≡ 0 → Answers (refused Refusal.NoLetters) room
      says_one z = by_verdict Verdict.Empty (says_empty base_kind (letters_of text) _ refl (omega (arith, n_is))) (refused Refusal.NoLetters) room (rw rest_told) refl

      module _ (p : n ≡ 0 → ⊥) where
        some : length (letters_of text) ≡ 0 → ⊥
        some z = p (n_is ∙ z)

        pub says_two : most < n → Answers (refused Refusal.TooManyLetters) room
        says_two l = by_verdict Verdict.Long (says_long base_kind (letters_of text) _ refl some (omega (arith, n_is))) (refused Refusal.TooManyLetters) room (rw rest_told) refl

        module _ (l : n ≤ most) where
          fits : length (letters_of text) ≤ most
          fits = omega (arith, n_is)

          pub says_three : (i : ℕ) → o ≡ Some i → Answers (refused (Refusal.WrongLetter i)) room
          says_three i h =
              let j = other_is (letters_of text) i (sym o_is ∙ h) in
              by_verdict (Verdict.Letter i) (says_letter base_kind (letters_of text) _ refl some fits i j.0 (omega (arith, j.0, j.1))) (refused (Refusal.WrongLetter i)) room (rw rest_told) refl

          module _ (h : o ≡ None) where
            pub says_four : length room < n → Answers (refused Refusal.NoRoom) room
            says_four s =
                by_verdict Verdict.Short (says_short base_kind (letters_of text) _ refl some fits (all_bases h) (lt-ltb (length room) (length (letters_of text)) (omega (arith, n_is))))
                (refused Refusal.NoRoom) room (rw rest_told) refl

            pub says_done : n ≤ length room → (x : List ℕ) → x ≡ over (bases_in (take k (drop e text))) room
                → Answers (Ok (record { n = n; header = part (m + 1) (e - (m + 1)); rest = part (e + k) (length text - (e + k)) })) x
            says_done s x w =
                by_verdict Verdict.Taken (says_taken base_kind (letters_of text) _ refl some fits (all_bases h) (le-ltb (length room) (length (letters_of text)) (omega (arith, n_is))))
                (Ok (record { n = n; header = part (m + 1) (e - (m + 1)); rest = part (e + k) (length text - (e + k)) })) x
                (rw (rest_told, header_at_lem text m g.found g.some, header_span, n_is)) (w ∙ ap (λ u. over u room) (bases_are h))

            -- there is room for them
            pub room_fits : n ≤ length room → length (bases_in (take k (drop e text))) ≤ length room
            room_fits s = rw (bases_are h) (omega (arith, n_is))
