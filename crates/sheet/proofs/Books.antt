-- A book: sheets joined one behind another are walked back to just those sheets, and a refusal refuses it, exactly when 01 says.
-- Assumes nothing.
use mathlib.Core.Path.{◌≡◌, refl, sym, ap, ap₂, ◌∙◌, subst}
use mathlib.Core.Logic.{◌↔◌}
use mathlib.Core.List.{List, [], ◌∷◌, ◌++◌, append-nil, append_assoc, reverse, reverse_aux, reverse-reverse}
use Prim.Native.Nat.{ℕ, zero, suc, ◌≤◌, ◌<◌}
use native.Mathlib.Omega.{arith}
use borrow.Author.Tests.{eq-eqb, ne_eqb, eqb-true, eqb-false}
use lib.Dec.{eqb}
use lib.ListN.{length, take, drop, length-append, get_or-append, get_or-eq_default}
use lib.Seq.{take_at, drop_at}
use Rattle.words.specs.Keys.Strand.{strand, key_start}
use Rattle.words.proofs.Order.Search.{by_test, either, lt_or_ge}
use Rattle.ring.specs.Answers.{done_with}
use Rattle.sheet.specs.Found.{Found}
use Rattle.sheet.specs.Found.{Sheet, Refused}
use Rattle.sheet.specs.Sheet.{trailer_size, Written, sheet_of}
use Rattle.sheet.specs.Trailer.{Bytes, found_of, number_of}
use Rattle.sheet.specs.Book.{joined, Walk, through, stopped, step_as, walk_back, walk_of, walked_as, walked_of}
use Rattle.sheet.specs.Demands.{SheetGiven, AllWritten, BookGiven, sheets, stops, Holds}
use Rattle.sheet.proofs.Replies.{refused_is}
use Rattle.sheet.proofs.Numbers.{exactly_given, given_found, found_given}
use Rattle.sheet.proofs.Rounds.{size_written, found_written}
use Rattle.sheet.proofs.Accepted.{Ends, taken-ends}

-- ---- one step of the walk

pub walk_none : (f : ℕ) (book : List ℕ) (ss : List (List ℕ)) → length book ≡ 0 → walk_back f book ss ≡ through ss
walk_none zero book ss e = refl
walk_none (suc f) book ss e = rw (eq-eqb (length book) 0 e)

pub walk_step : (f : ℕ) (book : List ℕ) (ss : List (List ℕ)) (r : Found) → 0 < length book → found_of book ≡ r
    → walk_back (suc f) book ss ≡ step_as r (λ bf. walk_back f (take bf book) (drop bf book ∷ ss))
walk_step f book ss r h e = rw (ne_eqb (length book) 0 (omega arith), e)

written_long : (s : List ℕ) → Written s → trailer_size ≤ length s
written_long s r = omega (arith, ap length r.is, size_written r.kind r.deposit r.permitted)

-- the sheet nearest the end is found, and what stands before it is walked next
walk_one : (f : ℕ) (pre s : List ℕ) (ss : List (List ℕ)) → Written s → walk_back (suc f) (pre ++ s) ss ≡ walk_back f pre (s ∷ ss)
walk_one f pre s ss r =
    let k : ℕ = r.kind in
    let w : List ℕ = r.deposit in
    let d : found_of (pre ++ s) ≡ Sheet (done_with (length w) (key_start k w) (strand k w)) k (length pre) =
    subst (λ x. found_of (pre ++ x) ≡ Sheet (done_with (length w) (key_start k w) (strand k w)) k (length pre)) r.is (found_written pre k w r.permitted) in
    walk_step f (pre ++ s) ss _ (rw length-append (omega (arith, written_long s r))) d
    ∙ rw (take_at pre s (length pre) refl, drop_at pre s (length pre) refl)

-- ---- sheets joined are walked back

-- joined, the last given first
abbrev joined_back : List (List ℕ) → List ℕ
joined_back [] = []
joined_back (s ∷ rs) = joined_back rs ++ s

walk_joined_back : (rs : List (List ℕ)) (f : ℕ) (ss : List (List ℕ)) → AllWritten rs → length (joined_back rs) ≤ f
    → walk_back f (joined_back rs) ss ≡ through (reverse_aux rs ss)
walk_joined_back [] f ss w h = walk_none f [] ss refl
walk_joined_back (s ∷ rs) zero ss w h = absurd (omega (arith, written_long s w.0, length-append (joined_back rs) s))
walk_joined_back (s ∷ rs) (suc f) ss w h =
    walk_one f (joined_back rs) s ss w.0
    ∙ walk_joined_back rs f (s ∷ ss) w.1 (omega (arith, written_long s w.0, length-append (joined_back rs) s))

joined_back_lem : (ss rs : List (List ℕ)) → joined_back (reverse_aux ss rs) ≡ joined_back rs ++ joined ss
joined_back_lem [] rs = sym (append-nil (joined_back rs))
joined_back_lem (s ∷ ss) rs = joined_back_lem ss (s ∷ rs) ∙ append_assoc (joined_back rs) s (joined ss)

written_back : (ss rs : List (List ℕ)) → AllWritten ss → AllWritten rs → AllWritten (reverse_aux ss rs)
written_back [] rs a b = b
written_back (s ∷ ss) rs a b = written_back ss (s ∷ rs) a.1 (a.0, b)

-- "sheets joined one behind another are walked back to just those sheets" (01)
pub walk_joined : (ss : List (List ℕ)) → AllWritten ss → walk_of (joined ss) ≡ through ss
unfolding walk_of
walk_joined ss a =
    let e : joined_back (reverse ss) ≡ joined ss = joined_back_lem ss [] in
    subst (λ b. walk_back (length b) b [] ≡ through ss) e
    (walk_joined_back (reverse ss) (length (joined_back (reverse ss))) [] (written_back ss [] a tt) (omega arith) ∙ ap through (reverse-reverse ss))

-- no other list of sheets makes the same book
one_book : (ss ts : List (List ℕ)) → AllWritten ss → AllWritten ts → joined ss ≡ joined ts → ss ≡ ts
one_book ss ts a c e = let h : through ss ≡ through ts = sym (walk_joined ss a) ∙ ap walk_of e ∙ walk_joined ts c in cc

-- ---- a refusal refuses the book

-- behind any sheets, bytes that are refused stop the walk with their number
module _ (pre : List ℕ) (h : 0 < length pre) (k p : ℕ) (e : found_of pre ≡ Refused k p) where
  stop_behind : (rs : List (List ℕ)) (f : ℕ) (ss : List (List ℕ)) → AllWritten rs → length (pre ++ joined_back rs) ≤ f
      → walk_back f (pre ++ joined_back rs) ss ≡ stopped k p
  stop_behind [] zero ss w l = absurd (omega (arith, length-append pre []))
  stop_behind [] (suc f) ss w l = ap (λ b. walk_back (suc f) b ss) (append-nil pre) ∙ walk_step f pre ss (Refused k p) h e
  stop_behind (s ∷ rs) zero ss w l = absurd (omega (arith, length-append pre (joined_back rs ++ s)))
  stop_behind (s ∷ rs) (suc f) ss w l =
      let q : pre ++ joined_back rs ++ s ≡ pre ++ (joined_back rs ++ s) = append_assoc pre (joined_back rs) s in
      let n : length (pre ++ joined_back rs ++ s) ≤ suc f = rw q l in
      ap (λ b. walk_back (suc f) b ss) (sym q) ∙ walk_one f (pre ++ joined_back rs) s ss w.0
      ∙ stop_behind rs f (s ∷ ss) w.1 (omega (arith, written_long s w.0, length-append (pre ++ joined_back rs) s))

  -- "a refusal there ends the walk and refuses the book with that number" (01): whatever sheets stand behind it
  walk_refused : (ss : List (List ℕ)) → AllWritten ss → walk_of (pre ++ joined ss) ≡ stopped k p
  unfolding walk_of
  walk_refused ss a =
      subst (λ b. walk_back (length (pre ++ b)) (pre ++ b) [] ≡ stopped k p) (joined_back_lem ss [])
      (stop_behind (reverse ss) (length (pre ++ joined_back (reverse ss))) [] (written_back ss [] a tt) (omega arith))

-- ---- where a walk ends: at the front, or at bytes that are refused, and behind them sheets that the writer makes

data Ended (book : List ℕ) (ss : List (List ℕ)) : Walk → Type 0 where
  front : (gs : List (List ℕ)) → AllWritten gs → joined gs ≡ book → Ended book ss (through (gs ++ ss))
  early : {k p : ℕ} (pre : List ℕ) (gs : List (List ℕ)) → 0 < length pre → SheetGiven pre k p → (k ≡ 0 → ⊥) → AllWritten gs → pre ++ joined gs ≡ book
      → Ended book ss (stopped k p)

no_bytes : (book : List ℕ) → length book ≡ 0 → [] ≡ book
no_bytes [] e = refl
no_bytes (a ∷ b) e = absurd (omega arith)

bytes_front : (a s : List ℕ) → Bytes (a ++ s) → Bytes a
bytes_front a s y i =
    either (lt_or_ge i (length a)) (λ h. rw (← get_or-append a s 0 i h) (y i)) (λ h. rw (get_or-eq_default a 0 {n = i} h) (omega arith))

joined-append : (gs : List (List ℕ)) (s : List ℕ) → joined (gs ++ s ∷ []) ≡ joined gs ++ s
joined-append [] s = append-nil s
joined-append (g ∷ gs) s = ap (λ x. g ++ x) (joined-append gs s) ∙ sym (append_assoc g (joined gs) s)

written_append : (gs : List (List ℕ)) (s : List ℕ) → AllWritten gs → Written s → AllWritten (gs ++ s ∷ [])
written_append [] s a r = (r, tt)
written_append (g ∷ gs) s a r = (a.0, written_append gs s a.1 r)

-- one sheet more behind a book
ended_more : (book s : List ℕ) (ss : List (List ℕ)) {v : Walk} → Written s → Ended book (s ∷ ss) v → Ended (book ++ s) ss v
ended_more book s ss r (front gs a e) =
    subst (λ ts. Ended (book ++ s) ss (through ts)) (append_assoc gs (s ∷ []) ss)
    (front (gs ++ s ∷ []) (written_append gs s a r) (joined-append gs s ∙ ap (λ x. x ++ s) e))
ended_more book s ss r (early pre gs h g n a e) =
    early pre (gs ++ s ∷ []) h g n (written_append gs s a r)
    (ap (λ x. pre ++ x) (joined-append gs s) ∙ sym (append_assoc pre (joined gs) s) ∙ ap (λ x. x ++ s) e)

-- a walk of no bytes ends at the front
ended_none : (f : ℕ) (book : List ℕ) (ss : List (List ℕ)) → length book ≡ 0 → Ended book ss (walk_back f book ss)
ended_none f book ss e = subst (Ended book ss) (sym (walk_none f book ss e)) (front [] tt (no_bytes book e))

-- one that is refused at once ends there
ended_here : (f : ℕ) (book : List ℕ) (ss : List (List ℕ)) → 0 < length book → (number_of (found_of book) ≡ 0 → ⊥) → Ended book ss (walk_back (suc f) book ss)
ended_here f book ss h n =
    subst (Ended book ss) (sym (walk_step f book ss _ h (refused_is (found_of book) n)))
    (early book [] h (found_given book) n tt (append-nil book))

walk_ended : (f : ℕ) (book : List ℕ) (ss : List (List ℕ)) → Bytes book → length book ≤ f → Ended book ss (walk_back f book ss)
walk_ended zero book ss y h = ended_none zero book ss (omega arith)
walk_ended (suc f) book ss y h =
    by_test (eqb (length book) 0) (λ t. ended_none (suc f) book ss (eqb-true _ _ t))
    (λ t. by_test (eqb (number_of (found_of book)) 0)
    (λ z. let e : Ends book = taken-ends book y (eqb-true _ _ z) in
    let s : List ℕ = sheet_of e.kind e.deposit in
    let r : Written s = record { kind = e.kind; deposit = e.deposit; permitted = e.permitted; is = refl } in
    subst (λ b. Ended b ss (walk_back (suc f) b ss)) e.are
    (subst (Ended (e.front ++ s) ss) (sym (walk_one f e.front s ss r))
    (ended_more e.front s ss r (walk_ended f e.front (s ∷ ss) (bytes_front e.front s (subst Bytes (sym e.are) y))
    (omega (arith, written_long s r, length-append e.front s, ap length e.are))))))
    (λ n. ended_here f book ss (omega (arith, eqb-false (length book) 0 t)) (eqb-false _ _ n)))

-- ---- a book exactly when

-- what a walk ends at is what the table gives
ended_given : (book : List ℕ) {v : Walk} → Ended book [] v → BookGiven book (walked_as v).number (walked_as v).place
ended_given book (front gs a e) = sheets gs a e
ended_given book (early pre gs h g n a e) = stops pre gs h g n a e

given_walked : (book : List ℕ) {k i : ℕ} → BookGiven book k i → ((walked_of book).number ≡ k) × ((walked_of book).place ≡ i)
given_walked book (sheets ss a e) =
    let w : walk_of book ≡ through ss = ap walk_of (sym e) ∙ walk_joined ss a in
    (ap (λ v. (walked_as v).number) w, ap (λ v. (walked_as v).place) w)
given_walked book (stops pre ss h g n a e) =
    let t = given_found pre g in
    let r : found_of pre ≡ Refused _ _ = refused_is (found_of pre) (λ z. n (sym t.0 ∙ z)) ∙ ap₂ Refused t.0 t.1 in
    let w : walk_of book ≡ stopped _ _ = ap walk_of (sym e) ∙ walk_refused pre h _ _ r ss a in
    (ap (λ v. (walked_as v).number) w, ap (λ v. (walked_as v).place) w)

-- a book is refused exactly when some bytes are that are not none, and behind them sheets that the writer makes; else it is such sheets
pub book_exactly : (book : List ℕ) → Bytes book → (k i : ℕ) → (((walked_of book).number ≡ k) × ((walked_of book).place ≡ i)) ↔ BookGiven book k i
unfolding walk_of
book_exactly book y k i =
    exactly_given (BookGiven book) (walked_of book).number (walked_of book).place k i
    (ended_given book (walk_ended (length book) book [] y (omega arith))) (given_walked book)

-- 0 is given for sheets alone
pub given_holds : (book : List ℕ) (n : ℕ) {k i : ℕ} → BookGiven book k i → k ≡ 0 → ((ss : List (List ℕ)) → AllWritten ss → joined ss ≡ book → n ≡ length ss) → Holds book n
given_holds book n (sheets ss a e) z c = record { found = ss; written = a; are = e; counted = c ss a e; only = λ ts t f. one_book ts ss t a (f ∙ sym e) }
given_holds book n (stops pre ss h g x a e) z c = absurd (x z)
