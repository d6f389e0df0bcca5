-- What the writer makes is read back: its key, marks, kind and deposit, whatever stands before it.
-- Assumes nothing.
use mathlib.Core.Path.{◌≡◌, refl, sym, ap, ap₂, ◌∙◌, subst}
use mathlib.Core.Bool.{true, false}
use mathlib.Core.List.{List, [], ◌∷◌, ◌++◌, append_assoc}
use Prim.Native.Nat.{ℕ, ◌≤◌, ◌<◌, ◌+◌, ◌-◌, ◌^◌}
use native.Mathlib.Omega.{arith}
use borrow.Author.Tests.{lt-leb, le-ltb}
use lib.ListN.{length, take, drop, get_or, length-append}
use lib.Seq.{take_at, drop_at}
use Rattle.words.specs.Keys.Kind.{known, is_letter, strands}
use Rattle.words.specs.Keys.Strand.{strand, key_start, key}
use Rattle.words.proofs.Keys.Kind.{no_strand}
use Rattle.words.proofs.Keys.Molecule.{strand_below}
use Rattle.ring.specs.Verdict.{Taken}
use Rattle.ring.specs.declared.answer.Checked.{Checked}
use Rattle.ring.specs.declared.answer.Marked.{Marked}
use Rattle.ring.specs.Judging.{Permitted, over, after}
use Rattle.ring.specs.Answers.{done_with, marked_as}
use Rattle.ring.proofs.Exactly.{permitted_taken}
use Rattle.ring.proofs.ComparedLemmas.{length-key}
use Rattle.ring.proofs.MarkLaws.{start_below}
use Rattle.ring.proofs.Deposit.{deposit_back, permitted_key}
use Rattle.sheet.specs.Found.{Sheet}
use Rattle.sheet.specs.declared.answer.Entry.{Entry}
use Rattle.sheet.specs.Sheet.{Contents, base, number_in, width, tag_first, tag_last, tag, trailer_size, trailer_of, bytes_of, contents_of, sheet_of, deposit_of, write_verdict}
use Rattle.sheet.specs.Trailer.{trailer, start_at, strand_at, kind_at, way_back, contents_in, wrong_as, wrong_marks, sheet_in, found_of, number_of}
use Rattle.sheet.specs.Trailer as at-end
use Rattle.sheet.specs.Reader.{entry_as, entry_of, part_as, part_of, restored_of, original_of, room_as, original_room}
use Rattle.sheet.specs.Calls.{WriteCall, LettersCall, OriginalCall}
use Rattle.sheet.specs.Demands.{Reaches, Lettered, Made, RoundTrip, Accepted}
use Rattle.sheet.proofs.Widths.{length_two, first_back, second_back, more_at}
use Rattle.sheet.proofs.Replies.{test_right}
use Rattle.sheet.proofs.Numbers.{contents_path, sheet_found, restored_done}

-- ---- bytes that end in those of letters and marks

trailer_at : (a t : List ℕ) → length t ≡ trailer_size → trailer (a ++ t) ≡ t
trailer_at a t e = drop_at a t (length (a ++ t) - trailer_size) (omega (arith, length-append a t))

module _ (pre : List ℕ) (m : Contents) where
  -- what stands behind a trailer's two numbers, and the trailer
  abbrev behind : List ℕ
  behind = m.strand ∷ m.kind ∷ tag

  abbrev trailed : List ℕ
  trailed = trailer_of (length m.letters) m.start m.strand m.kind

  length-trailer : length trailed ≡ trailer_size
  length-trailer = length_two width (length m.letters) m.start behind

  length-bytes : length (pre ++ bytes_of m) ≡ length pre + length m.letters + trailer_size
  length-bytes = omega (arith, length-append pre (bytes_of m), length-append m.letters trailed, length-trailer)

  trailer-bytes : trailer (pre ++ bytes_of m) ≡ trailed
  trailer-bytes = ap trailer (sym (append_assoc pre m.letters trailed)) ∙ trailer_at (pre ++ m.letters) trailed length-trailer

  -- a number that the trailer holds is read back
  module _ (hn : length m.letters < base ^ width) where
    way_back_lem : way_back (pre ++ bytes_of m) ≡ length m.letters
    way_back_lem = ap (number_in width) trailer-bytes ∙ first_back width (length m.letters) m.start behind hn

    before-bytes : at-end.before (pre ++ bytes_of m) ≡ length pre
    before-bytes = omega (arith, length-bytes, way_back_lem)

    letters-bytes : (contents_in (pre ++ bytes_of m)).letters ≡ m.letters
    letters-bytes = rw (before-bytes, way_back_lem, drop_at pre (bytes_of m) (length pre) refl, take_at m.letters _ (length m.letters) refl)

    -- the marks read are the marks written
    contents_bytes : m.start < base ^ width → contents_in (pre ++ bytes_of m) ≡ m
    contents_bytes hs =
        let at : (i : ℕ) → get_or (trailer (pre ++ bytes_of m)) (strand_at + i) 0 ≡ get_or behind i 0 =
        λ i. ap (λ t. get_or t (strand_at + i) 0) trailer-bytes ∙ more_at width (length m.letters) m.start behind i in
        contents_path (contents_in (pre ++ bytes_of m)) m letters-bytes
        (ap (λ t. number_in width (drop start_at t)) trailer-bytes ∙ second_back width (length m.letters) m.start behind hs) (at 0) (at 1)

-- ---- what the writer makes, read

-- the marks that the writer answers for a deposit
abbrev marks : ℕ → List ℕ → Marked
marks kind w = record { number = 0; place = 0; n = length w; start = key_start kind w; strand = strand kind w }

written_right : (n s kind : ℕ) (w : List ℕ) → known kind ≡ true → wrong_marks (trailer_of n s (strand kind w) kind) ≡ false
unfolding wrong_marks
written_right n s kind w k =
    let t : List ℕ = trailer_of n s (strand kind w) kind in
    let at : (i : ℕ) → get_or t (strand_at + i) 0 ≡ get_or (strand kind w ∷ kind ∷ tag) i 0 = more_at width n s (strand kind w ∷ kind ∷ tag) in
    ap₂ (λ a b. wrong_as a b (get_or t kind_at 0) (get_or t strand_at 0)) (at 2) (at 3)
    ∙ ap₂ (wrong_as tag_first tag_last) (at 1) (at 0) ∙ sym (no_strand kind (strand kind w)) ∙ lt-leb (strands kind) (strand kind w) (strand_below kind w k)

pub size_written : (kind : ℕ) (w : List ℕ) → Permitted kind w → length (sheet_of kind w) ≡ length w + trailer_size
unfolding sheet_of
size_written kind w p = omega (arith, length-bytes [] (contents_of kind w), length-key kind w p.some)

-- the numbers of a permitted ring are held in a trailer's
module _ (kind : ℕ) (w : List ℕ) (p : Permitted kind w) where
  size_held : length (key kind w) < base ^ width
  size_held = omega (arith, length-key kind w p.some, p.within)

  start_held : key_start kind w < base ^ width
  start_held = omega (arith, start_below kind w p.some, p.within)

module _ (pre : List ℕ) (kind : ℕ) (w : List ℕ) (p : Permitted kind w) where
  back_written : way_back (pre ++ sheet_of kind w) ≡ length w
  unfolding sheet_of
  back_written = way_back_lem pre (contents_of kind w) (size_held kind w p) ∙ length-key kind w p.some

  contents_written : contents_in (pre ++ sheet_of kind w) ≡ contents_of kind w
  unfolding sheet_of
  contents_written = contents_bytes pre (contents_of kind w) (size_held kind w p) (start_held kind w p)

  right_written : wrong_marks (trailer (pre ++ sheet_of kind w)) ≡ false
  unfolding sheet_of
  right_written = ap wrong_marks (trailer-bytes pre (contents_of kind w)) ∙ written_right (length (key kind w)) (key_start kind w) kind w p.kinds

  written_reaches : Reaches (pre ++ sheet_of kind w)
  written_reaches =
      let n : length (pre ++ sheet_of kind w) ≡ length pre + (length w + trailer_size) =
      length-append pre (sheet_of kind w) ∙ ap (λ i. length pre + i) (size_written kind w p) in
      record {
        trailed = record { long = omega arith; right = test_right (trailer (pre ++ sheet_of kind w)) right_written };
        some = omega (arith, back_written, p.some);
        within = omega (arith, back_written, p.within);
        reach = omega (arith, back_written);
      }

  written_lettered : Lettered (pre ++ sheet_of kind w)
  written_lettered = record {
    reaches = written_reaches;
    letters = subst (λ (m : Contents). (i : ℕ) → i < way_back (pre ++ sheet_of kind w) → is_letter m.kind (get_or m.letters i 0) ≡ true) (sym contents_written)
        (λ i h. (permitted_key kind w p).letters i (omega (arith, back_written, length-key kind w p.some)));
  }

  written_made : Made (pre ++ sheet_of kind w)
  written_made = record { kind = kind; deposit = w; permitted = p; is = sym contents_written }

  sheet_in_lem : sheet_in (pre ++ sheet_of kind w) ≡ Sheet (done_with (length w) (key_start kind w) (strand kind w)) kind (length pre)
  unfolding sheet_of
  sheet_in_lem =
      let m : Contents = contents_of kind w in
      ap (λ (x : Contents). Sheet (done_with (way_back (pre ++ sheet_of kind w)) x.start x.strand) x.kind (at-end.before (pre ++ sheet_of kind w)))
      (contents_bytes pre m (size_held kind w p) (start_held kind w p))
      ∙ ap₂ (λ n b. Sheet (done_with n (key_start kind w) (strand kind w)) kind b)
      (way_back_lem pre m (size_held kind w p) ∙ length-key kind w p.some) (before-bytes pre m (size_held kind w p))

  -- behind whatever stands before, the sheet of a permitted ring is found
  pub found_written : found_of (pre ++ sheet_of kind w) ≡ Sheet (done_with (length w) (key_start kind w) (strand kind w)) kind (length pre)
  found_written = sym (sheet_found (pre ++ sheet_of kind w) written_lettered written_made) ∙ sheet_in_lem

  -- it is read back to its marks and kind
  pub round_entry : entry_of (pre ++ sheet_of kind w) ≡ record { marked = marks kind w; kind = kind; before = length pre }
  round_entry = ap entry_as found_written

  -- to its key
  round_key : part_of (pre ++ sheet_of kind w) ≡ key kind w
  unfolding sheet_of
  round_key =
      ap (part_as (pre ++ sheet_of kind w)) found_written
      ∙ ap (take (length w)) (drop_at pre (sheet_of kind w) (length pre) refl) ∙ take_at (key kind w) _ (length w) (length-key kind w p.some)

  -- and to its deposit
  round_deposit : deposit_of (contents_in (pre ++ sheet_of kind w)) ≡ w
  round_deposit = ap deposit_of contents_written ∙ deposit_back kind w p

  module _ (room : List ℕ) (h : length w ≤ length room) where
    restored_written : restored_of (pre ++ sheet_of kind w) (length room) ≡ Sheet (done_with (length w) (key_start kind w) (strand kind w)) kind (length pre)
    restored_written = restored_done (pre ++ sheet_of kind w) (length room) (ap number_of found_written) (omega (arith, back_written)) ∙ sheet_in_lem

    round_original : original_of (pre ++ sheet_of kind w) (length room) ≡ record { number = 0; place = 0 }
    round_original = rw restored_written

    round_room : original_room (pre ++ sheet_of kind w) room ≡ over w room
    round_room = ap₂ (λ r d. room_as r d room) restored_written round_deposit

-- ---- there and back, of the calls

module _ (kind : ℕ) (w : List ℕ) (p : Permitted kind w) where
  -- `write` leaves the sheet
  pub write_leaves : (room : List ℕ) (m : Marked) (left : List ℕ) → WriteCall w kind room m left → length w + trailer_size ≤ length room
      → (m ≡ marks kind w) × (take (length w + trailer_size) left ≡ sheet_of kind w)
  write_leaves room m left c h =
      let t : write_verdict kind w (length room) ≡ Taken = permitted_taken kind w _ p (le-ltb (length room) (length w + trailer_size) h) in (
        c.answer ∙ ap (λ v. marked_as v kind w) t,
        ap (take (length w + trailer_size)) (c.leaves ∙ ap (λ v. after v (sheet_of kind w) room) t)
            ∙ take_at (sheet_of kind w) _ (length w + trailer_size) (size_written kind w p),
      )

  module _ (pre : List ℕ) where
    -- `original` leaves the deposit
    original_leaves : (room : List ℕ) (o : Checked) (left : List ℕ) → OriginalCall (pre ++ sheet_of kind w) room o left → length w ≤ length room
        → (o ≡ record { number = 0; place = 0 }) × (take (length w) left ≡ w)
    original_leaves room o left c h =
        (c.answer ∙ round_original pre kind w p room h, ap (take (length w)) (c.leaves ∙ round_room pre kind w p room h) ∙ take_at w _ (length w) refl)

    pub there_and_back : (m : Marked) (r : Entry) (q at : ℕ × ℕ) (part room : List ℕ) (o : Checked) (left : List ℕ) → m ≡ marks kind w
        → r ≡ entry_of (pre ++ sheet_of kind w) → LettersCall (pre ++ sheet_of kind w) q part at → OriginalCall (pre ++ sheet_of kind w) room o left
        → length w ≤ length room → RoundTrip kind w pre m r part o left
    there_and_back m r q at part room o left f e l c h =
        let x = original_leaves room o left c h in
        record {
          entry = e ∙ round_entry pre kind w p ∙ ap (λ n. record { marked = n; kind = kind; before = length pre }) (sym f);
          letters = l.is ∙ round_key pre kind w p;
          answer = x.0;
          original = x.1;
        }

    -- the sheet is accepted for its deposit
    pub accepted_for : Accepted (pre ++ sheet_of kind w) (record { marked = marks kind w; kind = kind; before = length pre })
    accepted_for = record {
      deposit = w;
      permitted = p;
      size = refl;
      bytes = λ room m left c h. let x = write_leaves room m left c h in (x.0, x.1 ∙ sym (drop_at pre (sheet_of kind w) (length pre) refl));
      original = original_leaves;
    }
