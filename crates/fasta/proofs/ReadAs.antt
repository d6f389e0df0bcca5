-- What the calls answer on a text that is laid out as lines.
-- Assumes nothing.
use mathlib.Core.Path.{◌≡◌, refl, sym, ap, ◌∙◌}
use mathlib.Core.Bool.{true, false}
use mathlib.Core.List.{List}
use Prim.Native.Nat.{ℕ, ◌+◌}
use native.Mathlib.Omega.{arith}
use borrow.Author.Tests.{eq-eqb}
use lib.ListN.{length, take, drop}
use lib.Seq.{take-append_seam}
use Rattle.words.proofs.Order.Search.{by_test}
use Rattle.ring.specs.Judging.{Permitted, taken}
use Rattle.ring.specs.Answers.{fewer}
use Rattle.ring.proofs.Exactly.{taken_is, taken_permitted}
use Rattle.fasta.specs.declared.answer.Record.{Record}
use Rattle.fasta.specs.Parts.{unheaded, letters_of}
use Rattle.fasta.specs.Answers.{base_kind, letters_verdict, header_part, record_of, record_room}
use Rattle.fasta.specs.Calls.{RecordCall, HeaderCall, RestCall}
use Rattle.fasta.specs.Demands.{Layout, RecordAs, HeaderAs, RestAs}
use Rattle.fasta.proofs.Layouts.{laid_tested, laid_header, laid_letters, laid_rest}
use Rattle.fasta.proofs.Places.{laid_header_at, laid_header_in, laid_fewer, laid_end, laid_rest_at}

-- two numbers in a pair
pub pair_is : {x y : ℕ × ℕ} → x.0 ≡ y.0 → x.1 ≡ y.1 → x ≡ y
pair_is e f = λ i. (e i, f i)

-- a text with a record, where `record` is done
module _ (text room : List ℕ) (u : unheaded text ≡ false) (z : (record_of text (length room)).number ≡ 0) where
  done_taken : taken (letters_verdict text (length room)) ≡ true
  done_taken = eq-eqb _ 0 (rw u at z)

  -- all its letters stand at the room's front
  done_kept : ((record_of text (length room)).n ≡ length (letters_of text)) × (take (record_of text (length room)).n (record_room text room) ≡ letters_of text)
  done_kept = rw (u, done_taken) (refl, take-append_seam (letters_of text) (drop (length (letters_of text)) room))

  done_titled : (record_of text (length room)).header ≡ header_part text
  done_titled = rw (u, done_taken)

-- what is read is a ring that every call takes
pub done_permitted : {text room left : List ℕ} {r : Record} → RecordCall text room r left → r.number ≡ 0 → Permitted base_kind (take r.n left)
done_permitted {text} {room} c z =
    let k : (record_of text (length room)).number ≡ 0 = rw c.answer at z in
    by_test (unheaded text) (λ u. absurd (omega (arith, rw u at k)))
    (λ u. rw (c.answer, c.leaves, (done_kept text room u k).1)
    (taken_permitted base_kind (letters_of text) (fewer (length room) (letters_of text)) (taken_is _ (done_taken text room u k))).0)

-- a text laid out: each call answers parts of its layout
module _ {text : List ℕ} (l : Layout text) where
  pub record_laid : {room left : List ℕ} {r : Record} → RecordCall text room r left → RecordAs text l r left
  record_laid {room} c =
      let u = laid_tested l in
      rw (c.answer, c.leaves) (record {
        kept = λ z. let d = done_kept text room u z in (d.0 ∙ ap length (laid_letters l), d.1 ∙ laid_letters l);
        titled = λ z. done_titled text room u z ∙ rw (laid_header_at l, laid_header l);
        remaining = rw (u, laid_rest_at l, laid_rest l);
      })

  pub header_laid : {p headed : ℕ × ℕ} {head : List ℕ} → HeaderCall text p head headed → HeaderAs text l p head headed
  header_laid {p} c = rw c.is (record {
    is = laid_header l;
    stands = pair_is c.block (c.stands ∙ ap (λ x. p.1 + x) (laid_header_at l));
    within = rw (laid_header l) (sym (laid_header_in l));
  })

  pub rest_laid : {p rested : ℕ × ℕ} {rest : List ℕ} → RestCall text p rest rested → RestAs text l p rest rested
  rest_laid {p} c = rw c.is (record {
    is = laid_rest l;
    stands = pair_is c.block (c.stands ∙ ap (λ x. p.1 + x) (laid_rest_at l));
    within = laid_end l;
    shorter = laid_fewer l;
  })
