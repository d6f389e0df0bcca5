-- A text walked record by record: every text has a walk, and any two give the same items.
-- Assumes nothing.
use mathlib.Core.Path.{◌≡◌, refl, sym, ap, ap₂, ◌∙◌}
use mathlib.Core.Bool.{cond}
use mathlib.Core.List.{List, [], ◌∷◌}
use Prim.Native.Nat.{ℕ, zero, suc, ◌≤◌, ◌<◌}
use native.Mathlib.Omega.{arith}
use borrow.Author.Tests.{le-ltb}
use lib.ListN.{length, take, replicate, length-replicate}
use Rattle.words.proofs.Order.Search.{by_test, either, lt_or_ge}
use Rattle.ring.specs.Judging.{most, verdict, taken}
use Rattle.ring.specs.Answers.{fewer}
use Rattle.ring.proofs.Judging.{says_long}
use Rattle.fasta.specs.declared.answer.Record.{Record}
use Rattle.fasta.specs.Parts.{unheaded, header_of, letters_of, rest_of}
use Rattle.fasta.specs.Answers.{base_kind, letters_verdict, record_of, record_room}
use Rattle.fasta.specs.Calls.{RecordCall, HeaderCall}
use Rattle.fasta.specs.Walks.{Item, Walk, Walked}
use Rattle.fasta.proofs.Remains.{rest_fewer}
use Rattle.fasta.proofs.Alike.{counted}

-- ---- every text has a walk: what remains is shorter

ends_empty : (text : List ℕ) → length text ≡ 0 → Walked text
ends_empty [] e = record { items = []; walk = Walk.end }
ends_empty (b ∷ t) e = absurd (omega arith)

-- a room for any ring
abbrev space : List ℕ
space = replicate {A = ℕ} most 0

ends_step : (text : List ℕ) → 0 < length text → Walked (rest_of text) → Walked text
ends_step text h e = record {
  items = _;
  walk = Walk.step {room = space} {p = (0, 0)} h (rw (length-replicate {A = ℕ} most 0) (omega arith)) (record { answer = refl; leaves = refl })
      (record { is = refl; block = refl; stands = refl }) (record { is = refl; block = refl; stands = refl }) e.walk;
}

ends_within : (fuel : ℕ) (text : List ℕ) → length text ≤ fuel → Walked text
ends_within zero text h = ends_empty text (omega arith)
ends_within (suc fuel) text h =
    either (lt_or_ge 0 (length text)) (λ o. ends_step text o (ends_within fuel (rest_of text) (omega (arith, rest_fewer text o))))
    (λ z. ends_empty text (omega arith))

pub text_walked : (text : List ℕ) → Walked text
text_walked text = ends_within (length text) text (omega arith)

-- ---- the first item does not depend on the room

-- a room of `most` bytes is short for no ring that is not too long
roomy : (w : List ℕ) (size : ℕ) → most ≤ size → verdict base_kind w (fewer size w) ≡ verdict base_kind w (fewer most w)
roomy w size h =
    either (lt_or_ge most (length w))
    (λ l. says_long base_kind w (fewer size w) refl (λ z. omega arith) l ∙ sym (says_long base_kind w (fewer most w) refl (λ z. omega arith) l))
    (λ m. ap (verdict base_kind w) (le-ltb size (length w) (omega arith) ∙ sym (le-ltb most (length w) m)))

abbrev pub item_of : List ℕ → Item
item_of text = record {
  header = header_of text;
  number = (record_of text most).number;
  place = (record_of text most).place;
  letters = cond (unheaded text) [] (cond (taken (letters_verdict text most)) (letters_of text) []);
}

pub item_is : {x y : Item} → x.header ≡ y.header → x.number ≡ y.number → x.place ≡ y.place → x.letters ≡ y.letters → x ≡ y
item_is a b c d = λ i. record { header = a i; number = b i; place = c i; letters = d i }

module _ (text room : List ℕ) (m : most ≤ length room) where
  number_is : (record_of text (length room)).number ≡ (record_of text most).number
  number_is = by_test (unheaded text) (λ u. rw u) (λ u. rw (u, roomy (letters_of text) (length room) m))

  place_is : (record_of text (length room)).place ≡ (record_of text most).place
  place_is = by_test (unheaded text) (λ u. rw u) (λ u. rw (u, roomy (letters_of text) (length room) m))

  letters_are : take (record_of text (length room)).n (record_room text room) ≡ (item_of text).letters
  letters_are =
      by_test (unheaded text) (λ u. rw u)
      (λ u. rw (u, roomy (letters_of text) (length room) m) (counted (letters_verdict text most) (letters_of text) room))

  first_item : {left head : List ℕ} {r : Record} {p headed : ℕ × ℕ} → RecordCall text room r left → HeaderCall text p head headed
      → ◌≡◌ {A = Item} (record { header = head; number = r.number; place = r.place; letters = take r.n left }) (item_of text)
  first_item c d = rw (c.answer, c.leaves) (item_is d.is number_is place_is letters_are)

-- ---- a walk is the first item, and a walk of what remains

pub record Stepped (text : List ℕ) (es : List Item) : Type 0 where
  pub others : List Item
  pub are : es ≡ item_of text ∷ others
  pub walk : Walk (rest_of text) others

pub stepped : {text : List ℕ} {es : List Item} → 0 < length text → Walk text es → Stepped text es
stepped h Walk.end = absurd (omega arith)
stepped h (Walk.step {text} {room} {es = es} k m c d f w) =
    record { others = es; are = ap (λ x. x ∷ es) (first_item text room m c d); walk = rw f.is at w }

pub walked_none : {es : List Item} → Walk [] es → es ≡ []
walked_none Walk.end = refl
walked_none (Walk.step h m c d f w) = absurd (omega arith)

-- any two walks of a text give the same items
pub one_walk : {text : List ℕ} {es fs : List Item} → Walk text es → Walk text fs → es ≡ fs
one_walk Walk.end w = sym (walked_none w)
one_walk (Walk.step {text} {room} h m c d f v) w =
    let x = stepped h w in
    ap₂ (λ a b. a ∷ b) (first_item text room m c d) (one_walk v (rw (← f.is) at x.walk)) ∙ sym x.are
