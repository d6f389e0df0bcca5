-- The demands on the calls on FASTA text (02, request 1): read this after `specs/`. Every theorem is about what a public call answers and
-- what it leaves in a lent room; `Contracts` shows that whatever meets a call's contract is such a call.
-- Assumes nothing.
use mathlib.Core.Path.{◌≡◌, refl, sym, ap, ◌∙◌}
use mathlib.Core.Logic.{◌⊎◌}
use mathlib.Core.Bool.{true}
use mathlib.Core.List.{List, [], ◌∷◌}
use Prim.Native.Nat.{ℕ, ◌<◌}
use native.Mathlib.Omega.{arith}
use lib.ListN.{length, take}
use Rattle.ring.specs.Judging.{Permitted}
use Rattle.ring.specs.Demands.{AsRuled, lent}
use Rattle.fasta.specs.declared.answer.Found.{Found}
use Rattle.fasta.specs.declared.answer.Record.{Record}
use Rattle.fasta.specs.Lines.{mark, begins, Line, lines_of, joined}
use Rattle.fasta.specs.Answers.{base_kind, at_front, refused_with}
use Rattle.fasta.specs.Calls.{FindCall, RecordCall, HeaderCall, RestCall}
use Rattle.fasta.specs.Demands.{Cut, Unheaded, RecordGiven, FoundGiven, TellsParts, bodies, Layout, RecordAs, HeaderAs, RestAs, Alike, SameLetters}
use Rattle.fasta.specs.Walks.{Item, Walk, Walked, headers, titles, Plain, plain_text, plain_items, AlikeTexts}
use Rattle.fasta.proofs.Lines.{joined-lines}
use Rattle.fasta.proofs.Cutting.{cut_lines, cut_one}
use Rattle.fasta.proofs.Layouts.{layout_of, laid_tested}
use Rattle.fasta.proofs.Remains.{none_header, none_rest, none_header_at, none_rest_at, rest_fewer, rest_begins, rest_tested}
use Rattle.fasta.proofs.Numbers.{unheaded_tested, headed_tested, tested_headed, record_as_lem}
use Rattle.fasta.proofs.Finding.{found_parts, found_as, same_parts}
use Rattle.fasta.proofs.ReadAs.{pair_is, done_permitted, record_laid, header_laid, rest_laid}
use Rattle.fasta.proofs.Alike.{laid_alike, answered_alike}
use Rattle.fasta.proofs.Walks.{text_walked, one_walk}
use Rattle.fasta.proofs.Titles.{walk_headers, titles_count}
use Rattle.fasta.proofs.AlikeTexts.{alike_items}
use Rattle.fasta.proofs.ReadBack.{plain_back}

-- ==== 1. Every call takes every text; it declines by its number exactly on the stated condition, and a call that declines has changed
-- nothing

-- refused: no byte of the room changes, n and the header are 0; the text that remains stands apart, since 02 amends 01 there
pub record_ruled : {text room left : List ℕ} {r : Record} → RecordCall text room r left
    → AsRuled (RecordGiven text (length room)) r.number r.place (r.n ∷ r.header.offset ∷ r.header.size ∷ []) (lent room left r.n ∷ [])
record_ruled {text} {room} c = rw (c.answer, c.leaves) (record_as_lem text room)

-- `find` declines with 8 alone
pub find_ruled : {text : List ℕ} {r : Found} → FindCall text r
    → AsRuled (FoundGiven text) r.number r.place (r.header.offset ∷ r.header.size ∷ r.rest.offset ∷ r.rest.size ∷ []) []
find_ruled {text} c = found_as text c.answer

-- and answers where the parts stand that `header` and `rest` hand back
pub find_parts : {text head rest : List ℕ} {r : Found} {p headed rested : ℕ × ℕ} → FindCall text r → HeaderCall text p head headed
    → RestCall text p rest rested → TellsParts r p head headed rest rested
find_parts {text} c h e =
    let f = found_parts text c.answer in
    rw (h.is, e.is, f.0, f.1) (record { of_header = (pair_is h.block h.stands, refl); of_rest = (pair_is e.block e.stands, refl) })

-- with 8 no text remains: every part is empty, at the text's front
pub record_nothing : {text room left : List ℕ} {r : Record} → RecordCall text room r left → Unheaded (lines_of text) → r ≡ refused_with 8 0 at_front
record_nothing {text} c u = c.answer ∙ rw (unheaded_tested text u)

pub header_nothing : {text part : List ℕ} {p there : ℕ × ℕ} → HeaderCall text p part there → Unheaded (lines_of text) → (part ≡ []) × (there ≡ p)
header_nothing {text} c u =
    let t = unheaded_tested text u in (c.is ∙ none_header text t, pair_is c.block (omega (arith, none_header_at text t)))

pub rest_nothing : {text part : List ℕ} {p there : ℕ × ℕ} → RestCall text p part there → Unheaded (lines_of text) → (part ≡ []) × (there ≡ p)
rest_nothing {text} c u =
    let t = unheaded_tested text u in (c.is ∙ none_rest text t, pair_is c.block (omega (arith, none_rest_at text t)))

-- what is read is a ring that every call takes
pub record_permitted : {text room left : List ℕ} {r : Record} → RecordCall text room r left → r.number ≡ 0 → Permitted base_kind (take r.n left)
record_permitted c z = done_permitted c z

-- `record` and `find` answer the same parts
pub record_finds : {text room left : List ℕ} {r : Record} {f : Found} → RecordCall text room r left → FindCall text f
    → (r.rest ≡ f.rest) × (r.number ≡ 0 → r.header ≡ f.header)
record_finds c d = same_parts c d

-- ==== 2. A text is its lines, and a record is its lines

-- the lines make the text, and are rightly cut; no other lines are both
pub lines_are : (text : List ℕ) → joined (lines_of text) ≡ text
lines_are text = joined-lines text

pub lines_cut : (text : List ℕ) → Cut (lines_of text)
lines_cut text = cut_lines text

pub lines_one : {ls : List Line} {text : List ℕ} → Cut ls → joined ls ≡ text → ls ≡ lines_of text
lines_one c e = cut_one c e

-- every text with a record is laid out so, and no other is
pub laid_out : (text : List ℕ) → (Unheaded (lines_of text) → ⊥) → Layout text
laid_out text n = layout_of text (headed_tested text n)

pub laid_headed : {text : List ℕ} → Layout text → Unheaded (lines_of text) → ⊥
laid_headed {text} l = tested_headed text (laid_tested l)

-- each call answers the parts of the layout: its letters, its header, and what remains
pub record_as_laid : {text room left : List ℕ} {r : Record} (l : Layout text) → RecordCall text room r left → RecordAs text l r left
record_as_laid l c = record_laid l c

pub header_as_laid : {text head : List ℕ} {p headed : ℕ × ℕ} (l : Layout text) → HeaderCall text p head headed → HeaderAs text l p head headed
header_as_laid l c = header_laid l c

pub rest_as_laid : {text rest : List ℕ} {p rested : ℕ × ℕ} (l : Layout text) → RestCall text p rest rested → RestAs text l p rest rested
rest_as_laid l c = rest_laid l c

-- ==== 3. A text of many records is walked to its end

-- what remains is empty or begins with a header, and is shorter
pub rest_opens : {text part : List ℕ} {p there : ℕ × ℕ} → RestCall text p part there → (part ≡ []) ⊎ (begins mark part ≡ true)
rest_opens {text} c = rw c.is (rest_begins text)

pub rest_shorter : {text part : List ℕ} {p there : ℕ × ℕ} → RestCall text p part there → 0 < length text → length part < length text
rest_shorter {text} c h = rw c.is (rest_fewer text h)

-- behind a record 8 is not given any more, until nothing is left
pub rest_headed : {text part : List ℕ} {p there : ℕ × ℕ} → RestCall text p part there → 0 < length part → Unheaded (lines_of part) → ⊥
rest_headed {text} {part} c h = tested_headed part (rw c.is (rest_tested text (rw c.is at h)))

-- every text has a walk to its end, record by record; that none goes on for ever is `rest_shorter`
pub walk_ends : (text : List ℕ) → Walked text
walk_ends text = text_walked text

-- any two give the same items, whatever rooms they lend: each has a byte for every letter of the longest ring
pub walk_one : {text : List ℕ} {es fs : List Item} → Walk text es → Walk text fs → es ≡ fs
walk_one v w = one_walk v w

-- of a text that does not give 8 no record is lost: a walk has an item for each header line, in order
pub walk_all : {text : List ℕ} {es : List Item} → (Unheaded (lines_of text) → ⊥) → Walk text es → titles es ≡ headers (lines_of text)
walk_all {text} n w = walk_headers (λ h. headed_tested text n) w

pub walk_count : {text : List ℕ} {es : List Item} → (Unheaded (lines_of text) → ⊥) → Walk text es → length es ≡ length (headers (lines_of text))
walk_count {es = es} n w = sym (titles_count es) ∙ ap length (walk_all n w)

-- a text of records in plain form reads back to just those records, in order
pub read_back : (ps : List Plain) {es : List Item} → Walk (plain_text ps) es → es ≡ plain_items ps
read_back ps w = plain_back ps w

-- ==== 4. What is read does not depend on line width, line ends, case or blanks

pub same_letters : {s t room room2 left left2 : List ℕ} {q r : Record} (l : Layout s) (m : Layout t) → Alike (bodies l.lines) (bodies m.lines)
    → RecordCall s room q left → RecordCall t room2 r left2 → length room ≡ length room2 → SameLetters q left r left2
same_letters {s} {t} {room} {room2} l m a c d h =
    rw (c.answer, c.leaves, d.answer, d.leaves)
    (answered_alike s t room room2 (laid_tested l) (laid_tested m) (laid_alike l m a) h)

-- and the whole text, record by record
pub same_items : {s t : List ℕ} {es fs : List Item} → AlikeTexts s t → Walk s es → Walk t fs → es ≡ fs
same_items a v w = alike_items a v w
