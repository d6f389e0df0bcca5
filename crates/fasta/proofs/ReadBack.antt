-- Records in plain form are read back.
-- Assumes nothing.
use mathlib.Core.Path.{◌≡◌, ap₂, ◌∙◌}
use mathlib.Core.List.{List, [], ◌∷◌}
use Rattle.ring.specs.Verdict.{Taken}
use Rattle.ring.specs.Judging.{most}
use Rattle.ring.proofs.Exactly.{roomed}
use Rattle.fasta.specs.Parts.{letters_of}
use Rattle.fasta.specs.Answers.{base_kind, letters_verdict}
use Rattle.fasta.specs.Demands.{bodies}
use Rattle.fasta.specs.Walks.{Item, Walk, Plain, plain_text, plain_items}
use Rattle.fasta.proofs.Lines.{joined-lines}
use Rattle.fasta.proofs.Layouts.{laid_tested, laid_header, laid_letters, laid_rest}
use Rattle.fasta.proofs.Places.{laid_some}
use Rattle.fasta.proofs.Walks.{item_of, item_is, stepped, walked_none}
use Rattle.fasta.proofs.PlainForm.{plain_layout, plain_letters}

-- the first item
plain_item : (p : Plain) (ps : List Plain)
    → item_of (plain_text (p ∷ ps)) ≡ record { header = p.header; number = 0; place = 0; letters = bodies p.lines }
plain_item p ps =
    let l = plain_layout p ps in
    let e : letters_of (plain_text (p ∷ ps)) ≡ bodies p.lines = laid_letters l ∙ plain_letters p in
    let v : letters_verdict (plain_text (p ∷ ps)) most ≡ Taken = rw e (roomed base_kind (bodies p.lines) most p.permitted p.permitted.within) in
    item_is (laid_header l) (rw (laid_tested l, v)) (rw (laid_tested l, v)) (rw (laid_tested l, v) e)

pub plain_back : (ps : List Plain) {es : List Item} → Walk (plain_text ps) es → es ≡ plain_items ps
plain_back [] w = walked_none w
plain_back (p ∷ ps) w =
    let l = plain_layout p ps in
    let x = stepped (laid_some l) w in
    x.are ∙ ap₂ (λ a b. a ∷ b) (plain_item p ps) (plain_back ps (rw (laid_rest l ∙ joined-lines (plain_text ps)) at x.walk))
