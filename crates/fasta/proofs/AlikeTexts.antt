-- Texts that are alike record by record give the same items.
-- Assumes nothing.
use mathlib.Core.Path.{◌≡◌, sym, ap₂, ◌∙◌}
use mathlib.Core.List.{List, ◌∷◌}
use Prim.Native.Nat.{ℕ}
use Rattle.fasta.specs.Parts.{letters_of}
use Rattle.fasta.specs.Demands.{Layout, bodies, Alike}
use Rattle.fasta.specs.Walks.{Item, Walk, AlikeTexts}
use Rattle.fasta.proofs.Layouts.{laid_tested, laid_header, laid_rest}
use Rattle.fasta.proofs.Places.{laid_some}
use Rattle.fasta.proofs.Alike.{laid_alike}
use Rattle.fasta.proofs.Walks.{item_of, item_is, stepped, walked_none}

alike_item : {s t : List ℕ} (l : Layout s) (m : Layout t) → l.header ≡ m.header → Alike (bodies l.lines) (bodies m.lines) → item_of s ≡ item_of t
alike_item {s} {t} l m h a =
    let e : letters_of s ≡ letters_of t = laid_alike l m a in
    item_is (laid_header l ∙ h ∙ sym (laid_header m)) (rw (laid_tested l, laid_tested m, e)) (rw (laid_tested l, laid_tested m, e)) (rw (laid_tested l, laid_tested m, e))

pub alike_items : {s t : List ℕ} {es fs : List Item} → AlikeTexts s t → Walk s es → Walk t fs → es ≡ fs
alike_items AlikeTexts.end v w = walked_none v ∙ sym (walked_none w)
alike_items (AlikeTexts.more l m h a r) v w =
    let x = stepped (laid_some l) v in
    let y = stepped (laid_some m) w in
    x.are ∙ ap₂ (λ a b. a ∷ b) (alike_item l m h a) (alike_items r (rw (laid_rest l) at x.walk) (rw (laid_rest m) at y.walk)) ∙ sym y.are
