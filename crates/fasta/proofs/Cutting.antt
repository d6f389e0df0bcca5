-- A text is cut into its lines in one way only: `lines_of` cuts it rightly, and lines rightly cut are those of the text that they make.
-- Assumes nothing.
use mathlib.Core.Path.{◌≡◌, refl, sym, ap, ◌∙◌}
use mathlib.Core.Bool.{Bool, true, false, ◌&&◌, true≢false}
use mathlib.Core.List.{List, [], ◌∷◌, ◌++◌, append-nil}
use Prim.Native.Nat.{ℕ, ◌<◌}
use native.Mathlib.Omega.{arith}
use lib.Dec.{eqb}
use lib.ListN.{length, drop}
use Rattle.words.proofs.Order.Search.{by_test, neither}
use Rattle.fasta.specs.Lines.{lf, cr, begins, Line, line, onto, lines_of, joined}
use Rattle.fasta.specs.Demands.{has, closes, Ended, by_lf, by_cr-lf, Whole, Every, Cut}
use Rattle.fasta.proofs.Lines.{by_end, joined-lines}

-- ---- the lines of a text are rightly cut

pub cut_behind : {ls : List Line} → Cut ls → Cut (drop 1 ls)
cut_behind Cut.none = Cut.none
cut_behind (Cut.last f h) = Cut.none
cut_behind (Cut.then w c) = c

-- a byte at the front of a line that ends in LF
front_seam : (b : ℕ) (s e t : List ℕ) → e ≡ lf ∷ [] → (eqb b cr && begins lf ((s ++ e) ++ t)) ≡ false → closes cr s ≡ false → closes cr (b ∷ s) ≡ false
front_seam b [] e t q c f = by_test (eqb b cr) (λ z. absurd (true≢false (rw (z, q) at c))) (λ z. z)
front_seam b (d ∷ s) e t q c f = f

cut_onto : (b : ℕ) {ls : List Line} → eqb b lf ≡ false → (eqb b cr && begins lf (joined ls)) ≡ false → Cut ls → Cut (onto b ls)
cut_onto b e c Cut.none = Cut.last {s = b ∷ []} (rw e) (omega arith)
cut_onto b e c (Cut.last {s} f h) = Cut.last {s = b ∷ s} (rw (e, f)) (omega arith)
cut_onto b e c (Cut.then {l} {ls} w d) =
    Cut.then {l = line (b ∷ l.body) l.ending} (record {
      end = w.end;
      within = rw (e, w.within);
      seam = λ q. front_seam b l.body l.ending (joined ls) q c (w.seam q);
    }) d

pub cut_lines : (text : List ℕ) → Cut (lines_of text)
cut_lines [] = Cut.none
cut_lines (b ∷ t) =
    by_end b t (λ e. rw e (Cut.then (record { end = by_lf; within = refl; seam = λ q. refl }) (cut_lines t)))
    (λ e c. rw (e, c) (Cut.then (record { end = by_cr-lf; within = refl; seam = λ q. refl }) (cut_behind (cut_lines t))))
    (λ e c. rw (e, c) (cut_onto b e (rw (joined-lines t) c) (cut_lines t)))

-- ---- lines rightly cut are the lines of their text

and_false : (t : Bool) → (t && false) ≡ false
and_false true = refl
and_false false = refl

-- a byte that ends no line
onto_next : (b : ℕ) (t : List ℕ) → eqb b lf ≡ false → (eqb b cr && begins lf t) ≡ false → lines_of (b ∷ t) ≡ onto b (lines_of t)
onto_next b t e c = rw (e, c)

last_is : (s : List ℕ) → has lf s ≡ false → 0 < length s → lines_of s ≡ line s [] ∷ []
last_is [] f h = absurd (omega arith)
last_is (b ∷ []) f h = onto_next b [] (neither (eqb b lf) false f).0 (and_false (eqb b cr))
last_is (b ∷ (c ∷ s)) f h =
    let p = neither (eqb b lf) (has lf (c ∷ s)) f in
    let q : (eqb b cr && begins lf (c ∷ s)) ≡ false = rw (neither (eqb c lf) (has lf s) p.1).0 (and_false (eqb b cr)) in
    onto_next b (c ∷ s) p.0 q ∙ ap (onto b) (last_is (c ∷ s) p.1 (omega arith))

end_is : {e : List ℕ} → Ended e → (t : List ℕ) → lines_of (e ++ t) ≡ line [] e ∷ lines_of t
end_is by_lf t = refl
end_is by_cr-lf t = refl

-- a byte of a whole line ends no line
seam_is : (b : ℕ) (s : List ℕ) {e : List ℕ} → Ended e → has lf s ≡ false → (e ≡ lf ∷ [] → closes cr (b ∷ s) ≡ false) → (t : List ℕ)
    → (eqb b cr && begins lf ((s ++ e) ++ t)) ≡ false
seam_is b [] by_lf f g t = rw (g refl)
seam_is b [] by_cr-lf f g t = and_false (eqb b cr)
seam_is b (c ∷ s) d f g t = rw (neither (eqb c lf) (has lf s) f).0 (and_false (eqb b cr))

closes_behind : (a b : ℕ) (s : List ℕ) → closes a (b ∷ s) ≡ false → closes a s ≡ false
closes_behind a b [] e = refl
closes_behind a b (c ∷ s) e = e

first_is : (s : List ℕ) {e : List ℕ} → Ended e → has lf s ≡ false → (e ≡ lf ∷ [] → closes cr s ≡ false) → (t : List ℕ)
    → lines_of ((s ++ e) ++ t) ≡ line s e ∷ lines_of t
first_is [] d f g t = end_is d t
first_is (b ∷ s) {e} d f g t =
    let p = neither (eqb b lf) (has lf s) f in
    onto_next b ((s ++ e) ++ t) p.0 (seam_is b s d p.1 g t)
    ∙ ap (onto b) (first_is s d p.1 (λ q. closes_behind cr b s (g q)) t)

lines-joined : {ls : List Line} → Cut ls → lines_of (joined ls) ≡ ls
lines-joined Cut.none = refl
lines-joined (Cut.last {s} f h) = ap lines_of (append-nil (s ++ []) ∙ append-nil s) ∙ last_is s f h
lines-joined (Cut.then {l} {ls} w c) =
    first_is l.body w.end w.within w.seam (joined ls) ∙ ap (λ x. l ∷ x) (lines-joined c)

pub cut_one : {ls : List Line} {text : List ℕ} → Cut ls → joined ls ≡ text → ls ≡ lines_of text
cut_one c e = sym (lines-joined c) ∙ ap lines_of e

-- ---- lines before and behind others

pub cut_before : {ls more : List Line} → Every Whole ls → Cut more → Cut (ls ++ more)
cut_before Every.none c = c
cut_before (Every.more w ws) c = Cut.then w (cut_before ws c)

pub cut_from : (ls : List Line) {more : List Line} → Cut (ls ++ more) → Cut more
cut_from [] c = c
cut_from (l ∷ ls) c = cut_from ls (cut_behind c)
