-- Lines one behind another: the key's line, the five lines, and which are printed.
-- Assumes nothing.
use mathlib.Core.Path.{◌≡◌, refl, sym, ap, ◌∙◌}
use mathlib.Core.Bool.{Bool, true}
use mathlib.Core.List.{List, [], ◌∷◌, ◌++◌, append_assoc}
use Prim.Native.Nat.{ℕ, ◌≤◌, ◌<◌, ◌+◌, ◌-◌}
use native.Mathlib.Omega.{arith}
use borrow.Rule.Slice.PartMut.{put_mid}
use lib.ListN.{length, take, drop, set, length-append}
use lib.Seq.{take_at, drop_at, drop-drop}
use Rattle.std.proofs.Common.{Result, Ok}
use Rattle.ring.specs.declared.refusals.Refusal.{Refusal}
use Rattle.words.specs.Keys.Strand.{strand, key_start, key}
use Rattle.ring.specs.Judging.{most, verdict, place_of, over, Given, unknown, none, many, letter, lacking, done}
use Rattle.ring.proofs.Laid.{Laid, laid_one, laid_part, laid_size}
use Rattle.ring.proofs.Exactly.{given}
use Rattle.ring.proofs.ComparedLemmas.{length-key}
use Rattle.ring.proofs.MarkLaws.{start_below}
use Rattle.report.specs.Decimal.{row, row_room}
use Rattle.report.specs.Report.{longest, key_room, Printable, head_line, factor_line, suffix_line, start_line, key_line, five_lines}
use Rattle.report.proofs.Limits.{most_printed}

-- more entries, copied to their place behind those that are written
laid_between : (new more o t : List ℕ) (c k : ℕ) → Laid new o t → length new ≡ c → length more ≡ k → c + k ≤ length t → Laid (new ++ more) o (put_mid c k t more)
laid_between new more o t c k l e m h =
    let a : take c t ≡ new = ap (take c) l.is ∙ take_at new (drop (length new) o) c e in
    let b : drop c t ≡ drop c o = ap (drop c) l.is ∙ drop_at new (drop (length new) o) c e ∙ rw e in
    let d : length (new ++ more) ≡ c + k = rw (length-append, e, m) in
    record {
      is = rw (a, b, d, drop-drop k c o) (sym (append_assoc new more (drop (c + k) o)));
      fits = rw d (omega (arith, laid_size new o t l));
    }

-- ---- the key

module _ (w : List ℕ) (p : Printable w) where
  pub key_start_small : key_start 1 w < longest
  key_start_small = omega (arith, start_below 1 w p.permitted.some, p.within)

  pub key-length : length (key 1 w) ≡ length w
  key-length = length-key 1 w p.permitted.some

  -- the two numbers stand in front, and the key is copied behind them
  module _ (o t : List ℕ) (at : ℕ) (l : Laid (row 32 (strand 1 w ∷ key_start 1 w ∷ [])) o t) (n : at ≡ length (row 32 (strand 1 w ∷ key_start 1 w ∷ []))) (f : at ≤ row_room 2) (h : key_room ≤ length o) where
    key_laid : Laid (row 32 (strand 1 w ∷ key_start 1 w ∷ []) ++ key 1 w) o (put_mid at (at + length w - at) t (key 1 w))
    key_laid = laid_between _ (key 1 w) o t at (at + length w - at) l (sym n) (key-length ∙ omega arith) (omega (arith, laid_size _ o t l, p.within))

    key_size : length (row 32 (strand 1 w ∷ key_start 1 w ∷ []) ++ key 1 w) ≡ at + length w
    key_size = length-append (row 32 (strand 1 w ∷ key_start 1 w ∷ [])) (key 1 w) ∙ rw (← n, key-length)

    ended : Laid ((row 32 (strand 1 w ∷ key_start 1 w ∷ []) ++ key 1 w) ++ (10 ∷ [])) o (set (put_mid at (at + length w - at) t (key 1 w)) (at + length w) 10)
    ended = laid_one _ o _ key_laid (at + length w) 10 (sym key_size) (omega (arith, p.within))

    pub key-line : (at + length w + 1 ≡ length (key_line w)) × (length (key_line w) ≤ key_room) × (set (put_mid at (at + length w - at) t (key 1 w)) (at + length w) 10 ≡ over (key_line w) o)
    unfolding key_line
    key-line =
        let r : List ℕ = row 32 (strand 1 w ∷ key_start 1 w ∷ []) in
        let e : (r ++ key 1 w) ++ (10 ∷ []) ≡ r ++ (key 1 w ++ (10 ∷ [])) = append_assoc r (key 1 w) (10 ∷ []) in
        let q : at + length w + 1 ≡ length (r ++ (key 1 w ++ (10 ∷ []))) = rw (← e, length-append (r ++ key 1 w) (10 ∷ []), key_size) refl in
        (q, omega (arith, p.within), rw (← e) ended.is)

-- ---- one line behind another

-- a line that is answered, and a bound on its length
pub line_length : (x n m : ℕ) → ◌≡◌ {A = Result ℕ Refusal} (Ok x) (Ok n) × (n ≤ m) → (x ≡ n) × (x ≤ m)
line_length x n m h = let e : x ≡ n = cc (h.0) in (e, omega (arith, h.1))

-- `new` stands in the first c bytes, and r bytes more are written behind it
pub record Lined (new o t : List ℕ) (c : ℕ) : Type 0 where
  pub laid : Laid new o t
  pub size : length new ≡ c

pub lined_first : (new o t : List ℕ) (c : ℕ) → c ≡ length new → c ≤ length o → t ≡ over new o → Lined new o t c
lined_first new o t c e h q = record { laid = record { is = q; fits = rw (← e) h }; size = sym e }

pub lined_next : (new more o t y : List ℕ) (c r : ℕ) → Lined new o t c → r ≡ length more → c + r ≤ length o → y ≡ over more (take (length t - c) (drop c t)) → Lined (new ++ more) o (put_mid c (length t - c) t y) (c + r)
lined_next new more o t y c r l e h q =
    let n : length t ≡ length o = laid_size new o t l.laid in
    record {
      laid = laid_part new more o t y c l.laid l.size (omega arith) (rw (← e) (omega arith)) q;
      size = length-append new more ∙ rw (l.size, ← e);
    }

pub five : (w o t : List ℕ) (c : ℕ) → Lined ((((head_line w ++ factor_line w) ++ suffix_line w) ++ start_line w) ++ key_line w) o t c → (c ≡ length (five_lines w)) × (t ≡ over (five_lines w) o)
unfolding five_lines
five w o t c l =
    let e : (((head_line w ++ factor_line w) ++ suffix_line w) ++ start_line w) ++ key_line w ≡ head_line w ++ (factor_line w ++ (suffix_line w ++ (start_line w ++ key_line w))) = simp append_assoc in
    (sym l.size ∙ ap length e, l.laid.is ∙ rw e)

-- ---- one line, where the ring is declined

small_place : (kind : ℕ) (w : List ℕ) (Lacks : Type 0) {k i : ℕ} → Given kind w Lacks k i → i ≤ most
small_place kind w l (unknown k) = omega arith
small_place kind w l (none k e) = omega arith
small_place kind w l (many k m) = omega arith
small_place kind w l (letter k m i h b g) = omega arith
small_place kind w l (lacking p t) = omega arith
small_place kind w l (done p t) = omega arith

pub place_small : (kind : ℕ) (w : List ℕ) (short : Bool) → place_of (verdict kind w short) ≤ longest
place_small kind w short = omega (arith, small_place kind w (short ≡ true) (given kind w short), most_printed)
