-- A room written from its front, one entry after another or one part behind another.
-- Assumes nothing.
use mathlib.Core.Path.{◌≡◌, refl, sym, ap, ◌∙◌}
use mathlib.Core.List.{List, [], ◌∷◌, ◌++◌, append-nil, append_assoc}
use Prim.Native.Nat.{ℕ, suc, ◌≤◌, ◌<◌, ◌+◌, ◌-◌}
use native.Mathlib.Omega.{arith}
use native.Mathlib.Numerals.{add-one}
use lib.ListN.{length, take, drop, get_or, set, length-append, length-drop}
use borrow.Rule.Slice.PartMut.{put_mid, post_of, Post-is}
use lib.Seq.{set_split, take_at, take_all, take-suc, drop_at, drop-drop, drop-length, length-take-le}
use Rattle.ring.specs.Judging.{over}

-- t is o with `new` written to its front
pub record Laid (new o t : List ℕ) : Type 0 where
  pub is : t ≡ over new o
  pub fits : length new ≤ length o

pub length_over : (new o : List ℕ) → length new ≤ length o → length (over new o) ≡ length o
length_over new o h = rw (length-append, length-drop) (omega arith)

module _ (new o t : List ℕ) (l : Laid new o t) where
  pub laid_size : length t ≡ length o
  laid_size = ap length l.is ∙ length_over new o l.fits

  -- one entry more
  pub laid_one : (i v : ℕ) → i ≡ length new → i < length o → Laid (new ++ (v ∷ [])) o (set t i v)
  laid_one i v e h =
      let n : i < length t = rw laid_size h in
      let a : take i t ≡ new = ap (take i) l.is ∙ take_at new (drop (length new) o) i (sym e) in
      let b : drop i t ≡ drop i o = ap (drop i) l.is ∙ drop_at new (drop (length new) o) i (sym e) ∙ rw (← e) in
      let c : drop (suc i) t ≡ drop (suc i) o = rw (← add-one) (sym (drop-drop 1 i t) ∙ ap (drop 1) b ∙ drop-drop 1 i o) in
      let d : length (new ++ (v ∷ [])) ≡ suc i = rw length-append (omega arith) in
      record { is = set_split t i v n ∙ rw (a, c, d) (sym (append_assoc new (v ∷ []) (drop (suc i) o))); fits = rw d (omega arith) }

pub laid_none : (o : List ℕ) → Laid [] o o
laid_none o = record { is = refl; fits = omega arith }

-- more entries, written to the front of the part that begins at c, and the part put back
pub laid_part : (new more o t y : List ℕ) (c : ℕ) → Laid new o t → length new ≡ c → c ≤ length t → length more ≤ length t - c
    → y ≡ over more (take (length t - c) (drop c t)) → Laid (new ++ more) o (put_mid c (length t - c) t y)
laid_part new more o t y c l e n h q =
    let a : take c t ≡ new = ap (take c) l.is ∙ take_at new (drop (length new) o) c e in
    let b : drop c t ≡ drop c o = ap (drop c) l.is ∙ drop_at new (drop (length new) o) c e ∙ rw e in
    let f : take (length t - c) (drop c t) ≡ drop c t = take_all (length t - c) (drop c t) (rw length-drop (omega arith)) in
    let z : post_of c (length t - c) t ≡ [] = Post-is c (length t) t n ∙ drop-length t in
    let d : length (new ++ more) ≡ c + length more = rw (length-append, e) in
    record {
      is = rw (z, append-nil, q, f, a, b, d, drop-drop (length more) c o) (sym (append_assoc new more (drop (c + length more) o)));
      fits = rw d (omega (arith, l.fits, length-drop c t, laid_size new o t l));
    }

-- two parts, one behind the other: the room after the first, and its back after the second
pub over_two : (a b old one two : List ℕ) (k : ℕ) → length a ≡ k → length a + length b ≤ length old → one ≡ over a old → two ≡ over b (take (length one - k) (drop k one))
    → put_mid k (length one - k) one two ≡ over (a ++ b) old
over_two a b old one two k n h e f =
    let l : Laid a old one = record { is = e; fits = omega arith } in
    let s : length one ≡ length old = laid_size a old one l in
    (laid_part a b old one two k l n (omega arith) (omega arith) f).is

-- ---- entries that are known beforehand, one after another

-- of a room that was `old`, the first i entries of `new` are written
pub record Partly (new old room : List ℕ) (i : ℕ) : Type 0 where
  pub within : i ≤ length new
  pub fits : length new ≤ length old
  pub laid : Laid (take i new) old room

pub partly_none : (new old : List ℕ) → length new ≤ length old → Partly new old old 0
partly_none new old h = record { within = omega arith; fits = h; laid = laid_none old }

pub partly_one : (new old room : List ℕ) (i v : ℕ) → Partly new old room i → i < length new → v ≡ get_or new i 0 → Partly new old (set room i v) (i + 1)
partly_one new old room i v p h e = record {
  within = omega arith;
  fits = p.fits;
  laid = rw (add-one i, take-suc new i 0 h, ← e) (laid_one (take i new) old room p.laid i v (sym (length-take-le i new p.within)) (omega (arith, p.fits)));
}

pub partly_all : (new old room : List ℕ) (i : ℕ) → Partly new old room i → length new ≤ i → room ≡ over new old
partly_all new old room i p h = p.laid.is ∙ rw (take_all i new h)
