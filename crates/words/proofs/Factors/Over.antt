-- A Lyndon word u over and over, the last time in part, and the letter that comes next: the expected one, a greater, or a lesser.
-- Assumes nothing.
use mathlib.Core.Path.{◌≡◌, refl, sym, ap, ◌∙◌, subst}
use mathlib.Core.List.{List, [], ◌∷◌, ◌++◌, append-nil, append_assoc}
use Prim.Native.Nat.{ℕ, suc, ◌≤◌, ◌<◌, ◌+◌}
use native.Mathlib.Omega.{arith}
use native.Mathlib.Nat.{lt_trans}
use lib.ListN.{length, drop, length-append, length-drop}
use lib.Seq.{drop-append-le}
use Rattle.words.specs.Order.Order.{◌≺◌, letter, next, ◌≪◌, here, later}
use Rattle.words.specs.Factors.Lyndon.{Lyndon}
use Rattle.words.specs.Factors.Factor.{flat, copies}
pub use Rattle.words.specs.Factors.Scan.{Over, part, again}
use Rattle.words.proofs.Order.Order.{append_left, decided, decided_left, decided_under, prefix_before}
use Rattle.words.proofs.Factors.Lyndon.{join}

-- ---- a greater letter

-- to raise the letter that stands behind y keeps a longer word below
raise : {b c : ℕ} (x y s z : List ℕ) → x ≺ y ++ (b ∷ s) → b < c → length y < length x → x ≪ y ++ (c ∷ z)
raise (a ∷ x) [] s z (letter h) k l = here (lt_trans h k)
raise (a ∷ x) [] s z (next e h) k l = here (rw (← e) at k)
raise (a ∷ x) (d ∷ y) s z (letter h) k l = here h
raise (a ∷ x) (d ∷ y) s z (next e h) k l = later e (raise x y s z h k (omega arith))
raise [] y s z h k l = absurd (omega arith)

-- what is decided against a word that is no longer than u' is decided in u'
within : (u r v : List ℕ) → u ++ r ≪ v → length v ≤ length u → u ≪ v
within [] r [] h l = elim h [ ]
within (a ∷ u) r [] h l = elim h [ ]
within [] r (b ∷ v) h l = absurd (omega arith)
within (a ∷ u) r (b ∷ v) (here h) l = here h
within (a ∷ u) r (b ∷ v) (later e h) l = later e (within u r v h (omega arith))

module _ (v s : List ℕ) (b c : ℕ) (y : Lyndon (v ++ (b ∷ s))) (k : b < c) where
  raised_least : (i : ℕ) → 0 < i → i ≤ length v → v ++ (c ∷ []) ≺ drop i (v ++ (c ∷ []))
  raised_least i p l =
      rw (drop-append-le i v (c ∷ []) l)
      (decided (decided_left (c ∷ []) (within v (b ∷ s) (drop i v ++ (c ∷ []))
      (raise (v ++ (b ∷ s)) (drop i v) s [] (rw (drop-append-le i v (b ∷ s) l) at (y.least i p (rw length-append (omega arith)))) k (rw (length-append, length-drop) (omega arith)))
      (rw (length-append, length-drop) (omega arith)))))

  raised : Lyndon (v ++ (c ∷ []))
  raised = record { some = rw length-append (omega arith); least = λ i p l. raised_least i p (omega (arith, simp length-append at l)) }

  raised_above : v ++ (b ∷ s) ≺ v ++ (c ∷ [])
  raised_above = append_left v (letter k)

-- a letter greater than the expected one makes one Lyndon word of all letters so far
pub greater : (u v : List ℕ) (b c : ℕ) → Lyndon u → Over u v b → b < c → Lyndon (v ++ (c ∷ [])) × (u ≺ v ++ (c ∷ []))
greater u v b c y (part s e) k = (raised v s b c (rw e at y) k, rw e (raised_above v s b c (rw e at y) k))
greater u w b c y (again {v} o) k =
    let g = greater u v b c y o k in
    (rw append_assoc (join u (v ++ (c ∷ [])) y g.0 g.1), rw append_assoc (prefix_before u (v ++ (c ∷ [])) (rw length-append (omega arith))))

-- ---- the expected letter

whole : (u : List ℕ) → 0 < length u → (d : ℕ) × Over u u d
whole [] h = absurd (omega arith)
whole (d ∷ u) h = (d, subst (λ x. Over (d ∷ u) x d) (append-nil (d ∷ u)) (again (part u refl)))

-- the letters so far, and the expected one, are again u over and over
pub equal : (u v : List ℕ) (b : ℕ) → Over u v b → 0 < length u → (d : ℕ) × Over u (v ++ (b ∷ [])) d
equal u v b (part [] e) h = subst (λ x. (d : ℕ) × Over u x d) e (whole u h)
equal u v b (part (d ∷ s) e) h = (d, part s (e ∙ sym (append_assoc v (b ∷ []) (d ∷ s))))
equal u w b (again {v} o) h = let g = equal u v b o h in (g.0, rw append_assoc (again g.1))

-- the expected letter is the one that stands length u before
pub expected : (u v : List ℕ) (b : ℕ) → Over u v b → (s : List ℕ) × (u ++ v ≡ v ++ (b ∷ s))
expected u v b (part s e) = (s ++ v, ap (λ x. x ++ v) e ∙ append_assoc v (b ∷ s) v)
expected u w b (again {v} o) = let g = expected u v b o in (g.0, ap (λ x. u ++ x) g.1 ∙ sym (append_assoc u v (b ∷ g.0)))

-- ---- a lesser letter, or the end

less_rest : (v s z : List ℕ) (b : ℕ) → ((c : ℕ) (t : List ℕ) → z ≡ c ∷ t → c < b) → v ++ z ≺ v ++ (b ∷ s)
less_rest v s [] b h = rw append-nil (prefix_before v (b ∷ s) (omega arith))
less_rest v s (c ∷ t) b h = append_left v (letter (h c t refl))

far_rest : (v s z : List ℕ) (b : ℕ) → ((c : ℕ) (t : List ℕ) → z ≡ c ∷ t → c < b) → 0 < length z → v ++ z ≪ v ++ (b ∷ s)
far_rest v s [] b h l = absurd (omega arith)
far_rest v s (c ∷ t) b h l = decided_under v (here (h c t refl))

-- v z is u some times over and then something less than u, at a letter if z is not empty; fewer of v's letters than u has lie behind the copies
pub record Rest (u v z : List ℕ) : Type 0 where
  pub count : ℕ
  pub part : ℕ
  pub rest : List ℕ
  pub split : v ++ z ≡ flat (copies count u) ++ rest
  pub less : rest ≺ u
  pub far : 0 < length z → rest ≪ u
  pub short : part < length u
  pub read : length v ≡ length (flat (copies count u)) + part

pub lesser : (u v z : List ℕ) (b : ℕ) → Over u v b → ((c : ℕ) (t : List ℕ) → z ≡ c ∷ t → c < b) → Rest u v z
lesser u v z b (part s e) h = record {
  count = 0;
  part = length v;
  rest = v ++ z;
  split = refl;
  less = rw e (less_rest v s z b h);
  far = λ l. rw e (far_rest v s z b h l);
  short = rw (e, length-append) (omega arith);
  read = omega arith;
}
lesser u w z b (again {v} o) h =
    let r = lesser u v z b o h in
    record {
      count = suc r.count;
      part = r.part;
      rest = r.rest;
      split = append_assoc u v z ∙ ap (λ x. u ++ x) r.split ∙ sym (append_assoc u _ _);
      less = r.less;
      far = r.far;
      short = r.short;
      read = simp length-append (omega (arith, r.read));
    }
