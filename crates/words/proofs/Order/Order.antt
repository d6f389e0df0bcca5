-- Laws of the order of words.
-- Assumes nothing.
use mathlib.Core.Path.{◌≡◌, refl, sym, ◌∙◌}
use mathlib.Core.Logic.{◌⊎◌, inl, inr, ⊎_elim}
use mathlib.Core.Bool.{Bool, true, false, true≢false}
use mathlib.Core.List.{List, [], ◌∷◌, ◌++◌}
use Prim.Native.Nat.{ℕ, zero, suc, ◌≤◌, ◌<◌}
use native.Mathlib.Omega.{arith}
use native.Mathlib.Nat.{lt_trans}
use borrow.Author.Tests.{lt-ltb, le-ltb, eq-eqb, ne_eqb}
use lib.ListN.{length, take, get_or}
use Rattle.words.specs.Order.Order.{◌≺◌, ends, letter, next, Published, longer, differs, ◌≪◌, here, later, ◌≼◌, before}

differ : {u v : List ℕ} → u ≺ v → u ≡ v → ⊥
differ ends e = let z : ◌≡◌ {A = ℕ} 0 1 = cc in omega arith
differ (letter {a} {b} h) e = let z : a ≡ b = cc in omega arith
differ (next q h) e = differ h (cc)

pub above_some : {u v : List ℕ} → u ≺ v → 0 < length v
above_some ends = omega arith
above_some (letter h) = omega arith
above_some (next q h) = omega arith

pub irrefl : {u : List ℕ} → u ≺ u → ⊥
irrefl h = differ h refl

pub trans : {u v w : List ℕ} → u ≺ v → v ≺ w → u ≺ w
trans ends (letter k) = ends
trans ends (next q k) = ends
trans (letter h) (letter k) = letter (lt_trans h k)
trans (letter h) (next q k) = letter (rw q at h)
trans (next p h) (letter k) = letter (rw (← p) at k)
trans (next p h) (next q k) = next (p ∙ q) (trans h k)

pub data Tri (u v : List ℕ) : Type 0 where
  less : u ≺ v → Tri u v
  same : u ≡ v → Tri u v
  more : v ≺ u → Tri u v

-- two numbers, compared: a < b, a = b or b < a
nat_tri : (a b : ℕ) → (a < b) ⊎ ((a ≡ b) ⊎ (b < a))
nat_tri zero zero = inr (inl refl)
nat_tri zero (suc b) = inl (omega arith)
nat_tri (suc a) zero = inr (inr (omega arith))
nat_tri (suc a) (suc b) = ⊎_elim (λ h. inl (omega arith)) (⊎_elim (λ h. inr (inl (omega arith))) (λ h. inr (inr (omega arith)))) (nat_tri a b)

pub tri : (u v : List ℕ) → Tri u v
tri [] [] = same refl
tri [] (b ∷ v) = less ends
tri (a ∷ u) [] = more ends
tri (a ∷ u) (b ∷ v) = go (nat_tri a b) (tri u v)
  where
    go : (a < b) ⊎ ((a ≡ b) ⊎ (b < a)) → Tri u v → Tri (a ∷ u) (b ∷ v)
    go (inl h) t = less (letter h)
    go (inr (inl e)) (less p) = less (next e p)
    go (inr (inl e)) (same p) = same (cc)
    go (inr (inl e)) (more p) = more (next (sym e) p)
    go (inr (inr h)) t = more (letter h)

uncons : {a b : ℕ} {u v : List ℕ} → a ≡ b → (a ∷ u) ≺ (b ∷ v) → u ≺ v
uncons e (letter h) = absurd (omega arith)
uncons e (next q h) = h

pub append_left : (r : List ℕ) {u v : List ℕ} → u ≺ v → r ++ u ≺ r ++ v
append_left [] h = h
append_left (a ∷ r) h = next refl (append_left r h)

pub cancel_left : (r u v : List ℕ) → r ++ u ≺ r ++ v → u ≺ v
cancel_left [] u v h = h
cancel_left (a ∷ r) u v h = cancel_left r u v (uncons refl h)

pub decided : {u v : List ℕ} → u ≪ v → u ≺ v
decided (here h) = letter h
decided (later e h) = next e (decided h)

pub decided_trans : {u v w : List ℕ} → u ≪ v → v ≪ w → u ≪ w
decided_trans (here h) (here k) = here (lt_trans h k)
decided_trans (here h) (later q k) = here (rw q at h)
decided_trans (later p h) (here k) = here (rw (← p) at k)
decided_trans (later p h) (later q k) = later (p ∙ q) (decided_trans h k)

pub decided_under : (r : List ℕ) {u v : List ℕ} → u ≪ v → r ++ u ≪ r ++ v
decided_under [] h = h
decided_under (a ∷ r) h = later refl (decided_under r h)

pub decided_more : {u v : List ℕ} (w z : List ℕ) → u ≪ v → u ++ w ≪ v ++ z
decided_more w z (here h) = here h
decided_more w z (later e h) = later e (decided_more w z h)

pub decided_left : {u v : List ℕ} (w : List ℕ) → u ≪ v → u ++ w ≪ v
decided_left w (here h) = here h
decided_left w (later e h) = later e (decided_left w h)

-- a word that comes before one that is no longer is decided at a letter; so on words of one length ≺ is ≪
pub decided_long : {u v : List ℕ} → u ≺ v → length v ≤ length u → u ≪ v
decided_long ends l = absurd (omega arith)
decided_long (letter h) l = here h
decided_long (next e h) l = later e (decided_long h (omega arith))

-- a word before another is decided at a letter, or is a proper prefix
pub decided_or_prefix : {u v : List ℕ} → u ≺ v → (u ≪ v) ⊎ ((w : List ℕ) × (v ≡ u ++ w) × (0 < length w))
decided_or_prefix (ends {b} {v}) = inr (b ∷ v, refl, omega arith)
decided_or_prefix (letter h) = inl (here h)
decided_or_prefix (next e h) = ⊎_elim (λ d. inl (later e d)) (λ p. inr (p.0, cc p.1, p.2)) (decided_or_prefix h)

pub prefix_before : (u v : List ℕ) → 0 < length v → u ≺ u ++ v
prefix_before [] [] h = absurd (omega arith)
prefix_before [] (b ∷ v) h = ends
prefix_before (a ∷ u) v h = next refl (prefix_before u v h)

-- a prefix is no greater
pub prefix_le : (u v : List ℕ) → u ≼ u ++ v
prefix_le [] v h = elim h [ ]
prefix_le (a ∷ u) v h = prefix_le u v (uncons refl h)

-- how a scan decides: equal letters below k, and a lesser one at k
pub decided_at : (k : ℕ) (u v : List ℕ) → take k u ≡ take k v → k < length u → k < length v → get_or u k 0 < get_or v k 0 → u ≪ v
decided_at k [] v e h l m = absurd (omega arith)
decided_at k (a ∷ u) [] e h l m = absurd (omega arith)
decided_at zero (a ∷ u) (b ∷ v) e h l m = here m
decided_at (suc k) (a ∷ u) (b ∷ v) e h l m = later {a = a} {b = b} (cc) (decided_at k u v (cc) (omega arith) (omega arith) m)

-- the same by letters, for two words of one length
pub lower_at : (u v : List ℕ) (k : ℕ) → length u ≡ length v → k < length u → ((j : ℕ) → j < k → get_or u j 0 ≡ get_or v j 0) → get_or u k 0 < get_or v k 0 → u ≺ v
lower_at [] v k e h m l = absurd (omega arith)
lower_at (a ∷ u) [] k e h m l = absurd (omega arith)
lower_at (a ∷ u) (b ∷ v) zero e h m l = letter l
lower_at (a ∷ u) (b ∷ v) (suc k) e h m l = next (m 0 (omega arith)) (lower_at u v k (omega arith) (omega arith) (λ j x. m (suc j) (omega arith)) l)

pub before_true : {u v : List ℕ} → u ≺ v → before u v ≡ true
before_true ends = refl
before_true (letter {a} {b} h) = simp (lt-ltb a b)
before_true (next {a} {b} q h) = simp (le-ltb a b (omega arith), eq-eqb a b q, before_true h)

pub before_less : (u v : List ℕ) → before u v ≡ true → u ≺ v
before_less u [] e = absurd (true≢false (sym e))
before_less [] (b ∷ v) e = ends
before_less (a ∷ u) (b ∷ v) e =
    ⊎_elim letter (⊎_elim (λ q. next q (before_less u v (simp (le-ltb a b (omega arith), eq-eqb a b q) at e)))
    (λ h. absurd (true≢false (sym (simp (le-ltb a b (omega arith), ne_eqb a b (omega arith)) at e))))) (nat_tri a b)

pub before_false : (u v : List ℕ) → v ≼ u → before u v ≡ false
before_false u v n = go (before u v) refl
  where
    go : (t : Bool) → before u v ≡ t → before u v ≡ false
    go true e = absurd (n (before_less u v e))
    go false e = e

pub before_no : {u v : List ℕ} → before u v ≡ false → v ≼ u
before_no e h = true≢false (sym (before_true h) ∙ e)

pub lt_le : {u v : List ℕ} → u ≺ v → u ≼ v
lt_le h k = irrefl (trans h k)

pub le_cases : {u v : List ℕ} → u ≼ v → (u ≡ v) ⊎ (u ≺ v)
le_cases {u} {v} h = go (tri u v)
  where
    go : Tri u v → (u ≡ v) ⊎ (u ≺ v)
    go (less k) = inr k
    go (same e) = inl e
    go (more k) = absurd (h k)

pub lt_of_le_lt : {u v w : List ℕ} → u ≼ v → v ≺ w → u ≺ w
lt_of_le_lt h k = ⊎_elim (λ e. rw e k) (λ p. trans p k) (le_cases h)

pub lt_of_lt_le : {u v w : List ℕ} → u ≺ v → v ≼ w → u ≺ w
lt_of_lt_le h k = ⊎_elim (λ e. rw (← e) h) (λ p. trans h p) (le_cases k)

pub le_trans : {u v w : List ℕ} → u ≼ v → v ≼ w → u ≼ w
le_trans h k m = h (lt_of_le_lt k m)

pub le_antisym : {u v : List ℕ} → u ≼ v → v ≼ u → u ≡ v
le_antisym h k = ⊎_elim (λ e. e) (λ p. absurd (k p)) (le_cases h)

pub le_or : (u v : List ℕ) → (u ≺ v) ⊎ (v ≼ u)
le_or u v = go (tri u v)
  where
    go : Tri u v → (u ≺ v) ⊎ (v ≼ u)
    go (less h) = inl h
    go (same e) = inr (rw e irrefl)
    go (more h) = inr (lt_le h)

-- ≺ is the published order
pub published : {u v : List ℕ} → u ≺ v → Published u v
published (ends {b} {v}) = longer (b ∷ v) (omega arith) refl
published (letter {a} {b} {u} {v} h) = differs [] u v a b h refl refl
published (next {a} {b} {u} {v} q h) = go (published h)
  where
    go : Published u v → Published (a ∷ u) (b ∷ v)
    go (longer z l e) = longer z l (cc)
    go (differs r s t x y l e f) = differs (a ∷ r) s t x y l (cc) (cc)

pub of_published : (u v : List ℕ) → Published u v → u ≺ v
of_published u v (longer z l e) = rw e (prefix_before u z l)
of_published u v (differs r s t a b l e f) = rw (e, f) (append_left r (letter l))
