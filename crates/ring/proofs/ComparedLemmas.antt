-- The comparison: the keys agree just when the lowest readings do, on one strand or the other; and what is answered by the two verdicts.
-- Assumes nothing.
use mathlib.Core.Path.{◌≡◌, refl, sym, ap, ◌∙◌, subst}
use mathlib.Core.Logic.{inl, inr, ◌↔◌}
use mathlib.Core.Bool.{Bool, true, false, true≢false}
use mathlib.Core.List.{List}
use Prim.Native.Nat.{ℕ, ◌<◌}
use native.Mathlib.Omega.{arith}
use borrow.Author.Tests.{eq-eqb}
use lib.ListN.{length}
use Rattle.words.specs.Keys.Kind.{known, stranded}
use Rattle.words.specs.Rings.Ring.{reading, start, lowest}
use Rattle.words.specs.Keys.Strand.{opposite, on_strand, strand, key, OneRing}
use Rattle.words.proofs.Order.Search.{either, by_test}
use Rattle.words.proofs.Keys.Strand.{length-strand}
use Rattle.words.proofs.Rings.Turn.{length-lowest}
use Rattle.words.proofs.Keys.Molecule.{one_key, one_ring, one_lowest, lowest_one}
use Rattle.ring.specs.Judging.{Permitted, Given, unknown, none, many, letter, lacking, done, verdict, taken, number_of, place_of}
use Rattle.ring.specs.Answers.{equal, same_key, compared_of}
use Rattle.ring.specs.Demands.{GivenOf, first, second, both}
use Rattle.ring.proofs.Exactly.{taken_is, taken_permitted, permitted_taken}
use Rattle.ring.proofs.Numbers.{given_exactly, nothing_lent}
use Rattle.ring.proofs.Verdicts.{number_refused}
use Rattle.ring.proofs.Equal.{equal_true, equal_same, equal_false}

pub length-key : (kind : ℕ) (w : List ℕ) → 0 < length w → length (key kind w) ≡ length w
unfolding key
length-key kind w h =
    let n : length (on_strand (strand kind w) w) ≡ length w = length-strand (strand kind w) w in
    length-lowest (on_strand (strand kind w) w) (rw n h) ∙ n

-- ---- one key, by the lowest readings

module _ (kind : ℕ) (u v : List ℕ) (p : 0 < length u) (q : 0 < length v) where
  pub one_same : OneRing kind u v → same_key kind u v ≡ true
  one_same o = equal_true (sym (one_key kind u v o))

  pub same_one : same_key kind u v ≡ true → OneRing kind u v
  same_one e = one_ring kind u v p q (sym (equal_same _ _ e))

  differ : ((key kind u ≡ key kind v) → ⊥) → false ≡ same_key kind u v
  differ n = sym (equal_false n)

  pub same_length : (length u ≡ length v → ⊥) → false ≡ same_key kind u v
  same_length n = differ (λ e. n (sym (length-key kind u p) ∙ ap length e ∙ length-key kind v q))

  pub same_own : lowest u ≡ lowest v → true ≡ same_key kind u v
  same_own e = sym (one_same (lowest_one kind u v p q (inl (sym e))))

  module _ (n : lowest u ≡ lowest v → ⊥) where
    pub same_plain : stranded kind ≡ false → false ≡ same_key kind u v
    same_plain k =
        differ (λ e. either (one_lowest kind u v (one_ring kind u v p q (sym e))) (λ x. n (sym x)) (λ x. true≢false (sym x.0 ∙ k)))

    pub same_other : stranded kind ≡ true → (t : Bool) → t ≡ equal (lowest (opposite u)) (lowest v) → t ≡ same_key kind u v
    same_other k t f =
        by_test (equal (lowest (opposite u)) (lowest v))
        (λ e. f ∙ e ∙ sym (one_same (lowest_one kind u v p q (inr (k, sym (equal_same _ _ e))))))
        (λ e. f ∙ e ∙ differ (λ x. either (one_lowest kind u v (one_ring kind u v p q (sym x))) (λ y. n (sym y)) (λ y. true≢false (sym (equal_true (sym y.1)) ∙ e))))

-- ---- the same from the starts found, as a scan of the two readings tells

module _ (u v : List ℕ) (a b : ℕ) (x : a ≡ start u) (y : b ≡ start v) where
  pub read_same : equal (reading u a) (reading v b) ≡ true → lowest u ≡ lowest v
  unfolding lowest
  read_same e = rw (x, y) at (equal_same (reading u a) (reading v b) e)

  pub read_differ : equal (reading u a) (reading v b) ≡ false → lowest u ≡ lowest v → ⊥
  unfolding lowest
  read_differ e f = let g : reading u a ≡ reading v b = rw (x, y) f in true≢false (sym (equal_true g) ∙ e)

-- ---- each number of the comparison, with its place and the ring that it names

module _ (kind : ℕ) (u v : List ℕ) where
  -- what a comparison says: number k, place i and the ring x
  abbrev Names : ℕ → ℕ → ℕ → Type 0
  Names k i x = ((compared_of kind u v).number ≡ k) × ((compared_of kind u v).place ≡ i) × ((compared_of kind u v).ring ≡ x)

  -- the rings' own verdicts, as the table has them
  alone : (w : List ℕ) {k i : ℕ} → Given kind w ⊥ k i → (number_of (verdict kind w false) ≡ k) × (place_of (verdict kind w false) ≡ i)
  alone w {k} {i} g = (given_exactly kind w false nothing_lent k i).1 g

  given_alone : (w : List ℕ) → Given kind w ⊥ (number_of (verdict kind w false)) (place_of (verdict kind w false))
  given_alone w = (given_exactly kind w false nothing_lent _ _).0 (refl, refl)

  declined : (w : List ℕ) {k i : ℕ} → Given kind w ⊥ k i → (k ≡ 0 → ⊥) → taken (verdict kind w false) ≡ false
  declined w g n = number_refused (verdict kind w false) (λ e. n (sym (alone w g).0 ∙ e))

  not_done : (w : List ℕ) → taken (verdict kind w false) ≡ false → number_of (verdict kind w false) ≡ 0 → ⊥
  not_done w t e = true≢false (sym (eq-eqb _ 0 e) ∙ t)

  allowed : (w : List ℕ) → taken (verdict kind w false) ≡ true → Permitted kind w
  allowed w t = (taken_permitted kind w false (taken_is _ t)).0

  named_given : GivenOf kind u v (compared_of kind u v).number (compared_of kind u v).place (compared_of kind u v).ring
  named_given =
      by_test (taken (verdict kind u false))
      (λ t. by_test (taken (verdict kind v false)) (λ s. rw (t, s) (both (allowed u t) (allowed v s)))
      (λ s. rw (t, s) (second (allowed u t) (given_alone v) (not_done v s))))
      (λ t. rw t (first (given_alone u) (not_done u t)))

  given_named : {k i x : ℕ} → GivenOf kind u v k i x → Names k i x
  given_named (first g n) = rw (declined u g n) ((alone u g).0, (alone u g).1, refl)
  given_named (second p g n) = rw (permitted_taken kind u false p refl, declined v g n) ((alone v g).0, (alone v g).1, refl)
  given_named (both p q) = rw (permitted_taken kind u false p refl, permitted_taken kind v false q refl) (refl, refl, refl)

  named_as : {k i x : ℕ} → Names k i x → GivenOf kind u v k i x
  named_as {k} {i} {x} e =
      subst (λ a. GivenOf kind u v a i x) e.0
      (subst (λ b. GivenOf kind u v (compared_of kind u v).number b x) e.1 (subst (GivenOf kind u v (compared_of kind u v).number (compared_of kind u v).place) e.2 named_given))

  pub compared_exactly : (k i x : ℕ) → Names k i x ↔ GivenOf kind u v k i x
  compared_exactly k i x = (named_as, given_named)

  -- "In the comparison 6 names the first ring" (01): a ring before it would be of the same kind
  wrong_kind : (w : List ℕ) {k i : ℕ} → Given kind w ⊥ k i → k ≡ 6 → known kind ≡ false
  wrong_kind w (unknown k) e = k
  wrong_kind w (none k l) e = absurd (omega arith)
  wrong_kind w (many k l) e = absurd (omega arith)
  wrong_kind w (letter k l i h b g) e = absurd (omega arith)
  wrong_kind w (lacking p t) e = absurd (omega arith)
  wrong_kind w (done p t) e = absurd (omega arith)

  pub six_first : {k i x : ℕ} → GivenOf kind u v k i x → k ≡ 6 → x ≡ 1
  six_first (first g n) e = refl
  six_first (second p g n) e = absurd (true≢false (sym p.kinds ∙ wrong_kind v g e))
  six_first (both p q) e = absurd (omega arith)

  -- a refused comparison holds no
  pub compared_no : ((compared_of kind u v).number ≡ 0 → ⊥) → (compared_of kind u v).same ≡ false
  compared_no n =
      by_test (taken (verdict kind u false))
      (λ t. by_test (taken (verdict kind v false)) (λ s. absurd (n (rw (t, s)))) (λ s. rw (t, s)))
      (λ t. rw t)

-- ---- of permitted rings the comparison says yes exactly when the keys agree, and exactly when the rings are one

module _ (kind : ℕ) (u v : List ℕ) (p : Permitted kind u) (q : Permitted kind v) where
  says : (compared_of kind u v).same ≡ same_key kind u v
  says = rw (permitted_taken kind u false p refl, permitted_taken kind v false q refl)

  -- "Different lengths are a plain no" (01)
  pub plain_no : (length u ≡ length v → ⊥) → compared_of kind u v ≡ record { number = 0; place = 0; ring = 0; same = false }
  plain_no n = rw (permitted_taken kind u false p refl, permitted_taken kind v false q refl, ← same_length kind u v p.some q.some n)

  pub yes_keys : ((compared_of kind u v).same ≡ true) ↔ (key kind u ≡ key kind v)
  yes_keys = ((λ e. equal_same _ _ (sym says ∙ e)), (λ e. says ∙ equal_true e))

  pub yes_one : ((compared_of kind u v).same ≡ true) ↔ OneRing kind u v
  yes_one = ((λ e. same_one kind u v p.some q.some (sym says ∙ e)), (λ o. says ∙ one_same kind u v p.some q.some o))
