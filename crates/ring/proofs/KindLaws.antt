-- Kinds and strands had from their numbers.
-- Assumes nothing.
use Rattle.std.proofs.Common.{◌≡◌, refl, sym, ◌∙◌, ap, true, false, ℕ, ◌<◌, ◌≤◌, Result, Ok, Err, arith}
use borrow.Author.Tests.{eqb-true, eqb-false, lt-leb}
use lib.Dec.{eqb}
use Rattle.words.specs.Keys.Kind.{known, stranded, strands}
use Rattle.words.proofs.Order.Search.{by_test}
use Rattle.ring.specs.declared.kind.Kind.{Kind}
use Rattle.ring.specs.declared.kind.Kind.TheVariants.{Feature, Base, Iupac}
use Rattle.ring.specs.declared.strand.Strand.{Strand}
use Rattle.ring.specs.declared.strand.Strand.TheVariants.{Given, Opposite}
use Rattle.ring.specs.declared.refusals.Refusal.{Refusal}
use Rattle.ring.specs.declared.refusals.Refusal.TheVariants.{UnknownKind, NoKey}
use Rattle.ring.specs.Numbered.{kind_number, kind_numbered, strand_number, strand_numbered}

-- a kind that we have is known
pub known_kind : (k : Kind) → known (kind_number k) ≡ true
known_kind Feature = refl
known_kind Base = refl
known_kind Iupac = refl

-- a kind with an opposite strand has two, and no other has
pub two_strands : (n : ℕ) → eqb (strands n) 2 ≡ stranded n
unfolding strands stranded
two_strands n =
    by_test (eqb n 1) (λ a. rw (eqb-true n 1 a) refl)
    (λ a. by_test (eqb n 2) (λ b. rw (eqb-true n 2 b) refl) (λ b. by_test (known n) (λ k. rw (a, b, k) refl) (λ k. rw (a, b, k) refl)))

-- there are two strands
pub strand_two : (s : Strand) → strand_number s ≤ 1
strand_two Given = omega arith
strand_two Opposite = omega arith

-- the number of what was answered, or that which was asked for
abbrev kind_back : ℕ → Result Kind Refusal → ℕ
kind_back n (Ok k) = kind_number k
kind_back n (Err e) = n

abbrev strand_back : ℕ → Result Strand Refusal → ℕ
strand_back n (Ok s) = strand_number s
strand_back n (Err e) = n

module _ (n : ℕ) where
  kind_kept : kind_back n (kind_numbered n) ≡ n
  kind_kept =
      by_test (eqb n 0) (λ a. rw a (sym (eqb-true n 0 a)))
      (λ a. by_test (eqb n 1) (λ b. rw (a, b) (sym (eqb-true n 1 b))) (λ b. by_test (eqb n 2) (λ d. rw (a, b, d) (sym (eqb-true n 2 d))) (λ d. rw (a, b, d))))

  strand_kept : strand_back n (strand_numbered n) ≡ n
  strand_kept =
      by_test (eqb n 0) (λ a. rw a (sym (eqb-true n 0 a)))
      (λ a. by_test (eqb n 1) (λ b. rw (a, b) (sym (eqb-true n 1 b))) (λ b. rw (a, b)))

  pub kind_is : (k : Kind) → kind_numbered n ≡ Ok k → kind_number k ≡ n
  kind_is k e = sym (ap (kind_back n) e) ∙ kind_kept

  pub kind_known : (k : Kind) → kind_numbered n ≡ Ok k → known n ≡ true
  kind_known k e = ap known (sym (kind_is k e)) ∙ known_kind k

  pub strand_is : (s : Strand) → strand_numbered n ≡ Ok s → strand_number s ≡ n
  strand_is s e = sym (ap (strand_back n) e) ∙ strand_kept

  -- the refusal of a number that is no kind's
  pub kind_none : (e : Refusal) → kind_numbered n ≡ Err e → (e ≡ UnknownKind) × (known n ≡ false)
  kind_none e q =
      by_test (eqb n 0) (λ a. absurd (let z = rw a at q in cc))
      (λ a. by_test (eqb n 1) (λ b. absurd (let z = rw (a, b) at q in cc))
      (λ b. by_test (eqb n 2) (λ d. absurd (let z = rw (a, b, d) at q in cc))
      (λ d. (let z = rw (a, b, d) at q in cc, lt-leb n 2 (let x = eqb-false n 0 a in let y = eqb-false n 1 b in let z = eqb-false n 2 d in omega arith)))))

  -- and of one that is no strand's
  pub strand_none : (e : Refusal) → strand_numbered n ≡ Err e → (e ≡ NoKey) × (1 < n)
  strand_none e q =
      by_test (eqb n 0) (λ a. absurd (let z = rw a at q in cc))
      (λ a. by_test (eqb n 1) (λ b. absurd (let z = rw (a, b) at q in cc))
      (λ b. (let z = rw (a, b) at q in cc, let x = eqb-false n 0 a in let y = eqb-false n 1 b in omega arith)))
