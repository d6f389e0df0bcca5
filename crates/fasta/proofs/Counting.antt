-- What the loop that counts the letters of a record keeps, and a law for each way it goes.
-- Assumes nothing.
use mathlib.Core.Path.{◌≡◌, refl, sym, ◌∙◌}
use mathlib.Core.Bool.{true, false}
use mathlib.Core.List.{List, [], ◌∷◌, ◌++◌}
use Prim.Native.Nat.{ℕ, ◌<◌, ◌≤◌, ◌+◌}
use native.Mathlib.Omega.{arith}
use lib.ListN.{length, take, drop, get_or}
use Rattle.std.specs.Prelude.{Option, Some, None}
use Rattle.std.specs.Option.{option_or}
use Rattle.fasta.specs.Lines.{upper}
use Rattle.fasta.specs.Bases.{base_of, bases_in}
use Rattle.fasta.specs.Scan.{keeps, turns, letters_in, rest_in, Stands, first_other, Counts, BasesEnd}
use Rattle.fasta.proofs.Bases.{base_is, base_letter, base_high, no_base, bases_more_some, bases_more_none}
use Rattle.fasta.proofs.Bytes.{keep_high}
use Rattle.fasta.proofs.Scanning.{cons}
use Rattle.fasta.proofs.Others.{length_more, other_good, other_bad}
use Rattle.fasta.proofs.Passing.{Passing, passing_none, all_passed, passing_kept, passing_on}

pub record Counting (text : List ℕ) (i n : ℕ) (other : Option ℕ) : Type 0 where
  pub passed : List ℕ
  pub passing : Passing text i passed
  pub size : n ≡ length passed
  pub first : other ≡ first_other passed
  -- the letters passed are the bases of the bytes passed, where all are bases
  pub bases : other ≡ None → bases_in (take i text) ≡ passed

pub count_first : (text : List ℕ) → Counting text 0 0 None
unfolding first_other
count_first text = record { passed = []; passing = passing_none text; size = refl; first = refl; bases = λ e. refl }

never : (o : Option ℕ) (n : ℕ) → option_or o (Some n) ≡ None → ⊥
never None n e = cc
never (Some k) n e = cc

module _ (text : List ℕ) (i n : ℕ) (other : Option ℕ) (s : Counting text i n other) where
  counts : (r : ℕ) → letters_in (drop i text) ≡ [] → Stands text (rest_in (drop i text)) r → (other ≡ None → bases_in (take r text) ≡ s.passed)
      → Counts text n other r
  counts r e d b =
      let a = all_passed text i s.passed s.passing e in
      record {
        size = rw a s.size;
        few = omega (arith, s.size, s.passing.few, s.passing.within);
        first = rw a s.first;
        remains = record { within = d.within; is = d.is ∙ sym s.passing.rest };
        bases = λ q. b q ∙ sym a;
      }

  module _ (h : i < length text) where
    abbrev c : ℕ
    c = get_or text i 0

    abbrev u : List ℕ
    u = drop (i + 1) text

    kept : keeps c u ≡ true → (k : Option ℕ) → k ≡ first_other (s.passed ++ (upper c ∷ []))
        → (k ≡ None → bases_in (take (i + 1) text) ≡ s.passed ++ (upper c ∷ [])) → Counting text (i + 1) (n + 1) k
    kept q k e b = record {
      passed = s.passed ++ (upper c ∷ []);
      passing = passing_kept text i s.passed s.passing h q;
      size = rw (length_more s.passed (upper c)) (omega (arith, s.size));
      first = e;
      bases = b;
    }

    -- a base
    pub count_base : 0 < base_of c → Counting text (i + 1) (n + 1) other
    count_base q =
        kept (sym (keep_high c u (base_high c q))) other
        (s.first ∙ sym (other_good s.passed (upper c) (base_letter c q)))
        (λ e. bases_more_some text i h q ∙ rw (s.bases e, base_is c q))

    module _ (z : base_of c ≤ 0) where
      -- a letter that is none
      pub count_other : keeps c u ≡ true → (k : Option ℕ) → k ≡ option_or other (Some n) → Counting text (i + 1) (n + 1) k
      count_other q k e =
          let f : k ≡ option_or (first_other s.passed) (Some (length s.passed)) = rw (← s.first, ← s.size) e in
          kept q k (f ∙ sym (other_bad s.passed (upper c) (no_base c z))) (λ y. absurd (never other n (sym e ∙ y)))

      module _ (q : keeps c u ≡ false) where
        passed_by : other ≡ None → bases_in (take (i + 1) text) ≡ s.passed
        passed_by e = bases_more_none text i h z ∙ s.bases e

        pub count_turn : turns c u ≡ true → Counts text n other (i + 1)
        count_turn e = counts (i + 1) (rw (cons text i h, q, e)) (record { within = omega arith; is = rw (cons text i h, e) }) passed_by

        pub count_on : turns c u ≡ false → Counting text (i + 1) n other
        count_on e =
            record { passed = s.passed; passing = passing_on text i s.passed s.passing h q e; size = s.size; first = s.first; bases = passed_by }

-- ---- where the last base ends

module _ (text : List ℕ) (i : ℕ) where
  -- it has just ended
  pub bases_end_here : BasesEnd text i i
  bases_end_here = record { within = omega arith; same = refl }

  -- a byte that has none is passed over
  pub bases_end_on : (e : ℕ) → BasesEnd text i e → i < length text → base_of (get_or text i 0) ≤ 0 → BasesEnd text (i + 1) e
  bases_end_on e s h z = record { within = omega (arith, s.within); same = s.same ∙ sym (bases_more_none text i h z) }
