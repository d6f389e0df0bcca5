-- A ring over A, C, G, T as kind 1 and as kind 2: it is judged alike and has the same key, so every definition of an answer, and of what
-- is left in a lent table or room, gives the same for both.
-- Assumes nothing.
use mathlib.Core.Path.{◌≡◌, refl, sym, ap, ap₂, ◌∙◌}
use mathlib.Core.Bool.{Bool, false, cond, not}
use mathlib.Core.List.{List, [], ◌∷◌, ◌++◌}
use Prim.Native.Nat.{ℕ, suc, ◌-◌}
use native.Mathlib.Omega.{arith}
use borrow.Author.Tests.{eqb-false}
use lib.ListN.{length}
use Rattle.words.specs.Keys.Kind.{stranded}
use Rattle.words.specs.Rings.Ring.{lowest}
use Rattle.words.specs.Keys.Strand.{opposite, strand, key_start, key}
use Rattle.words.proofs.Order.Search.{by_test}
use Rattle.words.proofs.Keys.Kind.{base_iupac}
use Rattle.words.proofs.Keys.Molecule.{strand_alike, start_alike, key_alike}
use Rattle.ring.specs.Rule.{Rule, rule, judged}
use Rattle.ring.specs.Verdict.{Verdict}
use Rattle.ring.specs.Verdict.{Taken, Short, NotKey}
use Rattle.ring.specs.Judging.{Permitted, first_bad, ring_rules, verdict, taken, after}
use Rattle.ring.specs.Answers.{fewer, marked_as, lettered_room, rooms_short, key_verdict, keyed_of, first_room, second_room, key_part, equal, same_key, deposit, is_key, as_key}
use Rattle.ring.specs.Demands.{OverBases}
use Rattle.ring.proofs.Exactly.{taken_permitted, taken_is}
use Rattle.ring.proofs.Verdicts.{refused_behind}
use Rattle.ring.proofs.Permits.{permitted_reading, permitted_strand}

both_stranded : stranded 2 ≡ stranded 1
unfolding stranded
both_stranded = refl

bad_either : (w : List ℕ) → OverBases w → first_bad 2 w ≡ first_bad 1 w
bad_either [] o = refl
bad_either (a ∷ w) o =
    let b = o 0 (omega arith) in
    rw (base_iupac a b, b) (ap suc (bad_either w (λ i h. o (suc i) (omega arith))))

module _ (w : List ℕ) (o : OverBases w) where
  rules_either : ring_rules 2 w ≡ ring_rules 1 w
  rules_either = rw (bad_either w o)

  pub verdict_either : (short : Bool) → verdict 2 w short ≡ verdict 1 w short
  unfolding verdict
  verdict_either short = ap (λ rs. judged (rs ++ rule short Short ∷ []) Taken) rules_either

pub strand_either : (w : List ℕ) → strand 2 w ≡ strand 1 w
strand_either = strand_alike 2 1 both_stranded

pub start_either : (w : List ℕ) → key_start 2 w ≡ key_start 1 w
start_either = start_alike 2 1 both_stranded

pub key_either : (w : List ℕ) → key 2 w ≡ key 1 w
key_either = key_alike 2 1 both_stranded

rooms_either : (n first second : ℕ) → rooms_short 2 n first second ≡ rooms_short 1 n first second
rooms_either n first second = rw both_stranded

-- ---- the key, its rooms and the comparison

pub same_either : (u v : List ℕ) → same_key 2 u v ≡ same_key 1 u v
same_either u v = ap₂ equal (key_either u) (key_either v)

module _ (w : List ℕ) (o : OverBases w) where
  pub marked_either : (short : Bool) → marked_as (verdict 2 w short) 2 w ≡ marked_as (verdict 1 w short) 1 w
  marked_either short = rw (verdict_either w o short, start_either w, strand_either w)

  pub lettered_either : (room : List ℕ) → lettered_room 2 w room ≡ lettered_room 1 w room
  lettered_either room = rw (verdict_either w o (fewer (length room) w), key_either w)

  module _ (first second : ℕ) where
    pub fits_either : key_verdict 2 w first second ≡ key_verdict 1 w first second
    fits_either = verdict_either w o (rooms_short 2 (length w) first second) ∙ ap (verdict 1 w) (rooms_either (length w) first second)

    pub keyed_either : keyed_of 2 w first second ≡ keyed_of 1 w first second
    keyed_either = ap (λ v. marked_as v 2 w) fits_either ∙ rw (start_either w, strand_either w)

    pub part_either : key_part 2 w first second ≡ key_part 1 w first second
    part_either = ap₂ (λ v k. cond (taken v) k []) fits_either (key_either w)

  pub front_either : (room : List ℕ) (second : ℕ) → first_room 2 w room second ≡ first_room 1 w room second
  front_either room second = ap (λ v. after v (lowest w) room) (fits_either (length room) second)

  pub back_either : (first : ℕ) (room : List ℕ) → second_room 2 w first room ≡ second_room 1 w first room
  back_either first room =
      ap₂ (λ b v. cond b (after v (lowest (opposite w)) room) room) both_stranded (fits_either first (length room))

-- ---- letters judged as a key

module _ (k : List ℕ) (o : OverBases k) (at s : ℕ) where
  -- letters that are permitted turn back to a ring over A, C, G, T
  is_key_either : Permitted 1 k → is_key 2 k at s ≡ is_key 1 k at s
  unfolding is_key deposit
  is_key_either p =
      let q = permitted_strand 1 s _ (permitted_reading 1 k (length k - at) (omega arith) p) in
      let w = deposit k at s in
      rw (verdict_either w q.letters false, key_either w, start_either w, strand_either w)

  abbrev judged_as : List (Rule Verdict) → Bool → Bool → Verdict
  judged_as rs passes short = judged (rs ++ rule (not passes) NotKey ∷ rule short Short ∷ []) Taken

  -- other letters are refused by the rules for rings, before they are judged as a key
  pub as_key_either : (short : Bool) → as_key 2 k at s short ≡ as_key 1 k at s short
  unfolding as_key
  as_key_either short =
      ap (λ rs. judged_as rs (is_key 2 k at s) short) (rules_either k o)
      ∙ by_test (taken (verdict 1 k false))
      (λ t. ap (λ b. judged_as (ring_rules 1 k) b short) (is_key_either (taken_permitted 1 k false (taken_is _ t)).0))
      (λ t. let behind = refused_behind 1 k (eqb-false _ _ t) in
      behind (rule (not (is_key 2 k at s)) NotKey ∷ rule short Short ∷ []) ∙ sym (behind (rule (not (is_key 1 k at s)) NotKey ∷ rule short Short ∷ [])))
