-- What the theorems of `proofs/Demands` say of a call: that it declines by the table, what a table or a key is, where routes agree.
-- Assumes nothing.
use Rattle.std.specs.Prelude.{◌≡◌, ◌↔◌, ◌⊎◌, true, List, [], ◌∷◌, ℕ, suc, ◌≤◌, ◌<◌, ◌-◌, ◌*◌, length, take, drop, get_or}
use Rattle.words.specs.Order.Order.{◌≺◌, ◌≼◌}
use Rattle.words.specs.Keys.Kind.{is_letter, stranded}
use Rattle.words.specs.Rings.Ring.{IsStart, reading, lowest}
use Rattle.words.specs.Keys.Strand.{opposite, on_strand, OneRing}
use Rattle.words.specs.Factors.Factor.{IsFactors, firsts}
use Rattle.words.specs.Duels.Duel.{duels, ended}
use Rattle.ring.specs.declared.answer.Factored.{Factored}
use Rattle.ring.specs.declared.answer.Fought.{Fought}
use Rattle.ring.specs.declared.answer.Compared.{Compared}
use Rattle.ring.specs.Judging.{Permitted, Given}
use Rattle.ring.specs.Answers.{IsKey}

-- ---- demand 1: a call declines by 01's number, and then has changed nothing

-- a lent table or room: as it was, as it is afterwards, and how many entries of its front are written
pub record Lent : Type 0 where
  pub was : List ℕ
  pub is : List ℕ
  pub written : ℕ

abbrev pub lent : List ℕ → List ℕ → ℕ → Lent
lent was is written = record { was = was; is = is; written = written }

-- each is as it was lent
abbrev pub AsLent : List Lent → Type 0
AsLent [] = Unit {0}
AsLent (l ∷ ls) = (l.is ≡ l.was) × AsLent ls

-- of each, what lies beyond the written entries is as it was
abbrev pub Beyond : List Lent → Type 0
Beyond [] = Unit {0}
Beyond (l ∷ ls) = ((length l.is ≡ length l.was) × (drop l.written l.is ≡ drop l.written l.was)) × Beyond ls

-- each field is 0
abbrev pub Zeros : List ℕ → Type 0
Zeros [] = Unit {0}
Zeros (x ∷ xs) = (x ≡ 0) × Zeros xs

-- a call with a number, a place and other fields, by a table of numbers and places
pub record AsRuled (Table : ℕ → ℕ → Type 0) (number place : ℕ) (others : List ℕ) (rooms : List Lent) : Type 0 where
  -- number k and place i are answered exactly when the table gives them
  pub exactly : (k i : ℕ) → ((number ≡ k) × (place ≡ i)) ↔ Table k i
  -- refused: "other fields are 0", "no lent byte changes" (01)
  pub refused : (number ≡ 0 → ⊥) → Zeros others × AsLent rooms
  -- done: "what lies beyond the written entries stays unchanged" (01)
  pub beyond : number ≡ 0 → Beyond rooms

-- 4 for the rooms of the key: "For kind 1 both rooms of the key count for 4, for kind 0 the first alone" (01), and kind 2 is "lent both
-- rooms as kind 1 is" (02)
abbrev pub LacksRoom : ℕ → List ℕ → List ℕ → List ℕ → Type 0
LacksRoom kind w first second = (length first < length w) ⊎ ((stranded kind ≡ true) × (length second < length w))

-- the table for letters judged as a key: 6, 1, 2 and 3 as for a ring; 7 where no permitted ring has this key, with this start and
-- strand; "then 4 for a room lent for the original" (01)
pub data GivenKey (kind : ℕ) (k : List ℕ) (at s : ℕ) (Lacks : Type 0) : ℕ → ℕ → Type 0 where
  as_ring : {n i : ℕ} → Given kind k ⊥ n i → (n ≡ 0 → ⊥) → GivenKey kind k at s Lacks n i
  not_key : Permitted kind k → (IsKey kind k at s → ⊥) → GivenKey kind k at s Lacks 7 0
  key_lacking : IsKey kind k at s → Lacks → GivenKey kind k at s Lacks 4 0
  key_done : IsKey kind k at s → (Lacks → ⊥) → GivenKey kind k at s Lacks 0 0

-- 01's table for the comparison, with the ring that is named: "the first ring is judged in full before the second". A wrong kind is
-- wrong for the first ring, so 6 names the first
pub data GivenOf (kind : ℕ) (u v : List ℕ) : ℕ → ℕ → ℕ → Type 0 where
  first : {k i : ℕ} → Given kind u ⊥ k i → (k ≡ 0 → ⊥) → GivenOf kind u v k i 1
  second : {k i : ℕ} → Permitted kind u → Given kind v ⊥ k i → (k ≡ 0 → ⊥) → GivenOf kind u v k i 2
  both : Permitted kind u → Permitted kind v → GivenOf kind u v 0 0 0

-- ---- demand 2: factors, tables and keys are the published ones

-- the front of the table holds the first positions of the only division into Lyndon words of which none is less than the one after it
pub record Divided (w : List ℕ) (count : ℕ) (table : List ℕ) : Type 0 where
  pub words : List (List ℕ)
  pub are : IsFactors w words
  pub only : (fs : List (List ℕ)) → IsFactors w fs → fs ≡ words
  pub counted : count ≡ length words
  pub entries : take count table ≡ firsts 0 words
  pub ascending : (i : ℕ) → suc i < count → get_or table i 0 < get_or table (suc i) 0

-- k is the key of a ring, with its start and strand
pub record KeyOf (kind : ℕ) (w : List ℕ) (at s : ℕ) (k : List ℕ) : Type 0 where
  -- it is the reading at its start, which is the start of the strand named
  pub letters : k ≡ reading (on_strand s w) at
  pub starts : IsStart (on_strand s w) at
  -- no reading of either strand is less
  pub own : (j : ℕ) → j < length w → k ≼ reading w j
  pub other : stranded kind ≡ true → (j : ℕ) → j < length w → k ≼ reading (opposite w) j
  -- the strand is 0 or 1, and 1 exactly when the opposite strand's lowest reading is strictly less
  pub named : s ≤ 1
  pub turned : (s ≡ 1) ↔ ((stranded kind ≡ true) × (lowest (opposite w) ≺ lowest w))

-- ---- demand 3: the routes agree, and the comparison

-- the starts from the factors, from the duels and from the last entry of the start table are one number, the start and no other; the
-- pairs are the duels', at most three a letter
pub record OneStart (w : List ℕ) (f : Factored) (d : Fought) (table : List ℕ) : Type 0 where
  pub by_duels : d.start ≡ f.start
  pub by_table : get_or table (length w - 1) 0 ≡ f.start
  pub start : IsStart w f.start
  pub only : (i : ℕ) → IsStart w i → i ≡ f.start
  -- the sequence of duels has ended, with this start and these pairs
  pub fought : duels w ≡ ended f.start d.pairs
  pub few : d.pairs ≤ 3 * length w

-- yes, equal keys and being one molecule are the same: a turn of the other or, for a kind with an opposite strand, of that strand
pub record OneMolecule (kind : ℕ) (u v : List ℕ) (c : Compared) (k l : List ℕ) : Type 0 where
  pub keys : (c.same ≡ true) ↔ (k ≡ l)
  pub molecule : (c.same ≡ true) ↔ OneRing kind u v

-- ---- kind 2 beside kind 1 (02, request 3)

-- every byte is one of A, C, G, T: the letters of a base ring (01)
abbrev pub OverBases : List ℕ → Type 0
OverBases w = (i : ℕ) → i < length w → is_letter 1 (get_or w i 0) ≡ true
