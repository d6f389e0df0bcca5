-- The three demands on the calls on rings, and request 2 of 02: read this after `specs/`. Every theorem is about what a public call
-- answers and what it leaves in the lent tables and rooms; `Contracts` shows that whatever meets a call's contract is such a call.
-- Assumes nothing.
use mathlib.Core.Path.{◌≡◌, refl, sym, ap, ◌∙◌}
use mathlib.Core.Logic.{◌↔◌}
use mathlib.Core.Bool.{true, false, cond}
use mathlib.Core.List.{List, [], ◌∷◌}
use Prim.Native.Nat.{ℕ, ◌≤◌, ◌<◌, ◌-◌, ◌%◌}
use native.Mathlib.Omega.{arith}
use borrow.Author.Tests.{eq-eqb}
use lib.Dec.{eqb}
use lib.ListN.{length, take, get_or}
use lib.Seq.{take_at}
use Rattle.words.specs.Keys.Kind.{stranded}
use Rattle.words.specs.Rings.Ring.{IsStart, start, lowest, Lowest}
use Rattle.words.specs.Keys.Strand.{opposite, key, OneRing}
use Rattle.words.specs.Factors.Factor.{factor_table}
use Rattle.words.specs.Suffixes.Prefix.{IsLeastSuffix, least_suffix, suffix_table, start_table}
use Rattle.words.specs.Repeats.Repeat.{IsRepeat, repeat, WordTimes, Along}
use Rattle.words.specs.Duels.Duel.{duels, pairs}
use Rattle.words.proofs.Order.Search.{by_test}
use Rattle.words.proofs.Rings.Ring.{start_is}
use Rattle.words.proofs.Repeats.Repeat.{repeat_is, repeat_one, repeat_divides, lowest_along}
use Rattle.words.proofs.Repeats.Word.{lowest_word}
use Rattle.words.proofs.Keys.Molecule.{repeat_molecule}
use Rattle.words.proofs.Factors.Runs.{table_few}
use Rattle.words.proofs.Suffixes.Prefix.{least_suffix_is, length-suffix_table, suffix_table_at, length-start_table, start_table_at}
use Rattle.ring.specs.Verdict.{Verdict}
use Rattle.ring.specs.declared.answer.Checked.{Checked}
use Rattle.ring.specs.declared.answer.Factored.{Factored}
use Rattle.ring.specs.declared.answer.Fought.{Fought}
use Rattle.ring.specs.declared.answer.Repeated.{Repeated}
use Rattle.ring.specs.declared.answer.Marked.{Marked}
use Rattle.ring.specs.declared.answer.Compared.{Compared}
use Rattle.ring.specs.Judging.{Permitted, Given, verdict, taken, number_of, after}
use Rattle.ring.specs.Answers.{fewer, checked_as, factored_as, fought_as, repeated_as, marked_by, key_verdict, deposit}
use Rattle.ring.specs.Calls.{CheckCall, FactorsCall, SuffixesCall, StartsCall, DuelCall, RepeatCall, MarkCall, WriteLettersCall, WriteKeyCall, KeyCall, CheckKeyCall, WriteDepositCall, CompareCall}
use Rattle.ring.specs.Demands.{lent, AsRuled, LacksRoom, GivenKey, GivenOf, Divided, KeyOf, OneStart, OneMolecule, OverBases}
use Rattle.ring.proofs.Numbers.{nothing_lent, ruled, table_ruled}
use Rattle.ring.proofs.Entries.{divided, prefix_is}
use Rattle.ring.proofs.KeyOf.{key_of, key_only}
use Rattle.ring.proofs.KeyPart.{part_refused, marked_key, part_done, rooms_hold, roomy}
use Rattle.ring.proofs.Keyed.{rooms_ruled}
use Rattle.ring.proofs.Exactly.{taken_is, taken_permitted, permitted_taken}
use Rattle.ring.proofs.Permits.{permitted_molecule}
use Rattle.ring.proofs.Replies.{repeated_done}
use Rattle.ring.proofs.AsKey.{key_ruled}
use Rattle.ring.proofs.Deposited.{deposit_ruled, deposited, deposit_only}
use Rattle.ring.proofs.ComparedLemmas.{length-key, compared_exactly, compared_no, plain_no, six_first, yes_keys, yes_one}
use Rattle.ring.proofs.Verdicts.{number_permitted}
use Rattle.ring.proofs.Routes.{route_duels, one_start}
use Rattle.ring.proofs.EitherKind.{verdict_either, marked_either, lettered_either, keyed_either, part_either, front_either, back_either, same_either, as_key_either}

-- ==== 1. Every call takes every input; it declines by 01's number, in 01's order, exactly on the stated condition, and a call that
-- declines has changed nothing

module _ {w : List ℕ} {kind : ℕ} where
  pub check_ruled : {r : Checked} → CheckCall w kind r → AsRuled (Given kind w ⊥) r.number r.place [] []
  check_ruled c = rw c.answer (ruled kind w false nothing_lent [] [] (λ e. (tt, tt)) (λ e. tt))

  pub factors_ruled : {table left : List ℕ} {r : Factored} → FactorsCall w kind table r left
      → AsRuled (Given kind w (length table < length w)) r.number r.place (r.count ∷ r.start ∷ []) (lent table left r.count ∷ [])
  factors_ruled c = rw (c.answer, c.leaves) (table_ruled kind w (factor_table w) _ _ _ (λ p. table_few w) (λ e. (rw e refl, (rw e refl, tt))) (λ e. rw e refl))

  pub suffixes_ruled : {table left : List ℕ} {r : Checked} → SuffixesCall w kind table r left
      → AsRuled (Given kind w (length table < length w)) r.number r.place [] (lent table left (length w) ∷ [])
  suffixes_ruled c = rw (c.answer, c.leaves) (table_ruled kind w (suffix_table w) _ [] (length w) (λ p. omega (arith, length-suffix_table w)) (λ e. tt) (λ e. sym (length-suffix_table w)))

  pub starts_ruled : {table left : List ℕ} {r : Checked} → StartsCall w kind table r left
      → AsRuled (Given kind w (length table < length w)) r.number r.place [] (lent table left (length w) ∷ [])
  starts_ruled c = rw (c.answer, c.leaves) (table_ruled kind w (start_table w) _ [] (length w) (λ p. omega (arith, length-start_table w)) (λ e. tt) (λ e. sym (length-start_table w)))

  pub duel_ruled : {r : Fought} → DuelCall w kind r → AsRuled (Given kind w ⊥) r.number r.place (r.start ∷ r.pairs ∷ []) []
  duel_ruled c = rw c.answer (ruled kind w false nothing_lent _ [] (λ e. ((rw e refl, (rw e refl, tt)), tt)) (λ e. tt))

  pub repeat_ruled : {r : Repeated} → RepeatCall w kind r → AsRuled (Given kind w ⊥) r.number r.place (r.repeat ∷ []) []
  repeat_ruled c = rw c.answer (ruled kind w false nothing_lent _ [] (λ e. ((rw e refl, tt), tt)) (λ e. tt))

  pub mark_ruled : {r : Marked} → MarkCall w kind r → AsRuled (Given kind w ⊥) r.number r.place (r.n ∷ r.start ∷ r.strand ∷ []) []
  mark_ruled c = rw c.answer (ruled kind w false nothing_lent _ [] (λ e. ((rw e refl, (rw e refl, (rw e refl, tt))), tt)) (λ e. tt))

  pub write_letters_ruled : {room left : List ℕ} {r : Marked} → WriteLettersCall w kind room r left
      → AsRuled (Given kind w (length room < length w)) r.number r.place (r.n ∷ r.start ∷ r.strand ∷ []) (lent room left r.n ∷ [])
  write_letters_ruled c =
      rw (c.answer, c.leaves) (table_ruled kind w (key kind w) _ _ _ (λ p. omega (arith, length-key kind w p.some))
      (λ e. (rw e refl, (rw e refl, (rw e refl, tt)))) (λ e. rw e (sym (length-key kind w (taken_permitted kind w _ (taken_is _ e)).0.some))))

  -- for kind 0 nothing of the second room is written
  pub write_key_ruled : {first second one two : List ℕ} {r : Marked} → WriteKeyCall w kind first second r one two
      → AsRuled (Given kind w (LacksRoom kind w first second)) r.number r.place (r.n ∷ r.start ∷ r.strand ∷ [])
      (lent first one r.n ∷ lent second two (cond (stranded kind) r.n 0) ∷ [])
  write_key_ruled {first} {second} c = rw (c.answer, c.front, c.back) (rooms_ruled kind w first second)

-- letters judged as a key with a start and a strand
module _ {k : List ℕ} {kind at s : ℕ} where
  pub check_key_ruled : {r : Marked} → CheckKeyCall k kind at s r
      → AsRuled (GivenKey kind k at s ⊥) r.number r.place (r.n ∷ r.start ∷ r.strand ∷ []) []
  check_key_ruled c = rw c.answer (key_ruled kind k at s false nothing_lent _ [] (λ e. ((rw e refl, (rw e refl, (rw e refl, tt))), tt)) (λ e. tt))

  pub write_deposit_ruled : {room left : List ℕ} {r : Marked} → WriteDepositCall k kind at s room r left
      → AsRuled (GivenKey kind k at s (length room < length k)) r.number r.place (r.n ∷ r.start ∷ r.strand ∷ []) (lent room left r.n ∷ [])
  write_deposit_ruled {room} c = rw (c.answer, c.leaves) (deposit_ruled kind k at s room)

-- the comparison, with the ring that it names; 6 names the first; a refused one says no; different lengths of permitted rings are a plain no
module _ {u v : List ℕ} {kind : ℕ} {r : Compared} (c : CompareCall u v kind r) where
  pub compare_exactly : (k i x : ℕ) → ((r.number ≡ k) × (r.place ≡ i) × (r.ring ≡ x)) ↔ GivenOf kind u v k i x
  compare_exactly k i x = rw c.answer (compared_exactly kind u v k i x)

  pub compare_refused : (r.number ≡ 0 → ⊥) → r.same ≡ false
  compare_refused = rw c.answer (compared_no kind u v)

  pub compare_lengths : Permitted kind u → Permitted kind v → (length u ≡ length v → ⊥) → r ≡ record { number = 0; place = 0; ring = 0; same = false }
  compare_lengths p q n = c.answer ∙ plain_no kind u v p q n

  pub compare_six : r.number ≡ 6 → r.ring ≡ 1
  compare_six e = six_first kind u v ((compare_exactly 6 r.place r.ring).0 (e, refl, refl)) refl

-- ==== 2. Factors, least suffixes and starts of prefixes are those of the published definitions, and the key is 01's

module _ {w : List ℕ} {kind : ℕ} {table left : List ℕ} where
  -- the table's front holds the first positions of the only division into Lyndon words of which none is less than the one after it
  pub factors_divided : {r : Factored} → FactorsCall w kind table r left → r.number ≡ 0 → Divided w r.count left
  factors_divided c z = rw (c.answer, c.leaves) (divided kind w table (ap (λ (r : Factored). r.number) (sym c.answer) ∙ z))

  -- entry L - 1 is the first position of the least suffix of the prefix of length L
  pub suffixes_least : {r : Checked} → SuffixesCall w kind table r left → r.number ≡ 0 → (size : ℕ) → 0 < size → size ≤ length w
      → IsLeastSuffix (take size w) (get_or left (size - 1) 0)
  suffixes_least c z =
      rw c.leaves (prefix_is (verdict kind w (fewer (length table) w)) (suffix_table w) table (ap (λ (r : Checked). r.number) (sym c.answer) ∙ z) IsLeastSuffix least_suffix least_suffix_is w (length-suffix_table w) (suffix_table_at w))

  -- entry L - 1 is the start of the ring made of the prefix of length L alone
  pub starts_start : {r : Checked} → StartsCall w kind table r left → r.number ≡ 0 → (size : ℕ) → 0 < size → size ≤ length w
      → IsStart (take size w) (get_or left (size - 1) 0)
  starts_start c z =
      rw c.leaves (prefix_is (verdict kind w (fewer (length table) w)) (start_table w) table (ap (λ (r : Checked). r.number) (sym c.answer) ∙ z) IsStart start start_is w (length-start_table w) (start_table_at w))

-- the repeat (02, request 2)
module _ {w : List ℕ} {kind : ℕ} {r : Repeated} (c : RepeatCall w kind r) (z : r.number ≡ 0) where
  repeat_permitted : Permitted kind w
  repeat_permitted = number_permitted kind w false (ap (λ (r : Repeated). r.number) (sym c.answer) ∙ z)

  repeat_said : r ≡ record { number = 0; place = 0; repeat = repeat w }
  repeat_said = c.answer ∙ sym (repeated_done w _ (permitted_taken kind w false repeat_permitted refl) _ refl)

  -- "the smallest p from 1 to n such that turning the ring by p gives the same letters at every position" (02), and no other number is
  pub repeat_smallest : IsRepeat w r.repeat × ((p : ℕ) → IsRepeat w p → p ≡ r.repeat)
  repeat_smallest = rw repeat_said (repeat_is w repeat_permitted.some, repeat_one w)

  pub repeat_divides_n : length w % r.repeat ≡ 0
  repeat_divides_n = rw repeat_said (repeat_divides w repeat_permitted.some)

  -- the lowest reading is a Lyndon word of that length, n / repeat times over
  pub repeat_word : WordTimes (lowest w) r.repeat
  repeat_word = rw repeat_said (lowest_word w repeat_permitted.some)

  -- every reading of the ring, and of its opposite strand for a kind that has one, has this answer
  pub repeat_everywhere : {v : List ℕ} {q : Repeated} → OneRing kind w v → RepeatCall v kind q → q ≡ r
  repeat_everywhere {v} o d =
      rw repeat_said (d.answer ∙ sym (repeated_done v _ (permitted_taken kind v false (permitted_molecule kind w v repeat_permitted o) refl) _ (sym (repeat_molecule kind w v repeat_permitted.some o))))

  -- the positions whose reading is lowest are the start that `duel` answers, the start plus the repeat, and so on below n
  pub repeat_openings : {d : Fought} → DuelCall w kind d → (i : ℕ) → Lowest w i ↔ Along (length w) d.start r.repeat i
  repeat_openings d i = rw (repeat_said, d.answer, route_duels kind w repeat_permitted) (lowest_along w repeat_permitted.some i)

-- the key: its start and strand from `mark`; no other letters, start and strand are a key of the ring
module _ {w : List ℕ} {kind : ℕ} {m : Marked} (c : MarkCall w kind m) (z : m.number ≡ 0) where
  pub mark-key : (m.n ≡ length w) × KeyOf kind w m.start m.strand (key kind w)
  mark-key =
      let e : number_of (verdict kind w false) ≡ 0 = ap (λ (m : Marked). m.number) (sym c.answer) ∙ z in
      rw (c.answer, eq-eqb _ 0 e) (refl, key_of kind w (number_permitted kind w false e).some)

  pub mark_only : (at s : ℕ) (k : List ℕ) → KeyOf kind w at s k → (at ≡ m.start) × (s ≡ m.strand) × (k ≡ key kind w)
  mark_only at s k o = key_only kind w at m.start s m.strand k (key kind w) o mark-key.1

-- the rooms that `write_key` fills, and the part that `key` hands back: its numbers come from `write_key` on the same input
module _ {w : List ℕ} {kind : ℕ} {first second one two : List ℕ} {m : Marked} (c : WriteKeyCall w kind first second m one two) where
  number_said : m.number ≡ number_of (key_verdict kind w (length first) (length second))
  number_said = ap (λ (m : Marked). m.number) c.answer

  pub write_key_rooms : m.number ≡ 0 → (take m.n one ≡ lowest w) × (stranded kind ≡ true → take m.n two ≡ lowest (opposite w))
  write_key_rooms z =
      let n : m.n ≡ length w = ap (λ (m : Marked). m.n) c.answer ∙ rw (eq-eqb _ 0 (sym number_said ∙ z)) in
      rw (n, c.front, c.back) (rooms_hold kind w first second (sym number_said ∙ z))

  module _ {p q there : ℕ × ℕ} {part : List ℕ} (k : KeyCall w kind first second p q part there) where
    -- refused: an empty part at the front of the first room
    pub key_refused : (m.number ≡ 0 → ⊥) → (part ≡ []) × (there ≡ p)
    key_refused n = let e = part_refused kind w first second (λ z. n (number_said ∙ z)) in (k.is ∙ e.0, k.stands ∙ rw e.1)

    -- done: the key, in the room that its strand names
    pub key_is : m.number ≡ 0 → KeyOf kind w m.start m.strand part × (there ≡ cond (eqb m.strand 1) q p)
    key_is z = rw (k.is, k.stands, c.answer) (rw (part_done kind w first second (sym number_said ∙ z)) (marked_key kind w first second (sym number_said ∙ z)), refl)

-- the room that `write_letters` fills holds the key, with the marks answered
pub write_letters-key : {w : List ℕ} {kind : ℕ} {room left : List ℕ} {m : Marked} → WriteLettersCall w kind room m left → m.number ≡ 0
    → KeyOf kind w m.start m.strand (take m.n left)
write_letters-key {w} {kind} {room} c z =
    let v : Verdict = verdict kind w (fewer (length room) w) in
    let e : number_of v ≡ 0 = ap (λ (m : Marked). m.number) (sym c.answer) ∙ z in
    let h : 0 < length w = (number_permitted kind w (fewer (length room) w) e).some in
    rw (c.answer, c.leaves, eq-eqb (number_of v) 0 e) (rw (take_at (key kind w) _ (length w) (length-key kind w h)) (key_of kind w h))

-- the ring that `write_deposit` leaves has these letters for its key, with this start and strand, and no other ring has
module _ {k : List ℕ} {kind at s : ℕ} {room left : List ℕ} {m : Marked} (c : WriteDepositCall k kind at s room m left) (z : m.number ≡ 0) where
  pub write_deposit_ring : Permitted kind (take m.n left) × KeyOf kind (take m.n left) at s k
  write_deposit_ring = rw (c.answer, c.leaves) (deposited kind k at s room (ap (λ (m : Marked). m.number) (sym c.answer) ∙ z))

  pub write_deposit_only : (w : List ℕ) → Permitted kind w → KeyOf kind w at s k → w ≡ take m.n left
  write_deposit_only w p o = rw (c.answer, c.leaves) (deposit_only kind k at s room (ap (λ (m : Marked). m.number) (sym c.answer) ∙ z) w p o)

-- ==== 3. For every kind and every permitted ring with room enough: the starts from the factors, from the duels and from the last entry
-- of the start table are one number, the start and no other; the pairs are the duels', at most three a letter. And of two permitted
-- rings: yes, equal keys, and one being a turn of the other, or of its opposite strand for a kind that has one, are the same

module _ {kind : ℕ} {u v : List ℕ} (p : Permitted kind u) (q : Permitted kind v) where
  pub routes_agree : {t s t' s' : List ℕ} {f : Factored} {d : Fought} {x : Checked} {a b a' b' : List ℕ} {i j i' j' at at' : ℕ × ℕ} {k l : List ℕ} {c : Compared}
      → FactorsCall u kind t f t' → length u ≤ length t → DuelCall u kind d → StartsCall u kind s x s' → length u ≤ length s
      → KeyCall u kind a b i j k at → (LacksRoom kind u a b → ⊥) → KeyCall v kind a' b' i' j' l at' → (LacksRoom kind v a' b' → ⊥) → CompareCall u v kind c
      → OneStart u f d s' × OneMolecule kind u v c k l
  routes_agree {s = s} {a = a} {b = b} {a' = a'} {b' = b'} ft ht du st hs ku hu kv hv co = (
    rw (ft.answer, du.answer, st.leaves) (one_start kind u p _ ht s hs),
    rw (ku.is, kv.is, co.answer, part_done kind u a b (roomy kind u a b p hu), part_done kind v a' b' (roomy kind v a' b' q hv))
        (record { keys = yes_keys kind u v p q; molecule = yes_one kind u v p q }),
  )

-- "A ring of one letter has start 0 and 0 pairs" (01)
pub duel_one_letter : {a kind : ℕ} {d : Fought} → DuelCall (a ∷ []) kind d → (d.start ≡ 0) × (d.pairs ≡ 0)
unfolding duels pairs
duel_one_letter {a} {kind} c = by_test (taken (verdict kind (a ∷ []) false)) (λ t. rw (c.answer, t) (refl, refl)) (λ t. rw (c.answer, t) (refl, refl))

-- ==== 4. What is answered of a ring over A, C, G, T, and what is left in a table or room, is the same as kind 1 and as kind 2 (02, request 3)

module _ {w : List ℕ} (o : OverBases w) where
  pub check_either : {q r : Checked} → CheckCall w 1 q → CheckCall w 2 r → r ≡ q
  check_either c d = d.answer ∙ ap checked_as (verdict_either w o false) ∙ sym c.answer

  pub factors_either : {table one two : List ℕ} {q r : Factored} → FactorsCall w 1 table q one → FactorsCall w 2 table r two → (r ≡ q) × (two ≡ one)
  factors_either {table} c d =
      let e = verdict_either w o (fewer (length table) w) in
      (d.answer ∙ ap (λ v. factored_as v w) e ∙ sym c.answer, d.leaves ∙ ap (λ v. after v (factor_table w) table) e ∙ sym c.leaves)

  pub suffixes_either : {table one two : List ℕ} {q r : Checked} → SuffixesCall w 1 table q one → SuffixesCall w 2 table r two → (r ≡ q) × (two ≡ one)
  suffixes_either {table} c d =
      let e = verdict_either w o (fewer (length table) w) in
      (d.answer ∙ ap checked_as e ∙ sym c.answer, d.leaves ∙ ap (λ v. after v (suffix_table w) table) e ∙ sym c.leaves)

  pub starts_either : {table one two : List ℕ} {q r : Checked} → StartsCall w 1 table q one → StartsCall w 2 table r two → (r ≡ q) × (two ≡ one)
  starts_either {table} c d =
      let e = verdict_either w o (fewer (length table) w) in
      (d.answer ∙ ap checked_as e ∙ sym c.answer, d.leaves ∙ ap (λ v. after v (start_table w) table) e ∙ sym c.leaves)

  pub duel_either : {q r : Fought} → DuelCall w 1 q → DuelCall w 2 r → r ≡ q
  duel_either c d = d.answer ∙ ap (λ v. fought_as v w) (verdict_either w o false) ∙ sym c.answer

  pub repeat_either : {q r : Repeated} → RepeatCall w 1 q → RepeatCall w 2 r → r ≡ q
  repeat_either c d = d.answer ∙ ap (λ v. repeated_as v w) (verdict_either w o false) ∙ sym c.answer

  pub mark_either : {q r : Marked} → MarkCall w 1 q → MarkCall w 2 r → r ≡ q
  mark_either c d = d.answer ∙ marked_either w o false ∙ sym c.answer

  pub write_letters_either : {room one two : List ℕ} {q r : Marked} → WriteLettersCall w 1 room q one → WriteLettersCall w 2 room r two → (r ≡ q) × (two ≡ one)
  write_letters_either {room} c d =
      (d.answer ∙ marked_either w o (fewer (length room) w) ∙ sym c.answer, d.leaves ∙ lettered_either w o room ∙ sym c.leaves)

  -- both rooms
  pub write_key_either : {first second a b a' b' : List ℕ} {q r : Marked} → WriteKeyCall w 1 first second q a b → WriteKeyCall w 2 first second r a' b'
      → (r ≡ q) × (a' ≡ a) × (b' ≡ b)
  write_key_either {first} {second} c d = (
    d.answer ∙ keyed_either w o (length first) (length second) ∙ sym c.answer,
    d.front ∙ front_either w o first (length second) ∙ sym c.front,
    d.back ∙ back_either w o (length first) second ∙ sym c.back,
  )

  -- the key's letters, and where they stand
  pub key_either : {first second k l : List ℕ} {i j at there : ℕ × ℕ} → KeyCall w 1 first second i j k at → KeyCall w 2 first second i j l there → (l ≡ k) × (there ≡ at)
  key_either {first} {second} {i = i} {j = j} c d = (
    d.is ∙ part_either w o (length first) (length second) ∙ sym c.is,
    d.stands ∙ ap (λ (m : Marked). cond (eqb m.strand 1) j i) (keyed_either w o (length first) (length second)) ∙ sym c.stands,
  )

  -- letters judged as a key
  module _ {at s : ℕ} where
    pub check_key_either : {q r : Marked} → CheckKeyCall w 1 at s q → CheckKeyCall w 2 at s r → r ≡ q
    check_key_either c d = d.answer ∙ ap (λ v. marked_by v (length w) at s) (as_key_either w o at s false) ∙ sym c.answer

    pub write_deposit_either : {room one two : List ℕ} {q r : Marked} → WriteDepositCall w 1 at s room q one → WriteDepositCall w 2 at s room r two → (r ≡ q) × (two ≡ one)
    write_deposit_either {room} c d =
        let e = as_key_either w o at s (fewer (length room) w) in
        (d.answer ∙ ap (λ v. marked_by v (length w) at s) e ∙ sym c.answer, d.leaves ∙ ap (λ v. after v (deposit w at s) room) e ∙ sym c.leaves)

pub compare_either : {u v : List ℕ} → OverBases u → OverBases v → {q r : Compared} → CompareCall u v 1 q → CompareCall u v 2 r → r ≡ q
compare_either {u} {v} o p c d = d.answer ∙ rw (verdict_either u o false, verdict_either v p false, same_either u v) (sym c.answer)
