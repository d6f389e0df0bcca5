-- The table of opposite letters: it undoes itself, keeps the letters of each kind, and leaves every other byte alone. Each is one test,
-- computed over all entries and carried to each.
-- Assumes nothing.
use mathlib.Core.Path.{◌≡◌, refl, sym, ap, ◌∙◌}
use mathlib.Core.Bool.{Bool, true, false, cond}
use mathlib.Core.List.{[], ◌∷◌, map}
use Prim.Native.Nat.{ℕ, ◌≤◌, ◌<◌}
use borrow.Author.Tests.{eqb-true}
use lib.Dec.{eqb}
use lib.ListN.{length, get_or, get_or-eq_default}
use Rattle.words.specs.Order.Search.{every}
use Rattle.words.specs.Keys.Letter.{A, B, C, D, G, H, K, M, N, R, S, T, «V», W, Y, is_base, is_iupac, fifteen}
use Rattle.words.specs.Keys.Kind.{is_letter}
use Rattle.words.specs.Keys.Facing.{bytes, opposites, other_of, facing_table, facing}
use Rattle.words.proofs.Order.Search.{by_test, either, lt_or_ge, every_at, length-tabled, tabled_any}

-- ---- an entry of the table, and a number that has none

pub facing_at : (a : ℕ) → a < bytes → get_or facing_table a 0 ≡ facing a
unfolding facing facing_table
facing_at a h = tabled_any (other_of opposites) bytes a 0 h ∙ sym (tabled_any (other_of opposites) bytes a a h)

table_bytes : length facing_table ≡ bytes
unfolding facing_table
table_bytes = length-tabled (other_of opposites) bytes

facing-beyond : (a : ℕ) → bytes ≤ a → facing a ≡ a
unfolding facing
facing-beyond a h = get_or-eq_default facing_table a {n = a} (rw table_bytes h)

-- ---- each rule: its test over all entries, and what it says of each number

abbrev undoes : ℕ → Bool
undoes a = eqb (facing (facing a)) a

all_undone : every undoes bytes ≡ true
unfolding facing facing_table
all_undone = refl

-- "the whole table is shown to undo itself" (02)
pub facing_twice : (a : ℕ) → facing (facing a) ≡ a
facing_twice a =
    either (lt_or_ge a bytes) (λ h. eqb-true (facing (facing a)) a (every_at undoes bytes all_undone a h))
    (λ h. ap facing (facing-beyond a h) ∙ facing-beyond a h)

abbrev letter_or_alone : ℕ → Bool
letter_or_alone a = cond (is_iupac a) true (eqb (facing a) a)

others_alone : every letter_or_alone bytes ≡ true
unfolding facing facing_table is_iupac
others_alone = refl

-- "every byte that isn't a letter maps to itself" (02)
pub facing_other : (a : ℕ) → is_iupac a ≡ false → facing a ≡ a
facing_other a e =
    either (lt_or_ge a bytes) (λ h. eqb-true (facing a) a (rw e at (every_at letter_or_alone bytes others_alone a h))) (facing-beyond a)

-- where a byte is one of some letters, so is its opposite
abbrev keeps : (ℕ → Bool) → ℕ → Bool
keeps L a = cond (L a) (L (facing a)) true

bases_kept : every (keeps is_base) bytes ≡ true
unfolding facing facing_table
bases_kept = refl

fifteen-kept : every (keeps is_iupac) bytes ≡ true
unfolding facing facing_table is_iupac
fifteen-kept = refl

kept : (L : ℕ → Bool) → every (keeps L) bytes ≡ true → (a : ℕ) → L a ≡ true → L (facing a) ≡ true
kept L t a e = either (lt_or_ge a bytes) (λ h. rw e at (every_at (keeps L) bytes t a h)) (λ h. rw (facing-beyond a h) e)

-- the opposite of a letter of a kind is a letter of that kind
pub facing_letter : (kind a : ℕ) → is_letter kind a ≡ true → is_letter kind (facing a) ≡ true
facing_letter kind a =
    by_test (eqb kind 0) (λ x. rw x (λ e. refl))
    (λ x. by_test (eqb kind 1) (λ y. rw (x, y) (kept is_base bases_kept a)) (λ y. rw (x, y) (kept is_iupac fifteen-kept a)))

-- the byte 0, which stands for a letter that is not there, is its own
pub facing_zero : facing 0 ≡ 0
unfolding facing facing_table
facing_zero = refl

-- 02's list of opposites, letter by letter
pub facing-fifteen : map facing fifteen ≡ T ∷ G ∷ C ∷ A ∷ Y ∷ R ∷ S ∷ W ∷ M ∷ K ∷ «V» ∷ H ∷ D ∷ B ∷ N ∷ []
unfolding facing facing_table
facing-fifteen = refl
