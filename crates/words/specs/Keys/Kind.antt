-- Kinds (01, "Letters, rings, readings"; 02, request 3): all that tells one kind from another stands here.
-- Assumes nothing.
use Rattle.std.specs.Prelude.{Bool, true, cond, ◌||◌, ℕ, leb, eqb}
use Rattle.words.specs.Keys.Letter.{is_base, is_iupac}

-- a kind is 0, a feature ring, 1, a base ring (01), or 2, a base ring with uncertain letters: "6 means a kind above 2" (02)
abbrev pub known : ℕ → Bool
known kind = leb kind 2

-- kind 0: every byte is a letter; kind 1: A, C, G, T (01); kind 2: the fifteen letters (02)
abbrev pub is_letter : ℕ → ℕ → Bool
is_letter kind a = cond (eqb kind 0) true (cond (eqb kind 1) (is_base a) (is_iupac a))

-- whether rings of a kind have an opposite strand: base rings do (01), and "Kind 2 is keyed, compared .. as kind 1 is" (02)
unfoldable pub stranded : ℕ → Bool
stranded kind = eqb kind 1 || eqb kind 2

-- how many strands rings of a kind have, none if the kind is unknown: so a strand of a kind is a number below this
unfoldable pub strands : ℕ → ℕ
strands kind = cond (known kind) (cond (stranded kind) 2 1) 0
