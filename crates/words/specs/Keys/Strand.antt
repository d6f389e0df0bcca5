-- The opposite strand, the key with its strand and start, rings that are one molecule (01, "Letters, rings, readings").
-- Assumes nothing.
use Rattle.std.specs.Prelude.{◌≡◌, ◌⊎◌, true, cond, List, map, reverse, ℕ, eqb}
use Rattle.words.specs.Order.Order.{before}
use Rattle.words.specs.Keys.Kind.{stranded}
use Rattle.words.specs.Keys.Facing.{facing}
use Rattle.words.specs.Rings.Ring.{start, lowest, IsReading}

-- the opposite strand: the letters in backward order, each exchanged (01)
unfoldable pub opposite : List ℕ → List ℕ
opposite w = reverse (map facing w)

-- the ring as it stands on a strand: 0 as given, 1 the opposite
abbrev pub on_strand : ℕ → List ℕ → List ℕ
on_strand s w = cond (eqb s 1) (opposite w) w

-- the strand that holds the key: 1 where the kind has an opposite strand and its lowest reading is the lesser; if they are equal, 0 (01)
unfoldable pub strand : ℕ → List ℕ → ℕ
strand kind w = cond (stranded kind) (cond (before (lowest (opposite w)) (lowest w)) 1 0) 0

-- the key's start is the start on the strand so named (01)
unfoldable pub key_start : ℕ → List ℕ → ℕ
key_start kind w = start (on_strand (strand kind w) w)

-- the key is the lowest reading of that strand (01)
unfoldable pub key : ℕ → List ℕ → List ℕ
key kind w = lowest (on_strand (strand kind w) w)

-- v is a turn of u or, for a kind with an opposite strand, of u's opposite strand (01, "TTGA and TCAA are one molecule")
abbrev pub OneRing : ℕ → List ℕ → List ℕ → Type 0
OneRing kind u v = IsReading u v ⊎ ((stranded kind ≡ true) × IsReading (opposite u) v)
