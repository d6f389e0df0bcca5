-- The rows of "Table to be proved" (01): ten rings of kind 1.
-- Assumes nothing.
use Rattle.std.specs.Prelude.{List, [], ◌∷◌, ℕ}
use Rattle.words.specs.Rings.Ring.{start}
use Rattle.words.specs.Keys.Letter.{A, C, G, T}
use Rattle.words.specs.Keys.Strand.{strand, key_start, key}
use Rattle.words.specs.Factors.Factor.{factor_table}
use Rattle.words.specs.Duels.Duel.{duels, Duels, ended}

pub record Row : Type 0 where
  pub ring : List ℕ
  pub factors : List ℕ
  pub start : ℕ
  pub duels : Duels
  pub strand : ℕ
  pub key_start : ℕ
  pub key : List ℕ

-- what the definitions say of a ring
abbrev pub answered : List ℕ → Row
answered w =
    record { ring = w; factors = factor_table w; start = start w; duels = duels w; strand = strand 1 w; key_start = key_start 1 w; key = key 1 w }

abbrev pub row : List ℕ → List ℕ → ℕ → ℕ → ℕ → ℕ → List ℕ → Row
row w fs s c st ks k = record { ring = w; factors = fs; start = s; duels = ended s c; strand = st; key_start = ks; key = k }

-- ring, factor table, start, pairs, strand, key's start, key
abbrev pub rows : List Row
rows =
    row (A ∷ []) (0 ∷ []) 0 0 0 0 (A ∷ [])
    ∷ row (A ∷ C ∷ []) (0 ∷ []) 0 1 0 0 (A ∷ C ∷ [])
    ∷ row (C ∷ A ∷ []) (0 ∷ 1 ∷ []) 1 1 0 1 (A ∷ C ∷ [])
    ∷ row (A ∷ A ∷ A ∷ A ∷ []) (0 ∷ 1 ∷ 2 ∷ 3 ∷ []) 0 4 0 0 (A ∷ A ∷ A ∷ A ∷ [])
    ∷ row (A ∷ C ∷ A ∷ C ∷ []) (0 ∷ 2 ∷ []) 0 5 0 0 (A ∷ C ∷ A ∷ C ∷ [])
    ∷ row (T ∷ A ∷ T ∷ A ∷ []) (0 ∷ 1 ∷ 3 ∷ []) 1 6 0 1 (A ∷ T ∷ A ∷ T ∷ [])
    ∷ row (A ∷ C ∷ A ∷ []) (0 ∷ 2 ∷ []) 2 3 0 2 (A ∷ A ∷ C ∷ [])
    ∷ row (A ∷ C ∷ G ∷ T ∷ []) (0 ∷ []) 0 3 0 0 (A ∷ C ∷ G ∷ T ∷ [])
    ∷ row (T ∷ T ∷ G ∷ A ∷ []) (0 ∷ 1 ∷ 2 ∷ 3 ∷ []) 3 4 1 2 (A ∷ A ∷ T ∷ C ∷ [])
    ∷ row (G ∷ A ∷ T ∷ T ∷ A ∷ C ∷ A ∷ []) (0 ∷ 1 ∷ 4 ∷ 6 ∷ []) 4 9 1 3 (A ∷ A ∷ T ∷ C ∷ T ∷ G ∷ T ∷ [])
    ∷ []
