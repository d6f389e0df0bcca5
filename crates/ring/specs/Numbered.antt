-- The numbers that stand for kinds and strands: "Whenever an answer is an enum, a definition gives this paper's number and values for each of
-- the enum's cases" (01).
-- Assumes nothing.
use Rattle.std.specs.Prelude.{cond, ℕ, eqb, Result, Ok, Err}
use Rattle.ring.specs.declared.kind.Kind.{Kind}
use Rattle.ring.specs.declared.kind.Kind.TheVariants.{Feature, Base, Iupac}
use Rattle.ring.specs.declared.strand.Strand.{Strand}
use Rattle.ring.specs.declared.strand.Strand.TheVariants.{Given, Opposite}
use Rattle.ring.specs.declared.refusals.Refusal.{Refusal}
use Rattle.ring.specs.declared.refusals.Refusal.TheVariants.{UnknownKind, NoKey}

-- "Kind 0, a feature ring", "Kind 1, a base ring" (01), "Kind 2" (02)
abbrev pub kind_number : Kind → ℕ
kind_number Feature = 0
kind_number Base = 1
kind_number Iupac = 2

-- the kind with this number; "6 means a kind above 2" (02)
abbrev pub kind_numbered : ℕ → Result Kind Refusal
kind_numbered n = cond (eqb n 0) (Ok Feature) (cond (eqb n 1) (Ok Base) (cond (eqb n 2) (Ok Iupac) (Err UnknownKind)))

-- "its own lowest reading (strand 0) and that of its opposite strand (strand 1)" (01)
abbrev pub strand_number : Strand → ℕ
strand_number Given = 0
strand_number Opposite = 1

-- the strand with this number; with no other does a ring have a key
abbrev pub strand_numbered : ℕ → Result Strand Refusal
strand_numbered n = cond (eqb n 0) (Ok Given) (cond (eqb n 1) (Ok Opposite) (Err NoKey))
