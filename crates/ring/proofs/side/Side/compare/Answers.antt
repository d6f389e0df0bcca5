-- `ring::side::Side::compare` meets its contract: letters that are the same are read alike, and letters that differ are not.
use Rattle.std.proofs.Common.{◌∙◌, arith}
use Rattle.std.specs.Cmp.{ranked}
use Rattle.ring.specs.Numbered.{strand_number}
use Rattle.ring.proofs.OnStrand.{seen_size, seen_alike, seen_shown}
use Rattle.ring.proofs.side.Side.compare.Goals as goal

pub place-requires : goal.place-requires
place-requires c = omega (arith, seen_size (strand_number c.self.inside.strand) c.self.inside.letters.now _ c.self.view_is)

pub place-requires-2 : goal.place-requires-2
place-requires-2 c = omega (arith, seen_size (strand_number c.self.inside.strand) c.self.inside.letters.now _ c.self.view_is)

pub returns-then-a-b : goal.returns-then-a-b
returns-then-a-b c =
    seen_alike (strand_number c.self.inside.strand) c.self.inside.letters.now _ c.self.view_is _ _ _ _ c.requires.0 c.requires.1 c.place.ensures.0 c.place-2.ensures.0 c.if-a-b.true

pub returns : goal.returns
returns c =
    let e = seen_shown (strand_number c.self.inside.strand) c.self.inside.letters.now _ c.self.view_is _ _ _ _ c.requires.0 c.requires.1 c.place.ensures.0 c.place-2.ensures.0 in
    ranked _ _ _ (c.cmp.ensures ∙ rw (c.shown.ensures ∙ e.0, c.shown-2.ensures ∙ e.1))
