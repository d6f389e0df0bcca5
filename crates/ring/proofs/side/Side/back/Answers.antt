-- `ring::side::Side::back` meets its contract: the letters from m on, or what faces the letters before the last m.
use Rattle.std.proofs.Common.{◌≡◌, drop, ◌∙◌, ap, arith}
use Rattle.words.specs.Keys.Strand.{on_strand}
use Rattle.ring.specs.Numbered.{strand_number}
use Rattle.ring.proofs.OnStrand.{seen_size, back_own, back_opposite}
use Rattle.ring.proofs.side.Side.back.Goals.{in-Given, in-Opposite}
use Rattle.ring.proofs.side.Side.back.Goals as goal

pub slice_bounds-letters-count-in-Opposite : goal.slice_bounds-letters-count-in-Opposite
slice_bounds-letters-count-in-Opposite c =
    omega (arith, seen_size (strand_number c.self.inside.strand) c.self.inside.letters.now _ c.self.view_is)

pub returns : goal.returns
returns c =
    let s = strand_number c.self.inside.strand in
    let w = c.self.inside.letters.now in
    let z = seen_size s w _ c.self.view_is in
    let e : on_strand s c.match-self.letters.now ≡ drop c.args.m (on_strand s w) =
    elim c.match-self.branch [
      | in-Given i ↦ rw i.letters-is (back_own s w c.args.m (omega arith) (λ o. omega (arith, ap strand_number i.in-Given.is)))
      | in-Opposite i ↦ rw i.letters-is (back_opposite s w c.args.m (omega arith) (ap strand_number i.in-Opposite.is))
    ] in
    c.new.ensures.value ∙ e ∙ ap (drop c.args.m) c.self.view_is
