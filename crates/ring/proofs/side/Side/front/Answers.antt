-- `ring::side::Side::front` meets its contract: the letters before m, or what faces the last m letters.
use Rattle.std.proofs.Common.{◌≡◌, take, ◌∙◌, ap, arith}
use Rattle.words.specs.Keys.Strand.{on_strand}
use Rattle.ring.specs.Numbered.{strand_number}
use Rattle.ring.proofs.OnStrand.{seen_size, front_own, front_opposite}
use Rattle.ring.proofs.side.Side.front.Goals.{in-Given, in-Opposite}
use Rattle.ring.proofs.side.Side.front.Goals as goal

pub overflow_sub-letters : goal.overflow_sub-letters
overflow_sub-letters c =
    omega (arith, seen_size (strand_number c.self.inside.strand) c.self.inside.letters.now _ c.self.view_is)

pub returns : goal.returns
returns c =
    let s = strand_number c.self.inside.strand in
    let w = c.self.inside.letters.now in
    let z = seen_size s w _ c.self.view_is in
    let e : on_strand s c.match-self.letters.now ≡ take c.args.m (on_strand s w) =
    elim c.match-self.branch [
      | in-Given i ↦ rw i.letters-is (front_own s w c.args.m (omega arith) (λ o. omega (arith, ap strand_number i.in-Given.is)))
      | in-Opposite i ↦ rw i.letters-is (front_opposite s w c.args.m (omega arith) (ap strand_number i.in-Opposite.is))
    ] in
    c.new.ensures.value ∙ e ∙ ap (take c.args.m) c.self.view_is
