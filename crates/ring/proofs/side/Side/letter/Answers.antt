-- `ring::side::Side::letter` meets its contract.
use Rattle.std.proofs.Common.{sym, ◌∙◌, ap, arith}
use Rattle.ring.specs.Numbered.{strand_number}
use Rattle.ring.proofs.OnStrand.{seen_size, at_opposite}
use Rattle.ring.proofs.side.Side.letter.Goals as goal

pub overflow_sub-self-inside : goal.overflow_sub-self-inside
overflow_sub-self-inside c = omega (arith, seen_size (strand_number c.self.inside.strand) c.self.inside.letters.now _ c.self.view_is)

pub overflow_sub-self-inside-in-Opposite : goal.overflow_sub-self-inside-in-Opposite
overflow_sub-self-inside-in-Opposite c = omega (arith, seen_size (strand_number c.self.inside.strand) c.self.inside.letters.now _ c.self.view_is)

pub bounds-self-inside-self-inside : goal.bounds-self-inside-self-inside
bounds-self-inside-self-inside c = omega (arith, seen_size (strand_number c.self.inside.strand) c.self.inside.letters.now _ c.self.view_is)

pub returns-in-Opposite : goal.returns-in-Opposite
returns-in-Opposite c =
    let f = c.self.inside in
    let o = at_opposite (strand_number f.strand) f.letters.now (ap strand_number c.in-Opposite.is) c.args.i (omega (arith, seen_size (strand_number c.self.inside.strand) c.self.inside.letters.now _ c.self.view_is)) in
    c.look_up.ensures ∙ sym (rw c.self.view_is at o)
