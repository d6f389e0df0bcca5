-- `ring::side::Side::len` meets its contract.
use Rattle.std.proofs.Common.{arith}
use Rattle.ring.specs.Numbered.{strand_number}
use Rattle.ring.proofs.OnStrand.{seen_size}
use Rattle.ring.proofs.side.Side.len.Goals as goal

pub returns-clause-value : goal.returns-clause-value
returns-clause-value c = seen_size (strand_number c.self.inside.strand) c.self.inside.letters.now _ c.self.view_is

pub returns-clause-twice : goal.returns-clause-twice
returns-clause-twice c = omega (arith, seen_size (strand_number c.self.inside.strand) c.self.inside.letters.now _ c.self.view_is)
