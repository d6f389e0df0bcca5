-- `ring::kind::Kind::has_letter` meets its contract.
use Rattle.ring.proofs.Letters.{base-told, iupac_told}
use Rattle.ring.proofs.kind.Kind.has_letter.Goals as goal

pub returns-in-Base : goal.returns-in-Base
returns-in-Base c = rw c.in-Base.is (base-told _ _ c.requires c.ranges.a.fits)

pub returns-in-Iupac : goal.returns-in-Iupac
returns-in-Iupac c = rw c.in-Iupac.is (iupac_told _ _ c.requires c.ranges.a.fits)
