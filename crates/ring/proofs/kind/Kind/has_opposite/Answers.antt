-- `ring::kind::Kind::has_opposite` meets its contract.
use Rattle.words.specs.Keys.Kind.{stranded}
use Rattle.std.proofs.Common.{refl, inl, inr}
use Rattle.ring.proofs.kind.Kind.has_opposite.Goals as goal

pub returns-in-Feature : goal.returns-in-Feature
unfolding stranded
returns-in-Feature c = rw c.in-Feature.is refl

pub returns-in-Base : goal.returns-in-Base
unfolding stranded
returns-in-Base c = elim c.in-Base.is [ inl e ↦ rw e refl | inr e ↦ rw e refl ]
