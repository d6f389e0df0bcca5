-- `ring::kind::strands_of` meets its contract.
use Rattle.std.proofs.Common.{sym, ◌∙◌, ap}
use Rattle.words.specs.Keys.Kind.{stranded}
use Rattle.words.proofs.Keys.Kind.{strands_none, strands_both, strands_own}
use Rattle.ring.proofs.KindLaws.{kind_is, kind_known, kind_none}
use Rattle.ring.proofs.kind.strands_of.Goals as goal

pub returns-in_default : goal.returns-in_default
returns-in_default c = sym (strands_none _ (kind_none _ _ (sym c.try_from.ensures ∙ c.in_default.is)).1)

pub returns-then-has_opposite : goal.returns-then-has_opposite
returns-then-has_opposite c =
    let e = sym c.try_from.ensures ∙ c.in-Ok.is in
    sym (strands_both _ (kind_known _ _ e) (ap stranded (sym (kind_is _ _ e)) ∙ sym c.has_opposite.ensures ∙ c.if-has_opposite.true))

pub returns : goal.returns
returns c =
    let e = sym c.try_from.ensures ∙ c.in-Ok.is in
    sym (strands_own _ (kind_known _ _ e) (ap stranded (sym (kind_is _ _ e)) ∙ sym c.has_opposite.ensures ∙ c.if-has_opposite.false))
