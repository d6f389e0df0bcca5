-- `ring::keys::short_rooms` meets its contract.
use Rattle.std.proofs.Common.{refl, sym, ◌∙◌}
use borrow.Author.Tests.{eq-eqb, ne_eqb, le-ltb}
use Rattle.ring.proofs.KindLaws.{two_strands}
use Rattle.ring.proofs.keys.short_rooms.Goals as goal

pub returns-then-strands_of-eq2 : goal.returns-then-strands_of-eq2
returns-then-strands_of-eq2 c =
    let k = sym (two_strands c.args.kind) ∙ eq-eqb _ _ (sym c.strands_of.ensures ∙ c.if-strands_of-eq2.true) in
    rw (le-ltb _ _ c.if-first-n.false, k) refl

pub returns : goal.returns
returns c =
    let k = sym (two_strands c.args.kind) ∙ ne_eqb _ _ (λ e. c.if-strands_of-eq2.false (c.strands_of.ensures ∙ e)) in
    rw (le-ltb _ _ c.if-first-n.false, k) refl
