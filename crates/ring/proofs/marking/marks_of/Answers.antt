-- `ring::marking::marks_of` meets its contract.
use Rattle.std.proofs.Common.{sym, ◌∙◌, ap, arith}
use Rattle.ring.specs.declared.answer.Marked.{Marked}
use Rattle.ring.proofs.MarkLaws.{marks_plain, marks_stranded, start_below}
use Rattle.ring.proofs.marking.marks_of.Goals as goal

pub returns-then-has_opposite : goal.returns-then-has_opposite
returns-then-has_opposite c =
    let k = sym c.has_opposite.ensures ∙ c.if-has_opposite.true in
    let e = c.marks.ensures ∙ marks_stranded _ _ k _ c.read.ensures.value in
    record { value = e; inside = rw (ap (λ (m : Marked). m.start) e) (start_below _ _ c.requires) }

pub returns : goal.returns
returns c =
    let k = sym c.has_opposite.ensures ∙ c.if-has_opposite.false in
    record {
      value = marks_plain _ _ k _ (rw c.given.ensures.value at c.start_of.ensures.value);
      inside = omega arith;
    }
