-- Each answer is the number of the first rule that holds, by `Replies`.
use Rattle.std.proofs.Common.{arith}
use Rattle.sheet.specs.Demands.{first_of_tag, last_of_tag}
use Rattle.sheet.proofs.Replies.{wrong_test, strand_wrong, form_few, form_wrong, form_none, form_many, form_far, form_done}
use Rattle.sheet.proofs.trailer.Points.at_end.Goals.{then-tag0-ne-TAG_FIRST-via-then-tag0-ne-TAG_FIRST, then-tag0-ne-TAG_FIRST-via-else-tag0-ne-TAG_FIRST+then-tag1-ne-TAG_LAST, then-tag0-ne-TAG_FIRST-via-else-tag0-ne-TAG_FIRST+else-tag1-ne-TAG_LAST+then-strands_of-strand}
use Rattle.sheet.proofs.trailer.Points.at_end.Goals as goal

pub returns-in_default-clause-form : goal.returns-in_default-clause-form
returns-in_default-clause-form c = form_few c.args.bytes.now c.in_default.ensures.cases

pub returns-then-tag0-ne-TAG_FIRST-clause-form : goal.returns-then-tag0-ne-TAG_FIRST-clause-form
returns-then-tag0-ne-TAG_FIRST-clause-form c =
    let t = c.in-Some.trailer.now in
    let s = c.in-Some.ensures.cases in
    form_wrong c.args.bytes.now t _ s.1 s.2
    (elim c.then-tag0-ne-TAG_FIRST.branch [
      | then-tag0-ne-TAG_FIRST-via-then-tag0-ne-TAG_FIRST w ↦ wrong_test t (first_of_tag w.if-tag0-ne-TAG_FIRST.true)
      | then-tag0-ne-TAG_FIRST-via-else-tag0-ne-TAG_FIRST+then-tag1-ne-TAG_LAST w ↦ wrong_test t (last_of_tag w.if-tag1-ne-TAG_LAST.true)
      | then-tag0-ne-TAG_FIRST-via-else-tag0-ne-TAG_FIRST+else-tag1-ne-TAG_LAST+then-strands_of-strand w ↦
          strand_wrong t w.if-tag0-ne-TAG_FIRST.false w.if-tag1-ne-TAG_LAST.false _ w.strands_of.ensures (omega (arith, w.if-strands_of-strand.true))
    ])

pub returns-then-n-gt-MOST-clause-form : goal.returns-then-n-gt-MOST-clause-form
returns-then-n-gt-MOST-clause-form c =
    let s = c.in-Some.ensures.cases in
    form_many c.args.bytes.now _ _ s.1 s.2 c.if-tag0-ne-TAG_FIRST.false c.if-tag1-ne-TAG_LAST.false _ c.strands_of.ensures c.if-strands_of-strand.false
    _ c.from_le_bytes-n.ensures c.if-n-eq0.false c.if-n-gt-MOST.true

pub returns-then-n-eq0-clause-form : goal.returns-then-n-eq0-clause-form
returns-then-n-eq0-clause-form c =
    let s = c.in-Some.ensures.cases in
    form_none c.args.bytes.now _ _ s.1 s.2 c.if-tag0-ne-TAG_FIRST.false c.if-tag1-ne-TAG_LAST.false _ c.strands_of.ensures c.if-strands_of-strand.false
    _ c.from_le_bytes-n.ensures c.if-n-eq0.true

pub returns-then-front-n-clause-form : goal.returns-then-front-n-clause-form
returns-then-front-n-clause-form c =
    let s = c.in-Some.ensures.cases in
    form_far c.args.bytes.now _ _ s.1 s.2 c.if-tag0-ne-TAG_FIRST.false c.if-tag1-ne-TAG_LAST.false _ c.strands_of.ensures c.if-strands_of-strand.false
    _ c.from_le_bytes-n.ensures c.if-n-eq0.false c.if-n-gt-MOST.false c.if-front-n.true

pub returns-clause-form : goal.returns-clause-form
returns-clause-form c =
    let s = c.in-Some.ensures.cases in
    form_done c.args.bytes.now _ _ s.1 s.2 c.if-tag0-ne-TAG_FIRST.false c.if-tag1-ne-TAG_LAST.false _ c.strands_of.ensures c.if-strands_of-strand.false
    _ c.from_le_bytes-n.ensures c.if-n-eq0.false c.if-n-gt-MOST.false c.if-front-n.false
