-- `fasta::scan::find_header` where the mark stands at the text's front, where it stands behind a line's end, and what its loop keeps as it begins.
-- Assumes nothing.
use Rattle.std.proofs.Common.{rules, sym, ◌∙◌}
use Rattle.std.proofs.lemmas.List.{take_rest}
use Rattle.fasta.specs.Scan.{header_from}
use Rattle.fasta.proofs.Scanning.{begins_some, turned_some, seek_next}
use Rattle.fasta.proofs.scan.find_header.Goals as goal

pub returns-then-begins_with : goal.returns-then-begins_with
unfolding header_from
returns-then-begins_with c =
    let e = sym c.begins_with.ensures ∙ c.if-begins_with.true in
    (record { within = search rules; is = rw e }, begins_some _ _ e)

pub loop-i-init : goal.loop-i-init
unfolding header_from
loop-i-init c = record { within = search rules; same = rw (sym c.begins_with.ensures ∙ c.if-begins_with.false) }

pub returns-then-header_follows : goal.returns-then-header_follows
returns-then-header_follows c =
    let k = rw take_rest at (sym c.is_kept.ensures ∙ c.if-is_kept.false) in
    let t = rw take_rest at (sym c.header_follows.ensures ∙ c.if-header_follows.true) in
    (seek_next _ _ _ _ c.loop-i.invariant c.loop-i-test.true (rw (k, t)), turned_some _ _ _ t)
