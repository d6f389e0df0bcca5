-- What `fasta::scan::find_header_line` answers is a header line, so it has a byte.
-- Assumes nothing.
use Rattle.std.proofs.Common.{◌+◌, arith}
use Rattle.std.proofs.lemmas.List.{take_rest}
use Rattle.fasta.specs.Scan.{HeaderLine}
use Rattle.fasta.proofs.Replies.{stands_behind, header_order}
use Rattle.fasta.proofs.scan.find_header_line.Goals as goal

pub invariant_of-result : goal.invariant_of-result
invariant_of-result c =
    let f = c.in_ok-mark.ensures in
    let e = rw take_rest at c.line_end.ensures in
    let g : HeaderLine c.args.text.now c.in_ok-mark.mark (c.in_ok-mark.mark + c.line_end.result) = record { found = f.0; some = f.1; end = stands_behind _ _ _ _ f.0.within e } in
    record { marked = omega (arith, header_order _ _ _ g) }
