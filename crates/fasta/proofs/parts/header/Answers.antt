-- What `fasta::parts::header` hands back: the part between the mark and the line's end, and its place, by `Replies`.
-- Assumes nothing.
use Rattle.std.proofs.Common.{arith, refl, sym}
use Rattle.fasta.proofs.Remains.{none_header, none_header_at}
use Rattle.fasta.proofs.Replies.{no_record, header_at_lem, header_part_lem}
use Rattle.fasta.proofs.parts.header.Goals as goal

pub returns-in_default : goal.returns-in_default
returns-in_default c =
    let u = no_record _ c.in_default.ensures in
    record { value = sym (none_header _ u); place = (refl, omega (arith, none_header_at _ u)) }

pub returns : goal.returns
returns c = record {
  value = header_part_lem _ _ _ c.in-Some.ensures;
  place = (refl, omega (arith, header_at_lem _ _ c.in-Some.ensures.found c.in-Some.ensures.some));
}
