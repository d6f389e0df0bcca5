-- What `fasta::parts::rest` hands back: the part from the next header on, and its place, by `Replies`.
-- Assumes nothing.
use Rattle.std.proofs.Common.{arith, refl, sym}
use Rattle.std.proofs.lemmas.List.{take_rest}
use Rattle.fasta.proofs.Remains.{none_rest, none_rest_at}
use Rattle.fasta.proofs.Replies.{no_record, stands_behind, rest_found, rest_at_lem, rest_part_lem}
use Rattle.fasta.proofs.parts.rest.Goals as goal

pub returns-in_default : goal.returns-in_default
returns-in_default c =
    let u = no_record _ c.in_default.ensures in
    record { value = sym (none_rest _ u); place = (refl, omega (arith, none_rest_at _ u)) }

pub returns : goal.returns
returns c =
    let f = c.in-Some.ensures in
    let n = rw take_rest at c.next_header.ensures in
    let s = rest_found _ _ f.0 f.1 _ (stands_behind _ _ _ _ f.0.within n) in
    record {
      value = rest_part_lem _ _ f.0 f.1 _ s;
      place = (refl, omega (arith, rest_at_lem _ _ f.0 f.1 _ s));
    }
