-- Two outcomes of a public call that both meet its contract are equal: the answer, and the lent room afterwards.
-- `Post` is the contract itself, as the check reads it from the source: of the arguments, the answer, and what is lent at exit.
-- Assumes nothing.
use mathlib.Core.Path.{◌≡◌}
use Rattle.words.proofs.Order.Search.{promised_one}
use Rattle.fasta.proofs.Tellings.{found_one, record_one}
use contract.Lifetimes
use borrow.Fn.World
use borrow.Fn.Kinds as Fn
use denote.Triple.Clauses
use Rattle.fasta.specs.contracts.parts.find
use Rattle.fasta.proofs.parts.find.Kinds as find-kinds
use Rattle.fasta.proofs.parts.find.Reads as find-reads
use Rattle.fasta.specs.contracts.reader.record as whole
use Rattle.fasta.proofs.reader.record.Kinds as whole-kinds
use Rattle.fasta.proofs.reader.record.Reads as whole-reads
use Rattle.fasta.specs.contracts.parts.header
use Rattle.fasta.proofs.parts.header.Kinds as header-kinds
use Rattle.fasta.proofs.parts.header.Reads as header-reads
use Rattle.fasta.specs.contracts.parts.rest
use Rattle.fasta.proofs.parts.rest.Kinds as rest-kinds
use Rattle.fasta.proofs.parts.rest.Reads as rest-reads

pub find_determined : (κs : Lifetimes.Lfts 1) (a : World.ArgsD find.signature κs) (r s : World.ResD find.signature κs) (e f : Clauses.AtExit (Fn.ended_of 1 find-kinds.ps find-kinds.r) κs)
    → find-reads.Post κs a r e → find-reads.Post κs a s f → r ≡ s
find_determined κs a r s e f p q = found_one r s (promised_one p q)

pub record_determined : (κs : Lifetimes.Lfts 2) (a : World.ArgsD whole.signature κs) (r s : World.ResD whole.signature κs) (e f : Clauses.AtExit (Fn.ended_of 2 whole-kinds.ps whole-kinds.r) κs)
    → whole-reads.Post κs a r e → whole-reads.Post κs a s f → (r ≡ s) × (e.1.0.now ≡ f.1.0.now)
record_determined κs a r s e f p q = (record_one r s (promised_one p.0 q.0), promised_one p.1 q.1)

pub header_determined : (κs : Lifetimes.Lfts 1) (a : World.ArgsD header.signature κs) (r s : World.ResD header.signature κs) (e f : Clauses.AtExit (Fn.ended_of 1 header-kinds.ps header-kinds.r) κs)
    → header-reads.Post κs a r e → header-reads.Post κs a s f → (r.now ≡ s.now) × (r.ref_ptr.0 ≡ s.ref_ptr.0) × (r.ref_ptr.1 ≡ s.ref_ptr.1)
header_determined κs a r s e f p q = (promised_one p.0 q.0, promised_one p.1.0 q.1.0, promised_one p.1.1 q.1.1)

pub rest_determined : (κs : Lifetimes.Lfts 1) (a : World.ArgsD rest.signature κs) (r s : World.ResD rest.signature κs) (e f : Clauses.AtExit (Fn.ended_of 1 rest-kinds.ps rest-kinds.r) κs)
    → rest-reads.Post κs a r e → rest-reads.Post κs a s f → (r.now ≡ s.now) × (r.ref_ptr.0 ≡ s.ref_ptr.0) × (r.ref_ptr.1 ≡ s.ref_ptr.1)
rest_determined κs a r s e f p q = (promised_one p.0 q.0, promised_one p.1.0 q.1.0, promised_one p.1.1 q.1.1)
