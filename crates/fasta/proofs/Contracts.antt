-- Whatever meets a public call's contract is the call of `specs/Calls` of the same name: so the theorems of `Demands` are about the calls.
-- `Post` is the contract itself, as the check reads it from the source: of the arguments, the answer, and what is lent at exit.
-- Assumes nothing.
use contract.Lifetimes
use borrow.Fn.World
use borrow.Fn.Kinds as Fn
use denote.Triple.Clauses
use Rattle.fasta.specs.Told.{told_record, told_found}
use Rattle.fasta.specs.Calls.{FindCall, RecordCall, HeaderCall, RestCall}
use Rattle.fasta.specs.contracts.parts.find
use Rattle.fasta.proofs.parts.find.Kinds as find-kinds
use Rattle.fasta.proofs.parts.find.Reads as find-reads
use Rattle.fasta.specs.contracts.reader.record as whole
use Rattle.fasta.proofs.reader.record.Kinds as whole-kinds
use Rattle.fasta.proofs.reader.record.Reads as whole-reads
use Rattle.fasta.specs.contracts.parts.header
use Rattle.fasta.proofs.parts.header.Kinds as header-kinds
use Rattle.fasta.proofs.parts.header.Reads as header-reads
use Rattle.fasta.specs.contracts.parts.rest
use Rattle.fasta.proofs.parts.rest.Kinds as rest-kinds
use Rattle.fasta.proofs.parts.rest.Reads as rest-reads

pub find_call : (κs : Lifetimes.Lfts 1) (a : World.ArgsD find.signature κs) (r : World.ResD find.signature κs) (e : Clauses.AtExit (Fn.ended_of 1 find-kinds.ps find-kinds.r) κs)
    → find-reads.Post κs a r e → FindCall a.0.now (told_found r)
find_call κs a r e p = record { answer = p }

pub record_call : (κs : Lifetimes.Lfts 2) (a : World.ArgsD whole.signature κs) (r : World.ResD whole.signature κs) (e : Clauses.AtExit (Fn.ended_of 2 whole-kinds.ps whole-kinds.r) κs)
    → whole-reads.Post κs a r e → RecordCall a.0.now a.1.0.now (told_record r) e.1.0.now
record_call κs a r e p = record { answer = p.0; leaves = p.1 }

pub header_call : (κs : Lifetimes.Lfts 1) (a : World.ArgsD header.signature κs) (r : World.ResD header.signature κs) (e : Clauses.AtExit (Fn.ended_of 1 header-kinds.ps header-kinds.r) κs)
    → header-reads.Post κs a r e → HeaderCall a.0.now a.0.ref_ptr r.now r.ref_ptr
header_call κs a r e p = record { is = p.0; block = p.1.0; stands = p.1.1 }

pub rest_call : (κs : Lifetimes.Lfts 1) (a : World.ArgsD rest.signature κs) (r : World.ResD rest.signature κs) (e : Clauses.AtExit (Fn.ended_of 1 rest-kinds.ps rest-kinds.r) κs)
    → rest-reads.Post κs a r e → RestCall a.0.now a.0.ref_ptr r.now r.ref_ptr
rest_call κs a r e p = record { is = p.0; block = p.1.0; stands = p.1.1 }
